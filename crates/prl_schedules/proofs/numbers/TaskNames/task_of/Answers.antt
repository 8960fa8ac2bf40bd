use Rattle.prl_base.proofs.Standard.{◌≡◌, ◌<◌, ℕ, List, length, Option, Some, None, arith, sym, ◌∙◌, ap, subst, option_map}
use Rattle.prl_names.specs.Lookups.{index_of}
use Rattle.prl_schedules.specs.Vocabulary.{task_no, task_of, names_of}
use Rattle.prl_schedules.proofs.Numbering.{task_is_index, index_below}
use Rattle.prl_schedules.proofs.numbers.TaskNames.task_of.Goals as goal

pub returns-in-Some-clause-exact : goal.returns-in-Some-clause-exact
returns-in-Some-clause-exact c =
    let names : List (List ℕ) = names_of c.self.inside.tasks.now in
    let seen : names ≡ c.args.self.now = c.self.view_is in
    let at : index_of names c.args.name.now ≡ Some c.in-Some.number = sym (c.self.invariant c.args.name.now) ∙ sym c.found.ensures ∙ c.in-Some.is in
    subst (λ (ns : List (List ℕ)). Some (task_no c.in-Some.number) ≡ task_of ns c.args.name.now) seen
    (sym (task_is_index 0 names c.args.name.now ∙ ap (λ (o : Option ℕ). option_map task_no o) at))

pub returns-in-Some-clause-task : goal.returns-in-Some-clause-task
returns-in-Some-clause-task c =
    let names : List (List ℕ) = names_of c.self.inside.tasks.now in
    let seen : names ≡ c.args.self.now = c.self.view_is in
    let at : index_of names c.args.name.now ≡ Some c.in-Some.number = sym (c.self.invariant c.args.name.now) ∙ sym c.found.ensures ∙ c.in-Some.is in
    subst (λ (ns : List (List ℕ)). c.in-Some.number < length ns) seen
    (let b = index_below 0 names c.args.name.now c.in-Some.number at in omega (arith, b))

pub returns-in-None-clause-exact : goal.returns-in-None-clause-exact
returns-in-None-clause-exact c =
    let names : List (List ℕ) = names_of c.self.inside.tasks.now in
    let seen : names ≡ c.args.self.now = c.self.view_is in
    let at : index_of names c.args.name.now ≡ None = sym (c.self.invariant c.args.name.now) ∙ sym c.found.ensures ∙ c.in-None.is in
    subst (λ (ns : List (List ℕ)). None ≡ task_of ns c.args.name.now) seen
    (sym (task_is_index 0 names c.args.name.now ∙ ap (λ (o : Option ℕ). option_map task_no o) at))

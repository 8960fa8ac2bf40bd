use Rattle.std.proofs.Common.{◌≡◌, ◌∙◌, ◌++◌, List, ap, drop, length, slice_get, subst, sym, take, take_at}
use Rattle.prl_base.specs.declared.values.Value.{Value}
use Rattle.prl_flow.specs.declared.programs.App.{App}
use Rattle.prl_evaluation.specs.Vocabulary.{AreSolution, Run}
use Rattle.prl_evaluation.proofs.Solutions.{full_solution, none_under_way}
use Rattle.prl_evaluation.proofs.evaluation.solution.Goals as goal

pub new_runs-requires : goal.new_runs-requires
new_runs-requires c = λ k app found.
    let b = c.requires.have k app (ap (λ (us : List App). slice_get us k) (sym c.apps.ensures.apps) ∙ found) in
    (b.body, b.named)

pub fill_all-requires-clause-under_way : goal.fill_all-requires-clause-under_way
fill_all-requires-clause-under_way c =
    let runs : List Run = c.in_ok-runs.runs.items in
    rw (c.deref_mut.ensures.value, c.deref_mut-2.ensures.value)
    (none_under_way c.args.setting.now c.requires runs (c.in_ok-runs.ensures.number ∙ ap length c.apps.ensures.apps)
    (λ k app r applied there. c.in_ok-runs.ensures.each k app r (ap (λ (us : List App). slice_get us k) c.apps.ensures.apps ∙ applied) there)
    c.in_ok-flows.flows.items c.in_ok-flows.ensures.number c.in_ok-flows.ensures.empty)

pub fill_all-requires-clause-empty : goal.fill_all-requires-clause-empty
fill_all-requires-clause-empty c = rw c.deref_mut.ensures.value c.in_ok-flows.ensures.empty

pub returns : goal.returns
returns c =
    let s = c.args.setting.now in
    let runs : List Run = c.in_ok-runs.runs.items in
    let old : List (List Value) = c.in_ok-flows.flows.items in
    let new : List (List Value) = c.fill_all.new.flows in
    let size : length new ≡ c.in_ok-flows.flows.len = c.fill_all.auto.flows ∙ c.deref_mut.ensures.len in
    let kept : take c.in_ok-flows.flows.len (new ++ drop (length new) old) ≡ new = take_at new (drop (length new) old) c.in_ok-flows.flows.len size in
    subst (AreSolution s.flat.now s.clocks.now s.bodies.now s.sensors.now s.until) (sym (c.new.ensures ∙ kept))
    (full_solution s c.requires runs (c.in_ok-runs.ensures.number ∙ ap length c.apps.ensures.apps)
    (λ k app r applied there. c.in_ok-runs.ensures.each k app r (ap (λ (us : List App). slice_get us k) c.apps.ensures.apps ∙ applied) there)
    c.solutions_are_of_their_clocks.ensures c.programs_have_one_solution.ensures c.fill_all.new.flows c.fill_all.new.runs c.in_ok-fill_all.ensures.under_way c.in_ok-fill_all.ensures.full)

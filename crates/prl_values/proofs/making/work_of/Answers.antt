use Rattle.prl_base.proofs.Standard.{◌≡◌, ℕ, List, sym, ap, subst, ◌∙◌, option_copied}
use Rattle.prl_base.specs.Names.{IsName}
use Rattle.prl_body.specs.Bodies.{body_named}
use Rattle.prl_plan.specs.Vocabulary.{IsTask, task_at}
use Rattle.prl_plan.specs.declared.graphs.Task.{Task}
use Rattle.prl_plan.proofs.RoundPeriods.{task_is}
use Rattle.prl_values.specs.JobValues.{word_of}
use Rattle.prl_values.proofs.TaskNames.{node_word, task_read}
use Rattle.prl_values.proofs.making.work_of.Goals as goal

pub of_word-requires : goal.of_word-requires
of_word-requires c =
    let tasks = c.as_slice.ensures ∙ ap (λ g. g.tasks) c.graph.ensures.graph in
    let at : c.index-as_slice-i.result ≡ task_at c.args.plan.now.graph c.args.i.0 =
    task_read c.as_slice.result.now c.args.plan.now.graph.tasks c.args.i.0 c.index-as_slice-i.result tasks c.requires.task c.index-as_slice-i.is in
    let is : IsTask c.args.plan.now.graph.hyper (task_at c.args.plan.now.graph c.args.i.0) =
    task_is c.args.plan.now.graph c.plan_is_one.ensures.graph c.args.i.0 c.requires.task in
    let kind = ap (λ (t : Task). t.kind) (sym at) ∙ c.in-Node.is in
    subst IsName (sym c.word_of.ensures) (
    subst (λ (bytes : List ℕ). IsName (word_of bytes)) (sym (c.bytes.ensures ∙ ap (λ (t : Task). t.name) at))
    (node_word (task_at c.args.plan.now.graph c.args.i.0).kind c.in-Node.field-0 (task_at c.args.plan.now.graph c.args.i.0).name kind is.name))

pub unreachable-requires : goal.unreachable-requires
unreachable-requires c =
    let tasks = c.as_slice.ensures ∙ ap (λ g. g.tasks) c.graph.ensures.graph in
    let at : c.index-as_slice-i.result ≡ task_at c.args.plan.now.graph c.args.i.0 =
    task_read c.as_slice.result.now c.args.plan.now.graph.tasks c.args.i.0 c.index-as_slice-i.result tasks c.requires.task c.index-as_slice-i.is in
    let has = c.requires.bodies.each c.args.i.0 c.in-Node.field-0 c.requires.task (ap (λ (t : Task). t.kind) (sym at) ∙ c.in-Node.is) in
    let word : c.in_ok-word-in-Node.word ≡ word_of (task_at c.args.plan.now.graph c.args.i.0).name =
    c.in_ok-word-in-Node.ensures ∙ c.word_of.ensures ∙ ap word_of (c.bytes.ensures ∙ ap (λ (t : Task). t.name) at) in
    absurd (cc (ap option_copied (sym c.in-None.is) ∙ c.of.ensures ∙ (ap (body_named c.args.bodies.now) word ∙ has.1)))

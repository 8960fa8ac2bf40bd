use Rattle.prl_base.proofs.Standard.{◌∙◌, ◌+◌, ◌<◌, List, All-push, ap, drop, length, subst, sym, take}
use Rattle.prl_base.specs.declared.numbers.TaskNo.{TaskNo}
use Rattle.prl_timetext.specs.Names.{names_joined}
use Rattle.prl_times.specs.Names.{AreOfPlan}
use Rattle.prl_times.proofs.Commas.{cut_at, lacks_last, lacks_part, last_one}
use Rattle.prl_times.proofs.Refusals.{at_none, match_none}
use Rattle.prl_times.proofs.names.tasks_named.Goals as goal

pub returns-in_default-task_named : goal.returns-in_default-task_named
returns-in_default-task_named c =
    lacks_part c.args.plan.now.graph c.more.tasks.items c.args.word.now c.more.rest.now c.more.invariant.1 (take c.in-Some.k c.more.rest.now) (drop (c.in-Some.k + 1) c.more.rest.now)
    (cut_at c.more.rest.now c.in-Some.k c.in-Some.ensures.0 c.in-Some.ensures.1) c.in-Some.ensures.2
    (at_none c.task_named.result c.task_named.ensures.none c.in_default-task_named.not-Some)

pub returns-in_default-task_named-2 : goal.returns-in_default-task_named-2
returns-in_default-task_named-2 c =
    lacks_last c.args.plan.now.graph c.more.tasks.items c.args.word.now c.more.rest.now c.more.invariant.1 (match_none c.comma_in.result _ c.comma_in.ensures c.in_default.not-Some)
    (at_none c.task_named-2.result c.task_named-2.ensures.none c.in_default-task_named-2.not-Some)

pub returns : goal.returns
returns c = (
  subst (λ (xs : List TaskNo). AreOfPlan c.args.plan.now.graph xs) (sym c.in_ok-push-2.ensures.items)
      (All-push (λ (task : TaskNo). task.0 < length c.args.plan.now.graph.tasks) c.more.tasks.items c.in-Some-task_named-2.task c.more.invariant.0 c.in-Some-task_named-2.ensures.some.0),
  ap (λ (xs : List TaskNo). names_joined c.args.plan.now.graph xs) c.in_ok-push-2.ensures.items
      ∙ last_one c.args.plan.now.graph c.more.tasks.items c.args.word.now c.more.rest.now c.more.invariant.1 c.in-Some-task_named-2.task c.in-Some-task_named-2.ensures.some.1,
)

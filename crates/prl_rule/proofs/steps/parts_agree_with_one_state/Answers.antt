use Rattle.prl_rule.specs.PlanLaws.{PlanLaws}
use Rattle.prl_rule.proofs.Telling.{part_agrees, clock_agrees, parts_apart, clocks_apart, count_in_jobs, due_has_ended}
use Rattle.prl_rule.proofs.steps.parts_agree_with_one_state.Goals as goal

pub returns : goal.returns
returns c =
    let laws : PlanLaws = c.plan_laws.ensures in record {
      tasks = λ k run v w es words views id i view p a has. part_agrees k run v w es words views id i view p a has.seat has.part;
      clock = λ k run v w es words views id view r a has. clock_agrees k run v w es words views id view r a has.seat has.part;
      tasks_apart = λ k run v w es words views id other i view theirs p q a has there. parts_apart k run v w es words views id other i view theirs p q a has.seat has.part there.seat there.part;
      clocks_apart = λ k run v w es words views id other view theirs r q a has there. clocks_apart k run v w es words views id other view theirs r q a has.seat has.part there.seat there.part;
      known = λ k run v w es words views id view other a at has. (a.each_view id view at).known other has;
      counted = λ k run v w es words views i a task. count_in_jobs k run v laws w es words views i a task;
      due = λ k run v w es words views i n a gate job due. due_has_ended k run v (laws.kept run a.facts) w es words views i n a gate job due;
    }

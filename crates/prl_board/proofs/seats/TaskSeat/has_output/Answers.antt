use Rattle.std.proofs.Common.{◌≡◌, ◌+◌, ℕ, sym, ap, subst, ◌∙◌}
use Rattle.prl_plan.specs.declared.graphs.Kind.TheVariants as kinds
use Rattle.prl_plan.specs.Jobs.{task_at}
use Rattle.prl_rule.specs.Known.{job_values_of}
use Rattle.prl_values.specs.declared.workers.Work.TheVariants as works
use Rattle.prl_values.specs.Workers.{IsWork, once}
use Rattle.prl_board.specs.Closings.{IsNoActuator}
use Rattle.prl_seats.specs.JobSeats.{JobSeatView}
use Rattle.prl_board.proofs.seats.TaskSeat.has_output.Goals as goal

pub returns-in-Actuator-clause-yes : goal.returns-in-Actuator-clause-yes
returns-in-Actuator-clause-yes c = λ k known.
    let kept = c.self.invariant k (ap (λ (s : JobSeatView). s.view.constants) c.self.view_is ∙ known) in
    let work : IsWork k.plan k.bodies k.horizon.until (job_values_of k) c.self.inside.job.task.0 (c.self.inside.job.job + once c.self.inside.worker.ran) (works.Actuator c.in-Actuator.field-0) = subst (IsWork k.plan k.bodies k.horizon.until (job_values_of k) c.self.inside.job.task.0 (c.self.inside.job.job + once c.self.inside.worker.ran)) c.in-Actuator.is kept.1.work in
    subst (λ (s : JobSeatView). (a : ℕ) × ((task_at k.plan.graph s.task.0).kind ≡ kinds.Actuator a)) c.self.view_is work.0

pub returns-in-Sensor-clause-no : goal.returns-in-Sensor-clause-no
returns-in-Sensor-clause-no c = λ k known.
    let kept = c.self.invariant k (ap (λ (s : JobSeatView). s.view.constants) c.self.view_is ∙ known) in
    let work : IsWork k.plan k.bodies k.horizon.until (job_values_of k) c.self.inside.job.task.0 (c.self.inside.job.job + once c.self.inside.worker.ran) (works.Sensor c.in-Sensor.field-0) = subst (IsWork k.plan k.bodies k.horizon.until (job_values_of k) c.self.inside.job.task.0 (c.self.inside.job.job + once c.self.inside.worker.ran)) c.in-Sensor.is kept.1.work in
    subst (λ (s : JobSeatView). IsNoActuator k s.task.0) c.self.view_is (λ a is. let e : kinds.Sensor c.in-Sensor.field-0 ≡ kinds.Actuator a = sym work ∙ is in cc e)

pub returns-in-Node-clause-no : goal.returns-in-Node-clause-no
returns-in-Node-clause-no c = λ k known.
    let kept = c.self.invariant k (ap (λ (s : JobSeatView). s.view.constants) c.self.view_is ∙ known) in
    let work : IsWork k.plan k.bodies k.horizon.until (job_values_of k) c.self.inside.job.task.0 (c.self.inside.job.job + once c.self.inside.worker.ran) (works.Node c.in-Node.word c.in-Node.machine) = subst (IsWork k.plan k.bodies k.horizon.until (job_values_of k) c.self.inside.job.task.0 (c.self.inside.job.job + once c.self.inside.worker.ran)) c.in-Node.is kept.1.work in
    subst (λ (s : JobSeatView). IsNoActuator k s.task.0) c.self.view_is (λ a is. let e : kinds.Node work.0.0 ≡ kinds.Actuator a = sym work.0.1 ∙ is in cc e)

use Rattle.prl_base.proofs.Standard.{arith, ◌≡◌, ◌+◌, ◌≤◌, ℕ, List, length, take, sym, ap, subst, ◌∙◌, Some, length-take-le}
use Rattle.prl_base.specs.declared.values.Value.{Value}
use Rattle.prl_plan.specs.declared.graphs.Kind.TheVariants as kinds
use Rattle.prl_rule.specs.Known.{job_values_of, run_of}
use Rattle.prl_values.specs.declared.workers.Work.TheVariants as works
use Rattle.prl_values.specs.Workers.{IsWork, once}
use Rattle.prl_board.specs.Closings.{AreOutputs, Drives}
use Rattle.prl_seats.specs.JobSeats.{JobSeatView}
use Rattle.prl_board.proofs.Outputs.{column_outputs}
use Rattle.prl_board.proofs.seats.TaskSeat.output.Goals as goal

pub slice_bounds-result-end : goal.slice_bounds-result-end
slice_bounds-result-end c =
    let k = c.requires.0 in
    let kept = c.self.invariant k (ap (λ (s : JobSeatView). s.view.constants) c.self.view_is ∙ c.requires.2) in
    let work : IsWork k.plan k.bodies k.horizon.until (job_values_of k) c.self.inside.job.task.0 (c.self.inside.job.job + once c.self.inside.worker.ran) (works.Actuator c.in-Actuator.column) = subst (IsWork k.plan k.bodies k.horizon.until (job_values_of k) c.self.inside.job.task.0 (c.self.inside.job.job + once c.self.inside.worker.ran)) c.in-Actuator.is kept.1.work in
    let below : c.self.inside.job.job ≤ (run_of k).jobs c.self.inside.job.task.0 = subst (λ (s : JobSeatView). s.job ≤ (run_of k).jobs s.task.0) (sym c.self.view_is) c.requires.4 in
    sym (length-take-le c.job.result c.as_slice.result.now (omega (arith, work.1, ap length c.as_slice.ensures.value, c.job.ensures, below)))

pub unreachable-requires : goal.unreachable-requires
unreachable-requires c =
    let k = c.requires.0 in
    let kept = c.self.invariant k (ap (λ (s : JobSeatView). s.view.constants) c.self.view_is ∙ c.requires.2) in
    let work : IsWork k.plan k.bodies k.horizon.until (job_values_of k) c.self.inside.job.task.0 (c.self.inside.job.job + once c.self.inside.worker.ran) (works.Sensor c.in-Sensor.field-0) = subst (IsWork k.plan k.bodies k.horizon.until (job_values_of k) c.self.inside.job.task.0 (c.self.inside.job.job + once c.self.inside.worker.ran)) c.in-Sensor.is kept.1.work in
    let drives : Drives k c.self.inside.job.task.0 c.requires.1 = subst (λ (s : JobSeatView). Drives k s.task.0 c.requires.1) (sym c.self.view_is) c.requires.3 in
    let e : kinds.Sensor c.in-Sensor.field-0 ≡ kinds.Actuator c.requires.1 = sym work ∙ drives.kind in cc e

pub unreachable-requires-in-Node : goal.unreachable-requires-in-Node
unreachable-requires-in-Node c =
    let k = c.requires.0 in
    let kept = c.self.invariant k (ap (λ (s : JobSeatView). s.view.constants) c.self.view_is ∙ c.requires.2) in
    let work : IsWork k.plan k.bodies k.horizon.until (job_values_of k) c.self.inside.job.task.0 (c.self.inside.job.job + once c.self.inside.worker.ran) (works.Node c.in-Node.word c.in-Node.machine) = subst (IsWork k.plan k.bodies k.horizon.until (job_values_of k) c.self.inside.job.task.0 (c.self.inside.job.job + once c.self.inside.worker.ran)) c.in-Node.is kept.1.work in
    let drives : Drives k c.self.inside.job.task.0 c.requires.1 = subst (λ (s : JobSeatView). Drives k s.task.0 c.requires.1) (sym c.self.view_is) c.requires.3 in
    let e : kinds.Node work.0.0 ≡ kinds.Actuator c.requires.1 = sym work.0.1 ∙ drives.kind in cc e

pub returns : goal.returns
returns c = λ k known.
    let same : c.requires.0 ≡ k = (let e : Some c.requires.0 ≡ Some k = sym c.requires.2 ∙ known in cc e) in
    let kept = c.self.invariant k (ap (λ (s : JobSeatView). s.view.constants) c.self.view_is ∙ known) in
    let steps : ℕ = c.self.inside.job.job + once c.self.inside.worker.ran in
    let work : IsWork k.plan k.bodies k.horizon.until (job_values_of k) c.self.inside.job.task.0 steps (works.Actuator c.in-Actuator.column) = subst (IsWork k.plan k.bodies k.horizon.until (job_values_of k) c.self.inside.job.task.0 steps) c.in-Actuator.is kept.1.work in
    let below : c.self.inside.job.job ≤ (run_of k).jobs c.self.inside.job.task.0 =
    subst (λ z. c.self.inside.job.job ≤ (run_of z).jobs c.self.inside.job.task.0) same (subst (λ (s : JobSeatView). s.job ≤ (run_of c.requires.0).jobs s.task.0) (sym c.self.view_is) c.requires.4) in
    let whole = column_outputs k c.self.inside.job.task.0 c.self.inside.job.job steps c.in-Actuator.column.items (omega arith) (omega (arith, work.1, below)) work.2 in
    subst (λ (s : JobSeatView). AreOutputs k s.task.0 s.job (take c.job.result c.as_slice.result.now)) c.self.view_is
    (subst (λ (xs : List Value). AreOutputs k c.self.inside.job.task.0 c.self.inside.job.job (take c.job.result xs)) (sym c.as_slice.ensures.value)
    (subst (λ (n : ℕ). AreOutputs k c.self.inside.job.task.0 c.self.inside.job.job (take n c.in-Actuator.column.items)) (sym c.job.ensures) whole))

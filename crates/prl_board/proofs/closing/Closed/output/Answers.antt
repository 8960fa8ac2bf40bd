use Rattle.prl_base.proofs.Standard.{arith, ◌≡◌, ◌+◌, ◌≤◌, ℕ, sym, ap, subst, ◌∙◌, vec_items, Some, slice_get}
use Rattle.prl_base.specs.declared.numbers.TaskNo.{TaskNo}
use Rattle.prl_rule.specs.Known.{run_of}
use Rattle.prl_rule.specs.declared.views.View.{View}
use Rattle.prl_board.specs.Closings.{AreOutputs, ClosedView, Drives}
use Rattle.prl_seats.specs.JobSeats.{JobSeatView}
use Rattle.prl_board.proofs.Actuators.{drives_after}
use Rattle.prl_board.proofs.Lists.{read_there}
use Rattle.prl_board.proofs.ClosedBoards.{left_of}
use Rattle.prl_board.proofs.closing.Closed.output.Goals as goal

pub overflow_add-task : goal.overflow_add-task
overflow_add-task c =
    let k = c.requires.0 in
    let left = left_of c.self.invariant.2 (ap (λ (d : ClosedView). d.constants) c.self.view_is ∙ c.requires.2) in
    omega (arith, drives_after k left.plan c.first_actuator.result c.requires.1 c.args.actuator (c.first_actuator.ensures k c.requires.2) c.requires.3, c.requires.3.task, left.plan.graph.few_tasks)

pub index-requires : goal.index-requires
index-requires c =
    let k = c.requires.0 in
    let left = left_of c.self.invariant.2 (ap (λ (d : ClosedView). d.constants) c.self.view_is ∙ c.requires.2) in
    let ok = c.self.inside.seats.ok in
    omega (arith, drives_after k left.plan c.first_actuator.result c.requires.1 c.args.actuator (c.first_actuator.ensures k c.requires.2) c.requires.3, c.requires.3.task, left.closed.tasks, ok)

pub output-requires : goal.output-requires
output-requires c =
    let k = c.requires.0 in
    let left = left_of c.self.invariant.2 (ap (λ (d : ClosedView). d.constants) c.self.view_is ∙ c.requires.2) in
    let sum_ = drives_after k left.plan c.first_actuator.result c.requires.1 c.args.actuator (c.first_actuator.ensures k c.requires.2) c.requires.3 in
    let at : ℕ = c.first_actuator.result + c.args.actuator in
    let there = read_there (vec_items c.self.inside.seats) at c.index.result.now (omega (arith, sum_, c.requires.3.task, left.closed.tasks)) c.index.ensures in
    let each = left.closed.each at c.index.result.now there in
    let task : c.index.result.now.task.0 ≡ at = ap (λ (t : TaskNo). t.0) each.0 in
    let P : ℕ → Type 0 = λ n. c.index.result.now.job ≤ (run_of k).jobs n in (
      k,
      c.args.actuator,
      ap (λ (v : View). v.constants) (left.lent at c.index.result.now there),
      subst (λ (n : ℕ). Drives k n c.args.actuator) (sym (task ∙ sum_)) c.requires.3,
      subst P (sym task) each.1,
    )

pub returns : goal.returns
returns c = λ k i s known drives has.
    let left = left_of c.self.invariant.2 (ap (λ (d : ClosedView). d.constants) c.self.view_is ∙ known) in
    let sum_ = drives_after k left.plan c.first_actuator.result i c.args.actuator (c.first_actuator.ensures k known) drives in
    let at : ℕ = c.first_actuator.result + c.args.actuator in
    let there = read_there (vec_items c.self.inside.seats) at c.index.result.now (omega (arith, sum_, drives.task, left.closed.tasks)) c.index.ensures in
    let task : c.index.result.now.task.0 ≡ at = ap (λ (t : TaskNo). t.0) (left.closed.each at c.index.result.now there).0 in
    let seat : c.index.result.now ≡ s = (let e : Some c.index.result.now ≡ Some s = sym there ∙ (ap (λ (n : ℕ). slice_get (vec_items c.self.inside.seats) n) sum_ ∙ (ap (λ (d : ClosedView). slice_get d.seats i) c.self.view_is ∙ has)) in cc e) in
    let P : ℕ × ℕ → Type 0 = λ z. AreOutputs k z.0 z.1 c.output.result.now in
    subst P (λ h. ((task ∙ sum_) h, ap (λ (t : JobSeatView). t.job) seat h)) (c.output.ensures k (ap (λ (v : View). v.constants) (left.lent at c.index.result.now there)))

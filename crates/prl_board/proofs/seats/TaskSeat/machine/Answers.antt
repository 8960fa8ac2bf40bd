use Rattle.std.proofs.Common.{ap, subst, sym, ◌∙◌}
use Rattle.prl_seats.specs.JobSeats.{JobSeatView}
use Rattle.prl_board.specs.TaskSeats.{IsMachineOf, IsNodeTask}
use Rattle.prl_board.proofs.SeatReads.{machine_is, no_machine}
use Rattle.prl_board.proofs.seats.TaskSeat.machine.Goals as goal

pub unreachable-requires : goal.unreachable-requires
unreachable-requires c =
    let k = c.requires.0 in
    let kept = c.self.invariant k (ap (λ (v : JobSeatView). v.view.constants) c.self.view_is ∙ c.requires.1) in
    no_machine k c.self.inside.job c.self.inside.worker.work _ kept.1.work c.in-None.ensures (subst (λ (s : JobSeatView). IsNodeTask k s.task.0) (sym c.self.view_is) c.requires.2)

pub returns : goal.returns
returns c = λ k known.
    let kept = c.self.invariant k (ap (λ (v : JobSeatView). v.view.constants) c.self.view_is ∙ known) in
    subst (λ (s : JobSeatView). IsMachineOf k s c.in-Some.machine.now) c.self.view_is
    (machine_is k c.self.inside.job c.self.inside.worker.work c.self.inside.worker.ran c.in-Some.machine.now kept.1.ran kept.1.work c.in-Some.ensures)

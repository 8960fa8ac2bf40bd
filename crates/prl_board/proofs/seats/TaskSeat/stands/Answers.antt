use Rattle.std.proofs.Common.{◌≡◌, Some, subst}
use Rattle.prl_seats.specs.JobSeats.{Follows, HasPartOf, JobSeatView}
use Rattle.prl_board.proofs.seats.TaskSeat.stands.Goals as goal

pub returns : goal.returns
returns c = λ k known part.
    let P : JobSeatView → Type 0 = λ s. s.view.constants ≡ Some k → HasPartOf s.task.0 s.view → Follows k s.view s.task.0 s.job s.place s.stage in
    subst P c.self.view_is (c.stands.ensures k) known part

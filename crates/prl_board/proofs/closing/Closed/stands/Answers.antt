use Rattle.std.proofs.Common.{ap, subst, ◌∙◌}
use Rattle.prl_board.specs.Closings.{ClosedView, IsClosed}
use Rattle.prl_board.proofs.ClosedBoards.{left_of}
use Rattle.prl_board.proofs.closing.Closed.stands.Goals as goal

pub returns : goal.returns
returns c = λ k known.
    let left = left_of c.self.invariant.2 (ap (λ (d : ClosedView). d.constants) c.self.view_is ∙ known) in
    subst (λ (d : ClosedView). IsClosed k d.words d.seats) c.self.view_is left.closed

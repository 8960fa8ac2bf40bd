use Rattle.std.proofs.Common.{sym, ap, subst}
use Rattle.std.specs.Vec.{vec_items}
use Rattle.prl_rule.specs.declared.views.View.{View}
use Rattle.prl_board.specs.ClockSeats.{ClockSeatView}
use Rattle.prl_board.specs.code.Lent.{AreLent}
use Rattle.prl_board.proofs.Called.{lent_of}
use Rattle.prl_board.proofs.lone.Lone.note_due.Goals as goal

pub note_due-requires : goal.note_due-requires
note_due-requires c = ap (λ (v : View). v.constants) (lent_of c.self.view_is c.requires c.self.invariant.1).ticks.given

pub invariant_of-self : goal.invariant_of-self
invariant_of-self c = (
  c.self.invariant.0,
  (λ k has. subst (λ (s : ClockSeatView). AreLent k c.self.inside.whole.me.0 (vec_items c.self.inside.seats) s) (sym c.note_due.ensures) (c.self.invariant.1 k has)),
)

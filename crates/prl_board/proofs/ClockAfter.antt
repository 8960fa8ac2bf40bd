-- The clock's seat after a step still belongs to the board.
use Rattle.std.proofs.Common.{◌≡◌, ap, ◌∙◌}
use Rattle.prl_rule.specs.Steps.{with_clock}
use Rattle.prl_rule.specs.declared.views.ClockPart.{ClockPart}
use Rattle.prl_rule.specs.declared.views.View.{View}
use Rattle.prl_seats.specs.Boards.{BoardView}
use Rattle.prl_board.specs.ClockSeats.{ClockSeatView, IsClockOf}

pub clock_after : (b : BoardView) (before after : ClockSeatView) (r q : ClockPart) → IsClockOf b before r → after.table ≡ before.table → after.view ≡ with_clock q before.view →
    IsClockOf b after q
clock_after b before after r q is table view = record {
  table = table ∙ is.table;
  known = ap (λ (v : View). v.constants) view ∙ is.known;
  part = ap (λ (v : View). v.clock) view;
}

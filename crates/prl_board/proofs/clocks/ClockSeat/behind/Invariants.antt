use Rattle.std.specs.Prelude.{ℕ, ◌≤◌}
use Rattle.prl_rule.specs.declared.views.ClockPart.{ClockPart}
use Rattle.prl_board.specs.ClockSeats.{IsSaidBy, IsUnseen}
use Rattle.prl_board.proofs.clocks.ClockSeat.behind.Given as goal

abbrev pub invariant-loop-i : goal.invariant-loop-i
invariant-loop-i l = (r : ClockPart) → IsSaidBy l.self r → (j m : ℕ) → IsUnseen l.board.known r j m → l.i ≤ j

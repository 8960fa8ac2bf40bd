use Rattle.std.specs.Prelude.{◌≡◌, Some}
use Rattle.prl_rule.specs.Told.{TickTold}
use Rattle.prl_rule.specs.declared.views.ClockPart.{ClockPart}
use Rattle.prl_seats.proofs.board.Board.store_now.Given as goal

abbrev pub ghosts-store : goal.ghosts-store
ghosts-store a = record { told = λ before n after. (r : ClockPart) → before.clock ≡ Some r → TickTold r before after }

use Rattle.std.specs.Prelude.{◌≡◌, Some}
use Rattle.prl_rule.specs.Told.{ClockStopTold}
use Rattle.prl_rule.specs.declared.views.ClockPart.{ClockPart}
use Rattle.prl_seats.proofs.board.Board.load_clock_stop.Given as goal

abbrev pub ghosts-load : goal.ghosts-load
ghosts-load a = record { told = λ before n after. (r : ClockPart) → before.clock ≡ Some r → ClockStopTold a.self.now.known r before n after }

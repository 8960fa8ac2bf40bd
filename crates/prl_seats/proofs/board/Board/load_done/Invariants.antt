use Rattle.std.specs.Prelude.{◌≡◌, Some}
use Rattle.prl_rule.specs.Told.{LookTold}
use Rattle.prl_rule.specs.declared.views.ClockPart.{ClockPart}
use Rattle.prl_seats.proofs.board.Board.load_done.Given as goal

abbrev pub ghosts-load : goal.ghosts-load
ghosts-load a = record { told = λ before n after. (r : ClockPart) → before.clock ≡ Some r → LookTold a.self.now.known a.task r before n after }

use Rattle.prl_rule.specs.Told.{StopTold}
use Rattle.prl_seats.proofs.board.Board.load_stop.Given as goal

abbrev pub ghosts-load : goal.ghosts-load
ghosts-load a = record { told = λ before n after. StopTold a.self.now.known a.task a.place before n after }

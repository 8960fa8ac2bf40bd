use Rattle.prl_rule.specs.Told.{NowTold}
use Rattle.prl_seats.proofs.board.Board.load_now.Given as goal

abbrev pub ghosts-load : goal.ghosts-load
ghosts-load a = record { told = λ before n after. NowTold a.self.now.known a.task before n after }

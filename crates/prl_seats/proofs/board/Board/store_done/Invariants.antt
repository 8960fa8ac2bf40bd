use Rattle.prl_rule.specs.Told.{EndTold}
use Rattle.prl_seats.proofs.board.Board.store_done.Given as goal

abbrev pub ghosts-store : goal.ghosts-store
ghosts-store a = record { told = λ before n after. EndTold a.self.now.known a.task a.place before after }

use Rattle.prl_rule.specs.Told.{RaiseTold}
use Rattle.prl_seats.proofs.board.Board.raise.Given as goal

abbrev pub ghosts-store : goal.ghosts-store
ghosts-store a = record { told = λ before n after. RaiseTold a.self.now.known a.task a.place before after }

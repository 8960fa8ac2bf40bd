use Rattle.prl_rule.specs.Told.{WriteTold}
use Rattle.prl_seats.proofs.board.Board.store_half.Given as goal

abbrev pub ghosts-store : goal.ghosts-store
ghosts-store a = record { told = λ before n after. WriteTold a.self.now.known a.task a.place before after }

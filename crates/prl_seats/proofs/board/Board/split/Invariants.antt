use Rattle.prl_seats.proofs.board.Board.split.Given as goal

abbrev pub ghosts-split_as : goal.ghosts-split_as
ghosts-split_as a = record { task = a.task }

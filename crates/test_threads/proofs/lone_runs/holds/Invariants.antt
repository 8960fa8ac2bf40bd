use Rattle.test_threads.proofs.lone_runs.holds.Given as goal

-- the count is that of the blank
abbrev pub ghosts-holds_on : goal.ghosts-holds_on
ghosts-holds_on a = record { name = a.blank.name; parts = a.blank.parts }

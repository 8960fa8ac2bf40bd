use Rattle.prl_executions.proofs.running.run_text.Given as goal

abbrev pub ghosts-closed_alone : goal.ghosts-closed_alone
ghosts-closed_alone a = record { name = a.blank.name; parts = a.blank.parts }

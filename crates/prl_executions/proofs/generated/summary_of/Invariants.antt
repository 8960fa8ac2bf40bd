use Rattle.prl_executions.proofs.generated.summary_of.Given as goal

abbrev pub ghosts-closed_alone : goal.ghosts-closed_alone
ghosts-closed_alone a = record { name = a.blank.name; parts = a.blank.parts }

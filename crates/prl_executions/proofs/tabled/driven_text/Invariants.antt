use Rattle.prl_executions.proofs.tabled.driven_text.Given as goal

abbrev pub ghosts-driven : goal.ghosts-driven
ghosts-driven a = record { name = a.blank.name; parts = a.blank.parts }

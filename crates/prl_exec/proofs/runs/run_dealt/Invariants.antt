use Rattle.prl_exec.proofs.runs.run_dealt.Given as goal

abbrev pub ghosts-closed_after : goal.ghosts-closed_after
ghosts-closed_after g a = record { name = a.blank.name; parts = a.blank.parts }

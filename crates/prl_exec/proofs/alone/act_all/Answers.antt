use Rattle.prl_exec.proofs.alone.act_all.Goals as goal

pub returns-clause-told : goal.returns-clause-told
returns-clause-told g c = λ r list stands noted. c.sweep.ensures.told r list stands noted.0

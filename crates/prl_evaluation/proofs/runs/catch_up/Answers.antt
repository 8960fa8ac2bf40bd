use Rattle.prl_evaluation.proofs.runs.catch_up.Goals as goal

pub step-requires-clause-there : goal.step-requires-clause-there
step-requires-clause-there c = c.requires.there c.if-run-n.true

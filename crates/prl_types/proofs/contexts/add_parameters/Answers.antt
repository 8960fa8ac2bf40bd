use Rattle.std.proofs.Common.{append_assoc}
use Rattle.prl_types.proofs.Declared.{parameters_more}
use Rattle.prl_types.proofs.contexts.add_parameters.Goals as goal

pub loop-k-preserved : goal.loop-k-preserved
loop-k-preserved c = rw (c.in_ok-push.ensures.items, c.loop-k.invariant, append_assoc, ← parameters_more)

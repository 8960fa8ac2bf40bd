use Rattle.std.proofs.Common.{arith, rules}
use Rattle.prl_views.specs.declared.parts.TheConstants.{MOST_PROCESSORS}
use Rattle.prl_views.specs.Parts.{used_one}
use Rattle.prl_shapes.proofs.Counts.{flattened}
use Rattle.prl_views.proofs.parts.used_of.Goals as goal

pub loop-processor-preserved : goal.loop-processor-preserved
loop-processor-preserved c = record {
  told = flattened (used_one c.args.processors.now) c.loop-processor.used.items c.push_used.new.used.items _ c.loop-processor.processor MOST_PROCESSORS
      (search rules) c.in_ok-push_used.ensures.exact c.loop-processor.invariant.told;
  few = omega (arith, c.in_ok-push_used.ensures.few, c.loop-processor.invariant.few);
}

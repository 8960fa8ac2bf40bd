use Rattle.std.proofs.Common.{◌∙◌}
use Rattle.std.proofs.lemmas.List.{length-set}
use Rattle.prl_steps.specs.declared.bars.TheConstants.{COLUMNS}
use Rattle.prl_steps.proofs.Columns.{one_back}
use Rattle.prl_steps.proofs.bars.bars_of.Goals as goal

pub loop-k-preserved : goal.loop-k-preserved
loop-k-preserved c = record {
  told = one_back c.args.scale COLUMNS c.loop-k.k c.column_of-at.result c.args.steps.now c.loop-k.bars.items c.index.result.now c.joined.result _
      c.loop-k-test.true c.column_of-at.ensures.small c.loop-k.invariant.told c.column_of-at.ensures.exact c.index.ensures c.joined.ensures;
  wide = length-set c.loop-k.bars.items c.column_of-at.result _ ∙ c.loop-k.invariant.wide;
}

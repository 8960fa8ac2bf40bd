use Rattle.prl_base.proofs.Standard.{◌∙◌, sym, arith}
use Rattle.prl_dates.proofs.SpreadRounds.{ceiling_within, rising_more, rising_less}
use Rattle.prl_dates.proofs.spreads.raise_to_end.Goals as goal

pub advance-requires-clause-small : goal.advance-requires-clause-small
advance-requires-clause-small c q =
    omega (arith, ceiling_within c.args.graph.now c.requires.well c.args.lanes.now c.requires.lanes c.loop.now c.loop.invariant.long c.loop.invariant.rising.ceiling q)

pub loop-smaller : goal.loop-smaller
loop-smaller c =
    rising_less c.args.graph.now c.requires.well c.args.lanes.now c.requires.lanes c.loop.now c.advance.new.now c.loop.invariant.long c.loop.invariant.rising.ceiling c.in_ok-advance.ensures.round
    (λ same. c.in_ok-advance.ensures.moves c.if-branch.false (sym same))

pub loop-preserved : goal.loop-preserved
loop-preserved c = record {
  long = c.in_ok-advance.ensures.round.long ∙ c.loop.invariant.long;
  rising = rising_more c.args.graph.now c.requires.well c.args.lanes.now c.requires.lanes c.args.now.now c.loop.now c.advance.new.now c.loop.invariant.rising c.in_ok-advance.ensures.round;
  settled = c.in_ok-advance.ensures.settled;
  copy = c.in_ok-advance.ensures.copy;
}

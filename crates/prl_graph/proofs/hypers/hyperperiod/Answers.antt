use Rattle.prl_base.proofs.Standard.{arith, slice_get-get_or}
use Rattle.prl_base.specs.declared.operators.Clock.{Clock}
use Rattle.prl_graph.proofs.Multiples.{hyper_all, hyper_more, hyper_none, past_hyper}
use Rattle.prl_graph.proofs.hypers.hyperperiod.Goals as goal

pub loop-clock-init : goal.loop-clock-init
loop-clock-init c = record { is = hyper_none c.args.clocks.now; within = omega arith }

abbrev none : Clock
none = record { period = 0; start = 0 }

pub least_multiple-hyper-requires-clause-period : goal.least_multiple-hyper-requires-clause-period
least_multiple-hyper-requires-clause-period c = (c.requires c.loop-clock.clock-index _ (slice_get-get_or c.args.clocks.now c.loop-clock.clock-index none c.loop-clock-test.true)).0

pub least_multiple-hyper-requires-clause-small : goal.least_multiple-hyper-requires-clause-small
least_multiple-hyper-requires-clause-small c = (c.requires c.loop-clock.clock-index _ (slice_get-get_or c.args.clocks.now c.loop-clock.clock-index none c.loop-clock-test.true)).1

pub returns-then-hyper-gt-MAX_HYPER : goal.returns-then-hyper-gt-MAX_HYPER
returns-then-hyper-gt-MAX_HYPER c =
    past_hyper c.args.clocks.now c.loop-clock.clock-index c.loop-clock.hyper c.least_multiple-hyper.result _ (slice_get-get_or c.args.clocks.now c.loop-clock.clock-index none c.loop-clock-test.true)
    c.loop-clock.invariant.is c.loop-clock.invariant.within c.least_multiple-hyper.ensures (omega arith)

pub loop-clock-preserved : goal.loop-clock-preserved
loop-clock-preserved c = record {
  is = hyper_more c.args.clocks.now c.loop-clock.clock-index c.loop-clock.hyper c.least_multiple-hyper.result _
      (slice_get-get_or c.args.clocks.now c.loop-clock.clock-index none c.loop-clock-test.true)
      c.loop-clock.invariant.is c.least_multiple-hyper.ensures;
  within = omega arith;
}

pub returns : goal.returns
returns c = (hyper_all c.args.clocks.now c.loop-clock.clock-index c.loop-clock.hyper (omega arith) c.loop-clock.invariant.is, c.loop-clock.invariant.within)

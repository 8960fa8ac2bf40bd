use Rattle.prl_base.proofs.Standard.{◌≡◌, ◌<◌, Some, length, get_or, slice_get, refl, arith}
use Rattle.prl_base.specs.declared.numbers.FlowNo.{FlowNo}
use Rattle.prl_graph.proofs.Lists.{element_of, same_length}
use Rattle.prl_graph.proofs.tasks.actuator_task.Goals.{After-outs}
use Rattle.prl_graph.proofs.tasks.actuator_task.Goals as goal

module _ (c : After-outs) where
  abbrev flow : FlowNo
  flow = get_or c.outs.result.now c.args.k (record { 0 = 0 })

  there : c.args.k < length c.outs.result.now
  there = (let long = same_length c.outs.result.now c.args.flat.now.outs c.outs.ensures.outs in omega (arith, long, c.requires.within))

  found : slice_get c.args.flat.now.outs c.args.k ≡ Some flow
  found = element_of c.outs.result.now c.args.flat.now.outs c.args.k (record { 0 = 0 }) c.outs.ensures.outs there

  inside : flow.0 < length c.args.flat.now.flows
  inside = c.outs.ensures.well_formed.outs c.args.k flow found

pub bounds-outs-k : goal.bounds-outs-k
bounds-outs-k c = there (goal.at.bounds-outs-k c).After-outs

pub clock_of-requires : goal.clock_of-requires
clock_of-requires c = (let low = inside (goal.at.clock_of-requires c).After-outs in omega (arith, low, c.requires.clocks.count))

pub device_due-requires-clause-flow : goal.device_due-requires-clause-flow
device_due-requires-clause-flow c = inside (goal.at.device_due-requires-clause-flow c).After-outs

pub device_due-requires-clause-clock : goal.device_due-requires-clause-clock
device_due-requires-clause-clock c = (let low = inside (goal.at.device_due-requires-clause-clock c).After-outs in omega (arith, low, c.requires.clocks.count))

pub returns : goal.returns
returns c = record {
  flow = get_or c.outs.result.now c.args.k (record { 0 = 0 });
  found = found (goal.at.returns c).After-outs;
  is = rw (c.in_ok-new.ensures, c.bytes.ensures.bytes, c.out_name.ensures, c.clock_of.ensures, c.out_wcet.ensures, c.device_due.ensures) refl;
}

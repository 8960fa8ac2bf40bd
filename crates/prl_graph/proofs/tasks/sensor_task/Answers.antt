use Rattle.prl_base.proofs.Standard.{◌≡◌, ◌<◌, Some, length, get_or, slice_get, slice_get_within, refl, arith}
use Rattle.prl_base.specs.declared.numbers.FlowNo.{FlowNo}
use Rattle.prl_graph.proofs.Lists.{element_of, same_length}
use Rattle.prl_graph.proofs.tasks.sensor_task.Goals.{After-ins}
use Rattle.prl_graph.proofs.tasks.sensor_task.Goals as goal

module _ (c : After-ins) where
  abbrev flow : FlowNo
  flow = get_or c.ins.result.now c.args.k (record { 0 = 0 })

  there : c.args.k < length c.ins.result.now
  there = (let long = same_length c.ins.result.now c.args.flat.now.ins c.ins.ensures in omega (arith, long, c.requires.within))

  found : slice_get c.args.flat.now.ins c.args.k ≡ Some flow
  found = element_of c.ins.result.now c.args.flat.now.ins c.args.k (record { 0 = 0 }) c.ins.ensures there

  inside : flow.0 < length c.args.flat.now.flows
  inside = (let input = c.flows-flows.ensures.well_formed.ins c.args.k flow found in slice_get_within c.args.flat.now.flows flow.0 input.0 input.1)

pub bounds-ins-k : goal.bounds-ins-k
bounds-ins-k c = there (goal.at.bounds-ins-k c).After-ins

pub clock_of-requires : goal.clock_of-requires
clock_of-requires c = (let low = inside (goal.at.clock_of-requires c).After-ins in omega (arith, low, c.requires.clocks.count))

pub device_due-requires-clause-flow : goal.device_due-requires-clause-flow
device_due-requires-clause-flow c = inside (goal.at.device_due-requires-clause-flow c).After-ins

pub device_due-requires-clause-clock : goal.device_due-requires-clause-clock
device_due-requires-clause-clock c = (let low = inside (goal.at.device_due-requires-clause-clock c).After-ins in omega (arith, low, c.requires.clocks.count))

pub returns : goal.returns
returns c = record {
  flow = get_or c.ins.result.now c.args.k (record { 0 = 0 });
  found = found (goal.at.returns c).After-ins;
  is = rw (c.in_ok-new.ensures, c.bytes.ensures.bytes, c.in_name.ensures, c.clock_of.ensures, c.in_wcet.ensures, c.device_due.ensures) refl;
}

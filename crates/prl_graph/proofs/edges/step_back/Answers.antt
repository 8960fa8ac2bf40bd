use Rattle.std.proofs.Common.{◌≡◌, Some, refl, slice_get}
use Rattle.prl_flow.specs.declared.programs.Def.TheVariants as definitions
use Rattle.prl_plan.specs.declared.graphs.Producer.TheVariants as producers
use Rattle.prl_graph.specs.Ports.{node_no, sensor_no}
use Rattle.prl_graph.proofs.Lists.{item_of}
use Rattle.prl_graph.proofs.Walks.{copied_within, operand_within, produced_by}
use Rattle.prl_graph.proofs.edges.step_back.Goals as goal
use Rattle.prl_graph.proofs.edges.step_back.Goals.{After-index-flows-at}

-- the flow that is looked at
here : (c : After-index-flows-at) → slice_get c.args.flat.now.flows c.args.at.0 ≡ Some c.index-flows-at.result
here c = item_of c.flows-flows.result.now c.args.flat.now.flows c.args.at.0 c.index-flows-at.result c.flows-flows.ensures.flows c.requires c.index-flows-at.is

pub returns-in-Copy : goal.returns-in-Copy
returns-in-Copy c =
    let found = here (goal.at.returns-in-Copy c).After-index-flows-at in (
      record { flow = c.index-flows-at.result; found = found; is = c.in-Copy.is },
      copied_within c.args.flat.now c.flows-flows.ensures.well_formed c.args.at.0 c.index-flows-at.result c.in-Copy.of found c.in-Copy.is,
    )

pub returns-in-Op : goal.returns-in-Op
returns-in-Op c =
    let found = here (goal.at.returns-in-Op c).After-index-flows-at in (
      record { flow = c.index-flows-at.result; found = found; is = c.in-Op.is },
      operand_within c.args.flat.now c.flows-flows.ensures.well_formed c.args.at.0 c.index-flows-at.result c.in-Op.op c.in-Op.of found c.in-Op.is,
    )

pub returns-in-Sensor : goal.returns-in-Sensor
returns-in-Sensor c =
    produced_by c.args.flat.now c.args.at.0 c.index-flows-at.result (definitions.Sensor c.in-Sensor.field-0) (producers.Port (record { 0 = sensor_no c.args.flat.now c.in-Sensor.field-0 }) 0)
    (here (goal.at.returns-in-Sensor c).After-index-flows-at) c.in-Sensor.is refl

pub returns-in-Const : goal.returns-in-Const
returns-in-Const c =
    produced_by c.args.flat.now c.args.at.0 c.index-flows-at.result (definitions.Const c.in-Const.field-0) (producers.Constant c.in-Const.field-0)
    (here (goal.at.returns-in-Const c).After-index-flows-at) c.in-Const.is refl

pub returns-in-Apply : goal.returns-in-Apply
returns-in-Apply c =
    produced_by c.args.flat.now c.args.at.0 c.index-flows-at.result (definitions.Apply c.in-Apply.app c.in-Apply.out)
    (producers.Port (record { 0 = node_no c.args.flat.now c.in-Apply.app }) c.in-Apply.out)
    (here (goal.at.returns-in-Apply c).After-index-flows-at) c.in-Apply.is refl

use Rattle.prl_base.proofs.Standard.{sym, length-take-le}
use Rattle.prl_core.proofs.Given.{driven_column, driven_outputs, driven_room}
use Rattle.prl_core.proofs.cores.Core.output.Goals as goal

pub slice_bounds-result-end : goal.slice_bounds-result-end
slice_bounds-result-end c =
    let kept = c.self.invariant.2 in
    sym (length-take-le c.ended-ended.result c.as_slice.result.now
    (driven_room _ _ c.self.view_is _ _ kept c.task_of-i.result c.args.actuator c.task_of-i.ensures c.index.result.now c.index.ensures
    c.in-Actuator.column c.in-Actuator.is c.ended-ended.result c.ended-ended.ensures c.as_slice.result.now c.as_slice.ensures.value))

pub unreachable-requires : goal.unreachable-requires
unreachable-requires c =
    let kept = c.self.invariant.2 in
    driven_column _ _ c.self.view_is _ _ kept c.task_of-i.result c.args.actuator c.task_of-i.ensures c.index.result.now c.index.ensures _ c.in-Sensor.is

pub unreachable-requires-in-Node : goal.unreachable-requires-in-Node
unreachable-requires-in-Node c =
    let kept = c.self.invariant.2 in
    driven_column _ _ c.self.view_is _ _ kept c.task_of-i.result c.args.actuator c.task_of-i.ensures c.index.result.now c.index.ensures _ c.in-Node.is

pub returns : goal.returns
returns c =
    let kept = c.self.invariant.2 in (
      c.task_of-i.result,
      c.task_of-i.ensures,
      driven_outputs _ _ c.self.view_is _ _ kept c.task_of-i.result c.args.actuator c.task_of-i.ensures c.index.result.now c.index.ensures
          c.in-Actuator.column c.in-Actuator.is c.ended-ended.result c.ended-ended.ensures c.as_slice.result.now c.as_slice.ensures.value
          (c.machine_laws.ensures _ kept.plan kept.horizon kept.facts kept.bodies kept.rows),
    )

use Rattle.prl_ast.specs.Trees.{program_tree}
use Rattle.prl_calls.specs.Stops.{given_of}
use Rattle.prl_stages.specs.Vocabulary.{RunningLaws}
use Rattle.prl_stages.proofs.Running.{bodies_are, bodies_there, execution, horizon_is, placed_outs, plan_is, rows_are, rows_there}
use Rattle.prl_executions.proofs.Preparing.{same_ready}
use Rattle.prl_executions.proofs.ready.program_is_ready.Goals as goal

pub returns : goal.returns
returns c =
    let g = given_of c.args.request.now in
    let t = c.args.typed.now in
    let p = program_tree t.program in
    let run = c.args.run.now in
    let plan = c.args.plan.now in
    let horizon = c.args.horizon in
    let q = c.requires in
    let law : RunningLaws = c.runs_tell_of_behaviours.ensures in
    let range = c.main-main.ensures.range in
    let well_formed = c.flows-flows.ensures.well_formed in
    record {
      execution =
          execution law g p t.main t.types run.flat q.typed q.expanded range well_formed run.clocks.of run.order.flows q.order run.bodies q.bodies q.have
          run.sensors q.rows plan c.plan_is_one.ensures q.graph horizon q.horizon q.main;
      made = same_ready g (record { plan = plan; bodies = run.bodies; sensors = run.sensors; horizon = horizon })
          (execution law g p t.main t.types run.flat q.typed q.expanded range well_formed run.clocks.of run.order.flows q.order run.bodies q.bodies q.have
          run.sensors q.rows plan c.plan_is_one.ensures q.graph horizon q.horizon q.main)
          (plan_is law g p t.main t.types run.flat q.typed q.expanded range well_formed run.clocks.of run.order.flows q.order run.bodies q.bodies q.have
          run.sensors q.rows plan c.plan_is_one.ensures q.graph horizon q.horizon q.main)
          (bodies_are law g p t.main t.types run.flat q.typed q.expanded range well_formed run.clocks.of run.order.flows q.order run.bodies q.bodies q.have
          run.sensors q.rows plan c.plan_is_one.ensures q.graph horizon q.horizon q.main)
          (rows_are law g p t.main t.types run.flat q.typed q.expanded range well_formed run.clocks.of run.order.flows q.order run.bodies q.bodies q.have
          run.sensors q.rows plan c.plan_is_one.ensures q.graph horizon q.horizon q.main)
          (horizon_is law g p t.main t.types run.flat q.typed q.expanded range well_formed run.clocks.of run.order.flows q.order run.bodies q.bodies q.have
          run.sensors q.rows plan c.plan_is_one.ensures q.graph horizon q.horizon q.main);
      serve =
          bodies_there law g p t.main t.types run.flat q.typed q.expanded range well_formed run.clocks.of run.order.flows q.order run.bodies q.bodies q.have
          run.sensors q.rows plan c.plan_is_one.ensures q.graph;
      rows =
          rows_there law g p t.main t.types run.flat q.typed q.expanded range well_formed run.clocks.of run.order.flows q.order run.bodies q.bodies q.have
          run.sensors q.rows plan c.plan_is_one.ensures q.graph horizon q.horizon.until;
      outs = λ placement s flows.
          placed_outs law g p t.main t.types run.flat q.typed q.expanded range well_formed run.clocks.of run.order.flows q.order run.bodies q.bodies q.have
          run.sensors q.rows plan c.plan_is_one.ensures q.graph horizon q.horizon q.main placement s flows;
    }

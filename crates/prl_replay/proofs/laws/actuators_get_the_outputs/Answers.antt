use Rattle.prl_replay.proofs.Outputs.{outputs_are}
use Rattle.prl_values.specs.JobValues.{job_values}
use Rattle.prl_graph.specs.JobDates.{values_on_dates}
use Rattle.prl_replay.proofs.laws.actuators_get_the_outputs.Goals as goal

pub returns : goal.returns
returns c = λ p clocks flows core outs flat of small have typed solves is_graph plan below up_to.
    let graph = core.plan.graph in
    let until = core.horizon.until in
    let machine = job_values graph core.bodies core.rows until in
    let dates = values_on_dates p clocks flows graph in
    outputs_are p clocks flows core flat of solves is_graph
    (c.job_values_are_one.ensures.edges core.plan plan core.bodies core.rows until machine dates
    (c.job_values_exist.ensures core.plan plan core.bodies core.rows until)
    (c.solutions_give_job_values.ensures.given p clocks core.bodies core.rows until flows flat of small have typed solves graph is_graph plan.graph))
    (c.solutions_give_job_values.ensures.operands p clocks core.bodies core.rows until flows flat of small solves graph is_graph)
    outs below up_to

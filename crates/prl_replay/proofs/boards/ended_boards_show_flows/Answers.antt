use Rattle.prl_rule.specs.Known.{job_values_of}
use Rattle.prl_replay.proofs.Results.{ended_up_to, flows_below}
use Rattle.prl_replay.proofs.boards.ended_boards_show_flows.Goals as goal

pub returns : goal.returns
returns c = record {
  flows = λ k closed s outs known is_plan is_horizon bodies rows is_closed last are.
      let exist = c.job_values_exist.ensures k.plan is_plan k.bodies k.sensors k.horizon.until in
      flows_below k closed s known is_plan is_closed last (c.horizon_jobs_are_counted.ensures k.plan.graph k.horizon.until)
      (c.job_values_are_typed.ensures.edges k.plan is_plan k.bodies k.sensors k.horizon.until (job_values_of k) bodies rows exist) outs are;
  up_to = λ k closed s outs known is_plan is_horizon bodies rows is_closed last are complete.
      let exist = c.job_values_exist.ensures k.plan is_plan k.bodies k.sensors k.horizon.until in
      ended_up_to k closed s known is_plan is_closed last (c.horizon_jobs_are_counted.ensures k.plan.graph k.horizon.until)
      (c.job_values_are_typed.ensures.edges k.plan is_plan k.bodies k.sensors k.horizon.until (job_values_of k) bodies rows exist) outs are complete;
}

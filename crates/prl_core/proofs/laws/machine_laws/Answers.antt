use Rattle.prl_core.specs.Cores.{constants, values_of}
use Rattle.prl_core.proofs.laws.machine_laws.Goals as goal

pub returns : goal.returns
returns c = λ core is_plan is_horizon facts bodies rows.
    (let of = c.job_values_exist.ensures core.plan is_plan core.bodies core.rows core.horizon.until in
    record {
      facts = facts;
      work = c.jobs_have_work_laws.ensures core.plan core.horizon core.bodies core.rows is_plan is_horizon bodies rows;
      counted = c.horizon_jobs_are_counted.ensures core.plan.graph core.horizon.until;
      halves = c.free_events_keep_tags.ensures.halves (constants core) facts;
      edges = c.job_values_are_typed.ensures.edges core.plan is_plan core.bodies core.rows core.horizon.until (values_of core) bodies rows of;
    })

use Rattle.std.proofs.Common.{◌≡◌, Some, sym, ◌∙◌, subst, arith}
use Rattle.prl_body.specs.declared.bodies.CheckedBody.{CheckedBody}
use Rattle.prl_plan.specs.Jobs.{IsHorizonJob}
use Rattle.prl_plan.proofs.RoundPeriods.{task_is}
use Rattle.prl_values.specs.Vocabulary.{FitsTask, job_values}
use Rattle.prl_values.proofs.works.jobs_have_work_laws.Goals as goal

pub returns : goal.returns
returns c = λ plan horizon bodies rows is_plan is_horizon have_bodies have_rows.
    let of = c.job_values_exist.ensures plan is_plan bodies rows horizon.until in record {
      whole = is_plan;
      each = c.actions_are_as_defined.ensures.each plan;
      ports = c.actions_are_as_defined.ensures.ports plan is_plan.graph;
      jobs = λ i n job.
          let period = (task_is plan.graph is_plan.graph i job.task).period in
          let early : IsHorizonJob plan.graph horizon.until i n = (c.horizon_jobs_are_counted.ensures plan.graph horizon.until i n job.task (omega (arith, period.0))).1 job.job in
          record {
            job = early;
            counted = job.job;
            small = (let few = c.horizons_are_small.ensures.jobs plan horizon is_horizon i job.task in let below = job.job in omega (arith, few, below));
            values = of.each i n early;
            reads = c.job_values_are_typed.ensures.reads plan is_plan bodies rows horizon.until (job_values plan.graph bodies rows horizon.until) have_bodies have_rows of i n early;
            registers = c.job_values_are_typed.ensures.registers plan is_plan bodies rows horizon.until (job_values plan.graph bodies rows horizon.until) have_bodies have_rows of i n early;
            fits = λ k kind body named.
                (let have = have_bodies.each i k job.task kind in
                let same : have.0 ≡ body = (let e : Some have.0 ≡ Some body = sym have.1 ∙ named in cc) in
                subst (λ (b : CheckedBody). FitsTask plan.graph i b) same have.2);
            row = λ k kind. (let row = have_rows.each i k n kind early in (row.0, row.1));
          };
    }

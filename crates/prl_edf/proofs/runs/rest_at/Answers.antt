use Rattle.prl_base.proofs.Standard.{◌<◌, ◌^◌, ℕ, vec_items, refl, ◌∙◌, arith, length-map}
use Rattle.prl_plan.specs.Vocabulary.{constants_of, IsJob, RunConstants}
use Rattle.prl_plan.specs.Plans.{release_at, deadline_at}
use Rattle.prl_edf.proofs.Acted.{small_dates}
use Rattle.prl_edf.proofs.runs.rest_at.Goals.{After-look_ups_fit}
use Rattle.prl_edf.proofs.runs.rest_at.Goals as goal

module _ (c : After-look_ups_fit) where
  is_job : IsJob (constants_of c.args.plan.now c.args.horizon) c.args.i.0 c.args.n
  is_job = record { task = c.requires.task; job = omega (arith, c.if-n-jobs_of.false, c.jobs_of.ensures) }

  small : (release_at c.args.plan.now c.args.i.0 c.args.n < 2 ^ 63) × (deadline_at c.args.plan.now c.args.i.0 c.args.n < 2 ^ 63)
  small =
      let facts = c.plan_facts.ensures in
      let i : ℕ = c.args.i.0 in
      small_dates c.args.horizon.events _ _ _ c.args.horizon.end (facts.window i c.args.n is_job) (facts.within i c.args.n is_job) c.requires.horizon.events c.requires.horizon.few_events

pub release-requires-clause-small : goal.release-requires-clause-small
release-requires-clause-small c = (small (goal.at.release-requires-clause-small c).After-look_ups_fit).0

pub deadline-requires-clause-small : goal.deadline-requires-clause-small
deadline-requires-clause-small c = (small (goal.at.deadline-requires-clause-small c).After-look_ups_fit).1

pub unit_at-requires-clause-task : goal.unit_at-requires-clause-task
unit_at-requires-clause-task c = (let long = length-map c.args.units.now vec_items in omega (arith, long, c.requires.units.tasks, c.requires.task))

pub unit_at-requires-clause-job : goal.unit_at-requires-clause-job
unit_at-requires-clause-job c = (let long = c.requires.units.jobs c.args.i.0 c.requires.task in omega (arith, long, c.if-n-jobs_of.false, c.jobs_of.ensures))

pub returns-then-n-jobs_of : goal.returns-then-n-jobs_of
returns-then-n-jobs_of c = omega (arith, c.if-n-jobs_of.true, c.jobs_of.ensures)

pub returns : goal.returns
returns c =
    let k : RunConstants = constants_of c.args.plan.now c.args.horizon in
    let inside : c.args.n < k.jobs c.args.i.0 = omega (arith, c.if-n-jobs_of.false, c.jobs_of.ensures) in
    let one = (c.requires.units.units c.args.i.0 c.args.n (record { task = c.requires.task; job = inside })).0 in
    record {
      job = refl;
      inside = inside;
      release = c.release.ensures.at;
      deadline = c.deadline.ensures.at;
      some = omega (arith, one, c.from.ensures, c.unit_at.ensures);
      units_all = c.from.ensures ∙ c.unit_at.ensures;
    }

use Rattle.std.proofs.Common.{◌<◌, ◌≤◌, ℕ, arith, refl, subst}
use Rattle.prl_plan.specs.Horizons.{constants_on}
use Rattle.prl_plan.specs.Vocabulary.{IsJob}
use Rattle.prl_track.proofs.tracks.first_at.Goals as goal

pub returns-then-n-jobs_of : goal.returns-then-n-jobs_of
returns-then-n-jobs_of c = subst (λ (k : ℕ). k ≤ c.args.n) c.jobs_of.ensures c.if-n-jobs_of.true

pub release-requires-clause-windows : goal.release-requires-clause-windows
release-requires-clause-windows c = omega (arith, c.requires.windows, c.requires.task)

pub release-requires-clause-small : goal.release-requires-clause-small
release-requires-clause-small c =
    let job : IsJob (constants_on c.args.plan.now c.args.placed.now c.args.horizon) c.args.i.0 c.args.n =
    record { task = c.requires.task; job = subst (λ (k : ℕ). c.args.n < k) c.jobs_of.ensures c.if-n-jobs_of.false } in
    omega (arith, c.requires.facts.window c.args.i.0 c.args.n job, c.requires.facts.within c.args.i.0 c.args.n job, c.requires.horizon.events, c.requires.horizon.few_events)

pub deadline-requires-clause-small : goal.deadline-requires-clause-small
deadline-requires-clause-small c =
    let job : IsJob (constants_on c.args.plan.now c.args.placed.now c.args.horizon) c.args.i.0 c.args.n =
    record { task = c.requires.task; job = subst (λ (k : ℕ). c.args.n < k) c.jobs_of.ensures c.if-n-jobs_of.false } in
    omega (arith, c.requires.facts.within c.args.i.0 c.args.n job, c.requires.horizon.events, c.requires.horizon.few_events)

pub returns : goal.returns
returns c = record {
  job = refl;
  inside = subst (λ (k : ℕ). c.args.n < k) c.jobs_of.ensures c.if-n-jobs_of.false;
  release = c.release.ensures;
  deadline = c.deadline.ensures.at;
}

use Rattle.prl_base.proofs.Standard.{◌≡◌, ◌+◌, ◌<◌, ◌^◌, w64, to_z, of_z, ℕ, sym, ap, subst, ◌∙◌, arith, ℤ, pos, ◌*ℤ◌, ◌-ℤ◌, unsigned_abs, to_z-of_z, to_z_pos}
use Rattle.prl_plan.specs.Vocabulary.{task_at, release_of, Fits64, place_in}
use Rattle.prl_plan.specs.declared.graphs.Task.{Task}
use Rattle.prl_plan.proofs.RoundPeriods.{task_is}
use Rattle.prl_dates.specs.Faults.{jobs_of}
use Rattle.prl_dates.proofs.Indices.{index_below}
use Rattle.prl_dates.proofs.Readings.{task_read}
use Rattle.prl_dates.proofs.LaneSteps.{AreNear, are_near, link_made, few_jobs}
use Rattle.prl_dates.proofs.lanes.link_of.Goals as goal
use Rattle.prl_dates.proofs.lanes.link_of.Goals.{After-index-tasks-from, After-index-tasks-to}

from_is : (c : After-index-tasks-from) → c.index-tasks-from.result ≡ task_at c.args.graph.now c.args.from.0
from_is c = c.index-tasks-from.is ∙ task_read c.args.graph.now c.as_slice-tasks.result.now c.args.from.0 c.index-tasks-from.result c.as_slice-tasks.ensures c.requires.from

to_is : (c : After-index-tasks-to) → c.index-tasks-to.result ≡ task_at c.args.graph.now c.args.to.0
to_is c = c.index-tasks-to.is ∙ task_read c.args.graph.now c.as_slice-tasks.result.now c.args.to.0 c.index-tasks-to.result c.as_slice-tasks.ensures c.requires.to

seam : (c : After-index-tasks-from) → to_z w64 (of_z w64 c.args.before) ≡ c.args.before
seam c = to_z-of_z w64 c.args.before c.ranges.before

small : (c : After-index-tasks-to) → to_z w64 c.args.n ≡ pos c.args.n
small c = to_z_pos w64 c.args.n (omega (arith, few_jobs c.args.graph.now c.requires.well c.args.to.0 c.args.n c.requires.to c.requires.job))

near : (c : After-index-tasks-from) → AreNear c.args.graph.now c.requires.well c.args.from.0 c.args.to.0 c.args.n c.args.before
near c = are_near c.args.graph.now c.requires.well c.args.from.0 c.args.to.0 c.args.n c.args.before c.requires.from c.requires.to c.requires.job c.requires.greatest

pub release-earlier-requires : goal.release-earlier-requires
release-earlier-requires c =
    let d = (goal.at.release-earlier-requires c).After-index-tasks-from in
    let is = task_is c.args.graph.now c.requires.well c.args.from.0 c.requires.from in
    record {
      start = subst (λ (x : Task). x.clock.start < 2 ^ 31) (sym (from_is d)) is.start;
      period = subst (λ (x : Task). x.clock.period < 2 ^ 31) (sym (from_is d)) is.period.1;
      product = subst (λ (z : ℤ). Fits64 (z *ℤ pos c.index-tasks-from.result.clock.period)) (sym (seam d))
          (subst (λ (x : Task). Fits64 (c.args.before *ℤ pos x.clock.period)) (sym (from_is d)) (near d).product);
      fits = subst (λ (z : ℤ). Fits64 (release_of c.index-tasks-from.result z)) (sym (seam d))
          (subst (λ (x : Task). Fits64 (release_of x c.args.before)) (sym (from_is d)) (near d).earlier);
    }

pub release-later-requires-clause-start : goal.release-later-requires-clause-start
release-later-requires-clause-start c =
    let d = (goal.at.release-later-requires-clause-start c).After-index-tasks-to in
    subst (λ (x : Task). x.clock.start < 2 ^ 31) (sym (to_is d)) (task_is c.args.graph.now c.requires.well c.args.to.0 c.requires.to).start

pub release-later-requires-clause-fits : goal.release-later-requires-clause-fits
release-later-requires-clause-fits c =
    let d = (goal.at.release-later-requires-clause-fits c).After-index-tasks-to in
    let n = (near (goal.at.release-later-requires-clause-fits c).After-index-tasks-from).later in
    subst (λ (z : ℤ). Fits64 (release_of c.index-tasks-to.result z)) (sym (small d)) (subst (λ (x : Task). Fits64 (release_of x (pos c.args.n))) (sym (to_is d)) n)

pub overflow_add-result : goal.overflow_add-result
overflow_add-result c =
    let graph = c.args.graph.now in
    let below : c.place_in-place.result < jobs_of graph c.args.from.0 = omega (arith, c.place_in-place.ensures.below, c.jobs_of.ensures.jobs) in
    omega (arith, index_below graph c.args.from.0 c.place_in-place.result c.requires.from below, c.requires.first, c.requires.well.few_jobs)

pub returns : goal.returns
returns c =
    let graph = c.args.graph.now in
    let a = (goal.at.returns c).After-index-tasks-from in
    let b = (goal.at.returns c).After-index-tasks-to in
    link_made graph c.requires.well c.args.from.0 c.args.to.0 c.args.n c.args.before (near a) (record { from = c.args.first + c.place_in-place.result; gap = c.abs_diff.result })
    (let y : c.place_in-place.result ≡ place_in c.args.before (jobs_of graph c.args.from.0) =
    c.place_in-place.ensures.place ∙ ap (λ (z : ℤ). place_in z c.jobs_of.result) (seam a) ∙ ap (λ (n : ℕ). place_in c.args.before n) c.jobs_of.ensures.jobs in
    omega (arith, c.requires.first, y))
    (let earlier : c.release-earlier.result ≡ release_of (task_at graph c.args.from.0) c.args.before =
    c.release-earlier.ensures ∙ ap (λ (z : ℤ). release_of c.index-tasks-from.result z) (seam a) ∙ ap (λ (x : Task). release_of x c.args.before) (from_is a) in
    let later : c.release-later.result ≡ release_of (task_at graph c.args.to.0) (pos c.args.n) =
    c.release-later.ensures ∙ ap (λ (z : ℤ). release_of c.index-tasks-to.result z) (small b) ∙ ap (λ (x : Task). release_of x (pos c.args.n)) (to_is b) in
    let x : to_z w64 (of_z w64 c.release-later.result) ≡ release_of (task_at graph c.args.to.0) (pos c.args.n) =
    ap (λ (z : ℤ). to_z w64 (of_z w64 z)) later ∙ to_z-of_z w64 (release_of (task_at graph c.args.to.0) (pos c.args.n)) (near a).later in
    let y : to_z w64 (of_z w64 c.release-earlier.result) ≡ release_of (task_at graph c.args.from.0) c.args.before =
    ap (λ (z : ℤ). to_z w64 (of_z w64 z)) earlier ∙ to_z-of_z w64 (release_of (task_at graph c.args.from.0) c.args.before) (near a).earlier in
    c.abs_diff.ensures ∙ ap (λ (z : ℤ). unsigned_abs (z -ℤ to_z w64 (of_z w64 c.release-earlier.result))) x
    ∙ ap (λ (z : ℤ). unsigned_abs (release_of (task_at graph c.args.to.0) (pos c.args.n) -ℤ z)) y)

pub release-later-requires-clause-period : goal.release-later-requires-clause-period
release-later-requires-clause-period c =
    let d = (goal.at.release-later-requires-clause-period c).After-index-tasks-to in
    subst (λ (x : Task). x.clock.period < 2 ^ 31) (sym (to_is d)) (task_is c.args.graph.now c.requires.well c.args.to.0 c.requires.to).period.1

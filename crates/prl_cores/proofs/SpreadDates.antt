-- The three facts of spread releases.
use Rattle.prl_base.proofs.Standard.{◌+◌, ◌<◌, ℕ, List, length, arith, ℤ, pos, ◌+ℤ◌, ◌-ℤ◌, ◌≤ℤ◌, ints}
use Rattle.prl_plan.specs.Vocabulary.{Fits, used_at, Family, encoded_release, encoded_deadline, task_at, PlanView, IsPlan, AreSpreadReleases, AreLeastSpreadReleases}
use Rattle.prl_plan.specs.declared.graphs.Edge.{Edge}
use Rattle.prl_plan.specs.declared.tables.Used.{Used}

module _ (plan : PlanView) (is : IsPlan plan) (processors : List ℕ) (date : Family)
    (spread : AreLeastSpreadReleases plan.graph plan.windows processors date) where
  -- the latest releases that leave room for the WCETs
  abbrev latest : Family
  latest i m = encoded_deadline plan.graph plan.windows i m -ℤ pos (task_at plan.graph i).wcet

  latest_are : AreSpreadReleases plan.graph plan.windows processors latest
  latest_are = record {
    above = λ i m inside. (let r = is.room.room i m inside in omega (arith, ints, r));
    within = λ before after precedes together.
        (let d = is.dates.deadlines.deadlines.along before after precedes in omega (arith, ints, d));
    across = λ before after precedes apart.
        (let d = is.dates.deadlines.deadlines.along before after precedes in omega (arith, ints, d));
  }

  -- each job has room for its WCET
  pub spread_room : (i : ℕ) (m : ℤ) → i < length plan.graph.tasks →
      (date i m +ℤ pos (task_at plan.graph i).wcet) ≤ℤ encoded_deadline plan.graph plan.windows i m
  spread_room i m inside = (let l = spread.least latest latest_are i m inside in omega (arith, ints, l))

  -- the cells fit
  pub spread_fits : (edge : Edge) (i : ℕ) → i < length plan.graph.tasks → (used : Used) (cells : ℕ) →
      Fits edge i (encoded_release plan.graph plan.windows) (encoded_deadline plan.graph plan.windows) used cells →
      Fits edge i date (encoded_deadline plan.graph plan.windows) used cells
  spread_fits edge i inside used cells fits = λ k n reads.
      (let f = fits k n reads in let a = spread.releases.above i (pos (used_at used (k + cells))) inside in omega (arith, ints, f, a))

-- The worst reaction is the worst age of a value that counts until it is replaced.
use Rattle.prl_base.proofs.Standard.{◌≡◌, ◌+◌, ◌-◌, ◌*◌, ◌<◌, ◌≤◌, ◌⊎◌, inl, inr, ℕ, List, length, ap, arith, cases_lt, mul-le-mul_right}
use Rattle.prl_base.specs.declared.numbers.TaskNo.{TaskNo}
use Rattle.prl_plan.specs.declared.graphs.TaskGraph.{TaskGraph}
use Rattle.prl_plan.specs.Vocabulary.{task_at, IsWellFormed}
use Rattle.prl_plan.proofs.RoundPeriods.{task_is}
use Rattle.prl_ages.specs.Reaching.{Reaches, IsFreshest}
use Rattle.prl_ages.specs.Ages.{released, due_by, IsWorstAge}
use Rattle.prl_ages.specs.Reactions.{ShowsChange, reaction_of, IsWorstReaction}
use Rattle.prl_ages.specs.declared.ages.Until.TheVariants as untils
use Rattle.prl_ages.proofs.Reaching.{rises}
use Rattle.prl_ages.proofs.Falling.{before_due}

module _ (graph : TaskGraph) (chain : List TaskNo) (good : IsWellFormed graph) (s a : ℕ) (in_a : a < length graph.tasks)
    (each : (k : ℕ) → ((m : ℕ) × IsFreshest graph chain s m a k) ⊎ ((m : ℕ) → Reaches graph chain s m a k → ⊥)) where
  -- the freshest at a job that is reached
  fresh_at : (k m : ℕ) → Reaches graph chain s m a k → (f : ℕ) × (m ≤ f) × IsFreshest graph chain s f a k
  fresh_at k m reaches = go (each k)
    where
      go : ((f : ℕ) × IsFreshest graph chain s f a k) ⊎ ((f : ℕ) → Reaches graph chain s f a k → ⊥) → (f : ℕ) × (m ≤ f) × IsFreshest graph chain s f a k
      go (inl fresh) = (fresh.0, fresh.1.latest m reaches, fresh.1)
      go (inr never) = absurd (never m reaches)

  pub reaction_is_age : (ticks : ℕ) → IsWorstAge graph chain s a untils.Replaced ticks → IsWorstReaction graph chain s a ticks
  reaction_is_age ticks is = record {
    above = λ m k shows.
        (let p : ℕ = k - 1 in
        let some : k ≡ p + 1 = omega (arith, shows.before.2) in
        let up = rises graph chain good s shows.before.1 a shows.before.0 p shows.before.3 (omega (arith, shows.before.2)) in
        let fresh = fresh_at p up.0 up.2 in
        let early : fresh.0 ≤ m = shows.first p fresh.0 (omega (arith, some)) fresh.2.reaches in
        let worst : due_by graph a (p + 1) - released graph s fresh.0 ≤ ticks = is.above p fresh.0 fresh.2 in
        let due : due_by graph a k ≡ due_by graph a (p + 1) = ap (λ (x : ℕ). due_by graph a x) some in
        omega (arith, worst, due, mul-le-mul_right (task_at graph s).clock.period early));
    attained = go (cases_lt is.attained.1 next.0);
  }
    where
      k : ℕ
      k = is.attained.0

      f : ℕ
      f = is.attained.1

      later : (x : ℕ) × (is.attained.1 ≤ x) × Reaches graph chain s x a (is.attained.0 + 1)
      later = rises graph chain good s is.attained.1 a is.attained.0 (is.attained.0 + 1) is.attained.2.reaches (omega arith)

      next : (x : ℕ) × (later.0 ≤ x) × IsFreshest graph chain s x a (is.attained.0 + 1)
      next = fresh_at (is.attained.0 + 1) later.0 later.2

      go : (is.attained.1 < next.0) ⊎ (next.0 ≤ is.attained.1) → (m : ℕ) × (l : ℕ) × ShowsChange graph chain s m a l × (ticks ≡ reaction_of graph s m a l)
      go (inl newer) = (
        is.attained.1,
        is.attained.0 + 1,
        record {
          shown = (next.0, newer, next.2.reaches);
          first = λ j l before reaches.
              (let up = rises graph chain good s l a j is.attained.0 reaches (omega (arith, before)) in
              let most = is.attained.2.latest up.0 up.2 in
              omega (arith, up.1, most));
          before = (is.attained.0, is.attained.1, (let e : is.attained.0 < is.attained.0 + 1 = omega arith in e), is.attained.2.reaches);
        },
        is.attained.3,
      )
      go (inr same) = absurd
          (let one : next.0 ≡ is.attained.1 = omega (arith, same, later.1, next.1) in
          let worst : due_by graph a (is.attained.0 + 1 + 1) - released graph s next.0 ≤ ticks = is.above (is.attained.0 + 1) next.0 next.2 in
          let from : released graph s next.0 ≡ released graph s is.attained.1 = ap (λ (x : ℕ). released graph s x) one in
          let e : (is.attained.0 + 1 + 1) * (task_at graph a).clock.period ≡ (is.attained.0 + 1) * (task_at graph a).clock.period + (task_at graph a).clock.period = omega arith in
          let early = before_due graph good chain s is.attained.1 a is.attained.0 1 is.attained.2.reaches in
          omega (arith, worst, from, e, early, is.attained.3, (task_is graph good a in_a).period.0))

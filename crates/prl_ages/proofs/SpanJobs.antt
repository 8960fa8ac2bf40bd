-- The worst and the best age of a span of jobs, job by job.
use Rattle.prl_base.proofs.Standard.{Bool, true, false, ◌≡◌, ◌≢◌, ◌+◌, ◌<◌, ◌≤◌, ◌⊎◌, inl, inr, List, ℕ, zero, suc, length, set, slice_index, get_or, get_or_default, get_or-set_same, get_or-set_other, length-set, replicate, length-replicate, refl, sym, ◌∙◌, ap, subst, arith, Option, Some, None, cases_eq, cases_lt, nat_lt, if◌then◌else◌, ltb-true, ltb-false}
use Rattle.prl_base.specs.declared.numbers.TaskNo.{TaskNo}
use Rattle.prl_plan.specs.declared.graphs.TaskGraph.{TaskGraph}
use Rattle.prl_ages.specs.Reaching.{Reaches, IsFreshest}
use Rattle.prl_ages.specs.Ages.{age_of}
use Rattle.prl_ages.specs.Spans.{IsAgeAt, IsNotOlder, IsNotNewer, IsOfSpan, IsWorstOf, IsBestOf}
use Rattle.prl_ages.specs.Needs.{AreNeeded}
use Rattle.prl_ages.specs.code.Extremes.{older, newer, no_extremes, with_ages, extremes_at, IsExtreme, AreTaken, AreExtremes}
use Rattle.prl_ages.specs.declared.ages.Age.{Age}
use Rattle.prl_ages.specs.declared.ages.Until.{Until}
use Rattle.prl_ages.specs.declared.ages.Until.TheVariants as untils
use Rattle.prl_ages.specs.declared.spans.Extremes.{Extremes}

-- the last of the jobs needed is the freshest
pub last_is_freshest : (graph : TaskGraph) (chain : List TaskNo) (a k s m : ℕ) (counts : List ℕ) → AreNeeded graph chain a k counts → slice_index counts s ≡ m + 1 → IsFreshest graph chain s m a k
last_is_freshest graph chain a k s m counts needed is = record {
  reaches = needed.reached s m is;
  latest = λ l reaches. (let below = needed.within s l reaches in omega (arith, below, is));
}

pub none_reaches : (graph : TaskGraph) (chain : List TaskNo) (a k s m : ℕ) (counts : List ℕ) → AreNeeded graph chain a k counts → slice_index counts s ≡ 0 → Reaches graph chain s m a k → ⊥
none_reaches graph chain a k s m counts needed is reaches = omega (arith, needed.within s m reaches, is)

-- what is read of counts
pub counted_at : (graph : TaskGraph) (chain : List TaskNo) (a k s : ℕ) (counts : List ℕ) (x : ℕ) → AreNeeded graph chain a k counts → s < length graph.tasks → x ≡ get_or counts s x → slice_index counts s ≡ x
counted_at graph chain a k s counts x needed inside is = get_or_default counts s 0 x (omega (arith, needed.long, inside)) ∙ sym is

-- the older of two is older than each
older_first : (worst : Option Age) (age : Age) (x : Option Age) → IsNotOlder x worst → IsNotOlder x (older worst age)
older_first None age None is = tt
older_first None age (Some x) is = absurd is
older_first (Some first) age None is = go (nat_lt first.ticks age.ticks)
  where
    go : (b : Bool) → IsNotOlder None (if b then Some age else Some first)
    go true = tt
    go false = tt
older_first (Some first) age (Some x) is = go (nat_lt first.ticks age.ticks) refl
  where
    go : (b : Bool) → nat_lt first.ticks age.ticks ≡ b → IsNotOlder (Some x) (if b then Some age else Some first)
    go true e = (let h = ltb-true first.ticks age.ticks e in omega (arith, is, h))
    go false e = is

older_second : (worst : Option Age) (age : Age) → IsNotOlder (Some age) (older worst age)
older_second None age = (let e : age.ticks ≤ age.ticks = omega arith in e)
older_second (Some first) age = go (nat_lt first.ticks age.ticks) refl
  where
    go : (b : Bool) → nat_lt first.ticks age.ticks ≡ b → IsNotOlder (Some age) (if b then Some age else Some first)
    go true e = omega arith
    go false e = ltb-false first.ticks age.ticks e

newer_first : (best : Option Age) (age : Age) (x : Option Age) → IsNotNewer x best → IsNotNewer x (newer best age)
newer_first None age None is = tt
newer_first None age (Some x) is = absurd is
newer_first (Some first) age None is = go (nat_lt age.ticks first.ticks)
  where
    go : (b : Bool) → IsNotNewer None (if b then Some age else Some first)
    go true = tt
    go false = tt
newer_first (Some first) age (Some x) is = go (nat_lt age.ticks first.ticks) refl
  where
    go : (b : Bool) → nat_lt age.ticks first.ticks ≡ b → IsNotNewer (Some x) (if b then Some age else Some first)
    go true e = (let h = ltb-true age.ticks first.ticks e in omega (arith, is, h))
    go false e = is

newer_second : (best : Option Age) (age : Age) → IsNotNewer (Some age) (newer best age)
newer_second None age = (let e : age.ticks ≤ age.ticks = omega arith in e)
newer_second (Some first) age = go (nat_lt age.ticks first.ticks) refl
  where
    go : (b : Bool) → nat_lt age.ticks first.ticks ≡ b → IsNotNewer (Some age) (if b then Some age else Some first)
    go true e = omega arith
    go false e = ltb-false age.ticks first.ticks e

module _ (graph : TaskGraph) (chain : List TaskNo) (s a : ℕ) (until : Until) (from to : ℕ) where
  span_more : (age : Option Age) → IsOfSpan graph chain s a until from to age → IsOfSpan graph chain s a until from (to + 1) age
  span_more None is = tt
  span_more (Some age) is = (is.0, omega (arith, is.1), is.2)

  span_here : (age : Age) → from ≤ to → IsAgeAt graph chain s a until to (Some age) → IsOfSpan graph chain s a until from (to + 1) (Some age)
  span_here age order is = (
    omega (arith, is.0, order),
    omega (arith, is.0),
    (refl, subst (λ (x : ℕ). IsFreshest graph chain s age.instance a x) (sym is.0) is.1, is.2 ∙ ap (λ (x : ℕ). age_of graph s age.instance a until x) (sym is.0)),
  )

  span_either : (b : Bool) (first age : Age) → from ≤ to → IsOfSpan graph chain s a until from to (Some first) → IsAgeAt graph chain s a until to (Some age) →
      IsOfSpan graph chain s a until from (to + 1) (if b then Some age else Some first)
  span_either true first age order before here = span_here age order here
  span_either false first age order before here = span_more (Some first) before

  span_older : (worst : Option Age) (age : Age) → from ≤ to → IsOfSpan graph chain s a until from to worst → IsAgeAt graph chain s a until to (Some age) →
      IsOfSpan graph chain s a until from (to + 1) (older worst age)
  span_older None age order before here = span_here age order here
  span_older (Some first) age order before here = span_either (nat_lt first.ticks age.ticks) first age order before here

  span_newer : (best : Option Age) (age : Age) → from ≤ to → IsOfSpan graph chain s a until from to best → IsAgeAt graph chain s a until to (Some age) →
      IsOfSpan graph chain s a until from (to + 1) (newer best age)
  span_newer None age order before here = span_here age order here
  span_newer (Some first) age order before here = span_either (nat_lt age.ticks first.ticks) first age order before here

  -- one job more
  worst_more : (worst : Option Age) (age : Age) → from ≤ to → IsWorstOf graph chain s a until from to worst → IsAgeAt graph chain s a until to (Some age) →
      IsWorstOf graph chain s a until from (to + 1) (older worst age)
  worst_more worst age order before here = record {
    each = λ k past below. each_now k past below (cases_lt k to);
    attained = span_older worst age order before.attained here;
  }
    where
      each_now : (k : ℕ) → from ≤ k → k < to + 1 → (k < to) ⊎ (to ≤ k) → (x : Option Age) × IsAgeAt graph chain s a until k x × IsNotOlder x (older worst age)
      each_now k past below (inl less) =
          let old = before.each k past less in
          (old.0, old.1, older_first worst age old.0 old.2)
      each_now k past below (inr now) =
          let same : to ≡ k = omega (arith, below, now) in
          (Some age, subst (λ (x : ℕ). IsAgeAt graph chain s a until x (Some age)) same here, older_second worst age)

  best_more : (best : Option Age) (age : Age) → from ≤ to → IsBestOf graph chain s a until from to best → IsAgeAt graph chain s a until to (Some age) →
      IsBestOf graph chain s a until from (to + 1) (newer best age)
  best_more best age order before here = record {
    each = λ k past below. each_now k past below (cases_lt k to);
    attained = span_newer best age order before.attained here;
  }
    where
      each_now : (k : ℕ) → from ≤ k → k < to + 1 → (k < to) ⊎ (to ≤ k) → (x : Option Age) × IsAgeAt graph chain s a until k x × IsNotNewer x (newer best age)
      each_now k past below (inl less) =
          let old = before.each k past less in
          (old.0, old.1, newer_first best age old.0 old.2)
      each_now k past below (inr now) =
          let same : to ≡ k = omega (arith, below, now) in
          (Some age, subst (λ (x : ℕ). IsAgeAt graph chain s a until x (Some age)) same here, newer_second best age)

  -- and one that no instance reaches
  worst_none : (worst : Option Age) → IsWorstOf graph chain s a until from to worst → ((m : ℕ) → Reaches graph chain s m a to → ⊥) →
      IsWorstOf graph chain s a until from (to + 1) worst
  worst_none worst before never = record { each = λ k past below. each_now k past below (cases_lt k to); attained = span_more worst before.attained }
    where
      each_now : (k : ℕ) → from ≤ k → k < to + 1 → (k < to) ⊎ (to ≤ k) → (x : Option Age) × IsAgeAt graph chain s a until k x × IsNotOlder x worst
      each_now k past below (inl less) = before.each k past less
      each_now k past below (inr now) =
          let same : to ≡ k = omega (arith, below, now) in
          (None, subst (λ (x : ℕ). IsAgeAt graph chain s a until x None) same never, tt)

  best_none : (best : Option Age) → IsBestOf graph chain s a until from to best → ((m : ℕ) → Reaches graph chain s m a to → ⊥) →
      IsBestOf graph chain s a until from (to + 1) best
  best_none best before never = record { each = λ k past below. each_now k past below (cases_lt k to); attained = span_more best before.attained }
    where
      each_now : (k : ℕ) → from ≤ k → k < to + 1 → (k < to) ⊎ (to ≤ k) → (x : Option Age) × IsAgeAt graph chain s a until k x × IsNotNewer x best
      each_now k past below (inl less) = before.each k past less
      each_now k past below (inr now) =
          let same : to ≡ k = omega (arith, below, now) in
          (None, subst (λ (x : ℕ). IsAgeAt graph chain s a until x None) same never, tt)

module _ (graph : TaskGraph) (chain : List TaskNo) (s a from to : ℕ) where
  pub extreme_more : (x : Extremes) (used replaced : Age) → from ≤ to → IsExtreme graph chain s a from to x → IsAgeAt graph chain s a untils.Used to (Some used) →
      IsAgeAt graph chain s a untils.Replaced to (Some replaced) →
      IsExtreme graph chain s a from (to + 1) (with_ages x used replaced)
  extreme_more x used replaced order is used_is replaced_is = record {
    used = worst_more graph chain s a untils.Used from to x.used used order is.used used_is;
    replaced = worst_more graph chain s a untils.Replaced from to x.replaced replaced order is.replaced replaced_is;
    best = best_more graph chain s a untils.Used from to x.best used order is.best used_is;
  }

  pub extreme_none : (x : Extremes) → IsExtreme graph chain s a from to x → ((m : ℕ) → Reaches graph chain s m a to → ⊥) → IsExtreme graph chain s a from (to + 1) x
  extreme_none x is never = record {
    used = worst_none graph chain s a untils.Used from to x.used is.used never;
    replaced = worst_none graph chain s a untils.Replaced from to x.replaced is.replaced never;
    best = best_none graph chain s a untils.Used from to x.best is.best never;
  }

-- no job has no extremes
pub none_extreme : (graph : TaskGraph) (chain : List TaskNo) (s a from : ℕ) → IsExtreme graph chain s a from from no_extremes
none_extreme graph chain s a from = record {
  used = record { each = λ k past below. absurd (omega (arith, past, below)); attained = tt };
  replaced = record { each = λ k past below. absurd (omega (arith, past, below)); attained = tt };
  best = record { each = λ k past below. absurd (omega (arith, past, below)); attained = tt };
}

none_at : (n s : ℕ) → extremes_at (replicate n no_extremes) s ≡ no_extremes
none_at zero s = refl
none_at (suc n) zero = refl
none_at (suc n) (suc s) = none_at n s

pub none_extremes : (graph : TaskGraph) (chain : List TaskNo) (a from : ℕ) → AreExtremes graph chain a from from (replicate (length graph.tasks) no_extremes)
none_extremes graph chain a from = record {
  long = length-replicate (length graph.tasks) no_extremes;
  each = λ s inside. subst (λ (x : Extremes). IsExtreme graph chain s a from from x) (sym (none_at (length graph.tasks) s)) (none_extreme graph chain s a from);
}

-- task by task
module _ (graph : TaskGraph) (chain : List TaskNo) (a from k : ℕ) where
  pub taking : (list : List Extremes) → AreExtremes graph chain a from k list → AreTaken graph chain a from k 0 list
  taking list are = record { long = are.long; done = λ s below. absurd (omega (arith, below)); left = λ s past inside. are.each s inside }

  pub taken : (s : ℕ) (list : List Extremes) (x : Extremes) → AreTaken graph chain a from k s list → s < length graph.tasks → IsExtreme graph chain s a from (k + 1) x →
      AreTaken graph chain a from k (s + 1) (set list s x)
  taken s list x are inside is = record {
    long = length-set list s x ∙ are.long;
    done = λ t below. done_now t below (cases_eq t s);
    left = λ t past within. subst (λ (y : Extremes). IsExtreme graph chain t a from k y) (sym (get_or-set_other list s t x no_extremes (λ e. (let h : t ≡ s = e in omega (arith, h, past)))))
        (are.left t (omega (arith, past)) within);
  }
    where
      in_list : s < length list
      in_list = omega (arith, are.long, inside)

      done_now : (t : ℕ) → t < s + 1 → (t ≡ s) ⊎ (t ≢ s) → IsExtreme graph chain t a from (k + 1) (extremes_at (set list s x) t)
      done_now t below (inl same) =
          subst (λ (y : ℕ). IsExtreme graph chain y a from (k + 1) (extremes_at (set list s x) y)) (sym same)
          (subst (λ (y : Extremes). IsExtreme graph chain s a from (k + 1) y) (sym (get_or-set_same list s x no_extremes in_list)) is)
      done_now t below (inr other) =
          subst (λ (y : Extremes). IsExtreme graph chain t a from (k + 1) y) (sym (get_or-set_other list s t x no_extremes other))
          (are.done t (omega (arith, below, other)))

  pub taken_all : (tasks : ℕ) (list : List Extremes) → length graph.tasks ≤ tasks → AreTaken graph chain a from k tasks list → AreExtremes graph chain a from (k + 1) list
  taken_all tasks list all are = record { long = are.long; each = λ s inside. are.done s (omega (arith, inside, all)) }

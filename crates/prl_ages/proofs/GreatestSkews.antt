-- The greatest skew of the first jobs, up to a settled hyperperiod, is that of all.
use Rattle.prl_base.proofs.Standard.{Bool, true, false, ◌≡◌, ◌+◌, ◌-◌, ◌*◌, ◌<◌, ◌≤◌, ◌⊎◌, inl, inr, List, [], ℕ, zero, suc, length, refl, sym, ◌∙◌, ap, subst, arith, Option, Some, None, cases_lt, nat_lt, if◌then◌else◌, ltb-true, ltb-false}
use Rattle.prl_plan.specs.declared.graphs.TaskGraph.{TaskGraph}
use Rattle.prl_plan.specs.Vocabulary.{IsWellFormed}
use Rattle.prl_ages.specs.Reaching.{IsFreshest, jobs_of}
use Rattle.prl_ages.specs.Ages.{released}
use Rattle.prl_ages.specs.Skews.{apart, skew_of, MeetAt, IsGreatestSkew}
use Rattle.prl_ages.specs.code.Farther.{farther, IsGreatestBelow, IsNotFarther, IsOneOf, IsSkewAt}
use Rattle.prl_ages.specs.code.Windows.{IsSettledAfter}
use Rattle.prl_ages.specs.declared.skews.Skew.{Skew}
use Rattle.prl_ages.proofs.Falling.{released_often, back_to}
use Rattle.prl_ages.proofs.Settled.{settles_back}

farther_first : (most skew x : Option Skew) → IsNotFarther x most → IsNotFarther x (farther most skew)
farther_first None skew None is = tt
farther_first None skew (Some x) is = absurd is
farther_first (Some first) None x is = is
farther_first (Some first) (Some second) None is = go (nat_lt first.ticks second.ticks)
  where
    go : (b : Bool) → IsNotFarther None (if b then Some second else Some first)
    go true = tt
    go false = tt
farther_first (Some first) (Some second) (Some x) is = go (nat_lt first.ticks second.ticks) refl
  where
    go : (b : Bool) → nat_lt first.ticks second.ticks ≡ b → IsNotFarther (Some x) (if b then Some second else Some first)
    go true e = (let h = ltb-true first.ticks second.ticks e in omega (arith, is, h))
    go false e = is

farther_second : (most skew : Option Skew) → IsNotFarther skew (farther most skew)
farther_second None None = tt
farther_second None (Some skew) = (let e : skew.ticks ≤ skew.ticks = omega arith in e)
farther_second (Some first) None = tt
farther_second (Some first) (Some second) = go (nat_lt first.ticks second.ticks) refl
  where
    go : (b : Bool) → nat_lt first.ticks second.ticks ≡ b → IsNotFarther (Some second) (if b then Some second else Some first)
    go true e = omega arith
    go false e = ltb-false first.ticks second.ticks e

module _ (graph : TaskGraph) (s r a : ℕ) where
  one_more : (jobs : ℕ) (most : Option Skew) → IsOneOf graph s r a jobs most → IsOneOf graph s r a (jobs + 1) most
  one_more jobs None is = tt
  one_more jobs (Some most) is = (omega (arith, is.0), is.1)

  one_here : (jobs : ℕ) (skew : Option Skew) → IsSkewAt graph s r a jobs skew → IsOneOf graph s r a (jobs + 1) skew
  one_here jobs None is = tt
  one_here jobs (Some skew) is = (omega (arith, is.0), (refl, subst (λ (x : ℕ). MeetAt graph s r a skew.first skew.second x) (sym is.0) is.1, is.2))

  one_farther : (jobs : ℕ) (most skew : Option Skew) → IsOneOf graph s r a jobs most → IsSkewAt graph s r a jobs skew → IsOneOf graph s r a (jobs + 1) (farther most skew)
  one_farther jobs None skew before here = one_here jobs skew here
  one_farther jobs (Some first) None before here = one_more jobs (Some first) before
  one_farther jobs (Some first) (Some second) before here = go (nat_lt first.ticks second.ticks)
    where
      go : (b : Bool) → IsOneOf graph s r a (jobs + 1) (if b then Some second else Some first)
      go true = one_here jobs (Some second) here
      go false = one_more jobs (Some first) before

  pub none_below : IsGreatestBelow graph s r a 0 None
  none_below = record { each = λ k below. absurd (omega (arith, below)); attained = tt }

  pub greatest_more : (jobs : ℕ) (most skew : Option Skew) → IsGreatestBelow graph s r a jobs most → IsSkewAt graph s r a jobs skew →
      IsGreatestBelow graph s r a (jobs + 1) (farther most skew)
  greatest_more jobs most skew before here = record { each = λ k below. now k below (cases_lt k jobs); attained = one_farther jobs most skew before.attained here }
    where
      now : (k : ℕ) → k < jobs + 1 → (k < jobs) ⊎ (jobs ≤ k) → (x : Option Skew) × IsSkewAt graph s r a k x × IsNotFarther x (farther most skew)
      now k below (inl less) =
          let old = before.each k less in
          (old.0, old.1, farther_first most skew old.0 old.2)
      now k below (inr at) =
          let same : jobs ≡ k = omega (arith, below, at) in
          (skew, subst (λ (x : ℕ). IsSkewAt graph s r a x skew) same here, farther_second most skew)

-- two dates that are as much later are as far apart
apart_again : (x y n : ℕ) → apart (x + n) (y + n) ≡ apart x y
apart_again x y n = omega arith

module _ (graph : TaskGraph) (good : IsWellFormed graph) (s r a turns : ℕ) (in_s : s < length graph.tasks) (in_r : r < length graph.tasks) (in_a : a < length graph.tasks)
    (after : IsSettledAfter graph turns) where
  -- a job that both reach is some hyperperiods after one of the first, with the same skew
  first_meets : (k m l : ℕ) → MeetAt graph s r a m l k →
      (j : ℕ) × (x : ℕ) × (y : ℕ) × (j < (turns + 1) * jobs_of graph a) × MeetAt graph s r a x y j × (skew_of graph s r m l ≡ skew_of graph s r x y)
  first_meets k m l meet = go (cases_lt k ((turns + 1) * jobs_of graph a))
    where
      go : (k < (turns + 1) * jobs_of graph a) ⊎ ((turns + 1) * jobs_of graph a ≤ k) →
          (j : ℕ) × (x : ℕ) × (y : ℕ) × (j < (turns + 1) * jobs_of graph a) × MeetAt graph s r a x y j × (skew_of graph s r m l ≡ skew_of graph s r x y)
      go (inl less) = (k, m, l, less, meet, refl)
      go (inr more) =
          let split : (turns + 1) * jobs_of graph a ≡ turns * jobs_of graph a + jobs_of graph a = omega arith in
          let back = back_to graph good a in_a ((turns + 1) * jobs_of graph a) k (omega (arith, split)) more in
          let late : turns * jobs_of graph a ≤ back.1 = omega (arith, back.4, split) in
          let one = settles_back graph [] good s a turns in_s in_a after back.0 m back.1 late (subst (λ (x : ℕ). IsFreshest graph [] s m a x) back.2 meet.first) in
          let other = settles_back graph [] good r a turns in_r in_a after back.0 l back.1 late (subst (λ (x : ℕ). IsFreshest graph [] r l a x) back.2 meet.second) in
          let from : released graph s m ≡ released graph s one.0 + back.0 * graph.hyper = ap (λ (x : ℕ). released graph s x) one.1 ∙ released_often graph good s in_s back.0 one.0 in
          let by : released graph r l ≡ released graph r other.0 + back.0 * graph.hyper = ap (λ (x : ℕ). released graph r x) other.1 ∙ released_often graph good r in_r back.0 other.0 in
          (back.1, one.0, other.0, back.3, record { first = one.2; second = other.2 }, omega (arith, from, by))

  pub greatest_is : (skew : Skew) → IsGreatestBelow graph s r a ((turns + 1) * jobs_of graph a) (Some skew) → IsGreatestSkew graph s r a skew
  greatest_is skew below = record {
    above = λ k m l meet. (let first = first_meets k m l meet in
        let each = below.each first.0 first.3 in
        let here = at first.0 first.1 first.2 each.0 each.1 each.2 first.4 in
        omega (arith, here, first.5));
    meet = below.attained.1.1;
    ticks = below.attained.1.2;
  }
    where
      at : (k m l : ℕ) (x : Option Skew) → IsSkewAt graph s r a k x → IsNotFarther x (Some skew) → MeetAt graph s r a m l k → skew_of graph s r m l ≤ skew.ticks
      at k m l None is within meet = absurd (is m l meet)
      at k m l (Some x) is within meet =
          let a1 : x.first ≤ m = meet.first.latest x.first is.1.first.reaches in
          let a2 : m ≤ x.first = is.1.first.latest m meet.first.reaches in
          let b1 : x.second ≤ l = meet.second.latest x.second is.1.second.reaches in
          let b2 : l ≤ x.second = is.1.second.latest l meet.second.reaches in
          let one : m ≡ x.first = omega (arith, a1, a2) in
          let other : l ≡ x.second = omega (arith, b1, b2) in
          let same : skew_of graph s r m l ≡ skew_of graph s r x.first x.second = ap (λ (z : ℕ). skew_of graph s r z l) one ∙ ap (λ (z : ℕ). skew_of graph s r x.first z) other in
          omega (arith, same, is.2, within)

  pub never_meet : IsGreatestBelow graph s r a ((turns + 1) * jobs_of graph a) None → (k m l : ℕ) → MeetAt graph s r a m l k → ⊥
  never_meet below k m l meet =
      let first = first_meets k m l meet in
      let each = below.each first.0 first.3 in
      at first.0 first.1 first.2 each.0 each.1 each.2 first.4
    where
      at : (k m l : ℕ) (x : Option Skew) → IsSkewAt graph s r a k x → IsNotFarther x None → MeetAt graph s r a m l k → ⊥
      at k m l None is within meet = is m l meet
      at k m l (Some x) is within meet = within

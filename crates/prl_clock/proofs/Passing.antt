-- A timing past the limit, as a number past the limit of what the constraints leave.
use Rattle.std.proofs.Common.{◌≤◌, ℕ, List}
use Rattle.prl_base.specs.Vocabulary.{Fraction, IsPast}
use Rattle.prl_clock.specs.Vocabulary.{Timing, Standing, Assignment, tick, MeetsAll, IsLowest, Passes, period_over, start_over, period, start, Placed, Point, IsOver, IsPeriodOver, IsStartOver}
use Rattle.prl_clock.specs.Vocabulary.{HasParts, IsComposedPast, composed_period, composed_start, IsOverPast, over_period, over_start, AreStandings, standing_at, root_at}
use Rattle.prl_clock.proofs.Algebra.{period_composed, start_composed}
use Rattle.prl_clock.proofs.Algebra.{period_over as period_divided, start_over as start_divided}
use Rattle.prl_clock.proofs.Terms.{past_form, small_parts}

module _ (cs : List Placed) (x y z : Assignment → Point) (sx : (s : Assignment) → 1 ≤ (x s).period) (sy : (s : Assignment) → 1 ≤ (y s).period) (P : Type 0)
    (by_period : (f : Fraction) → ((s : Assignment) → MeetsAll s cs → IsPeriodOver f (x s) (z s)) → IsPast f → P)
    (by_start : (f : Fraction) → ((s : Assignment) → MeetsAll s cs → IsStartOver f (x s) (z s)) → IsPast f → P) where
  pub composed_passes : (p q : Timing) → HasParts p → HasParts q → ((s : Assignment) → MeetsAll s cs → IsOver p (x s) (y s))
      → ((s : Assignment) → MeetsAll s cs → IsOver q (y s) (z s)) → IsComposedPast p q → P
  composed_passes p q dp dq a b (composed_period f past e) =
      by_period f (λ s m. past_form _ _ f past (period_composed p q f dp dq past.positive (x s) (y s) (z s) (sx s) (sy s) (a s m) (b s m) e)) past.past
  composed_passes p q dp dq a b (composed_start f past e) =
      by_start f (λ s m. past_form _ _ f past (start_composed p q f dp dq past.positive (x s) (y s) (z s) (sx s) (sy s) (a s m) (b s m) e)) past.past

module _ (cs : List Placed) (x y z : Assignment → Point) (sx : (s : Assignment) → 1 ≤ (x s).period) (sy : (s : Assignment) → 1 ≤ (y s).period) (P : Type 0)
    (by_period : (f : Fraction) → ((s : Assignment) → MeetsAll s cs → IsPeriodOver f (y s) (z s)) → IsPast f → P)
    (by_start : (f : Fraction) → ((s : Assignment) → MeetsAll s cs → IsStartOver f (y s) (z s)) → IsPast f → P) where
  pub over_passes : (p r : Timing) → HasParts p → HasParts r → ((s : Assignment) → MeetsAll s cs → IsOver p (x s) (y s))
      → ((s : Assignment) → MeetsAll s cs → IsOver r (x s) (z s)) → IsOverPast p r → P
  over_passes p r dp dr a b (over_period f past e) =
      by_period f (λ s m. past_form _ _ f past (period_divided p r f dp dr past.positive (x s) (y s) (z s) (sx s) (sy s) (a s m) (b s m) e)) past.past
  over_passes p r dp dr a b (over_start f g dg past e t) =
      by_start f (λ s m. past_form _ _ f past (start_divided p r g dp dr dg (x s) (y s) (z s) (sx s) (sy s) f past.positive (a s m) (b s m) e t)) past.past

module _ (cs : List Placed) (st : List Standing) (are : AreStandings cs st) where
  -- a flow that goes over a lower one
  pub moved_passes : (low : ℕ) (x : ℕ) (q : Timing) → HasParts q → IsLowest cs x low
      → ((s : Assignment) → MeetsAll s cs → IsOver q (s.flow (root_at st x)) (s.flow low)) → IsComposedPast (standing_at st x).over q → Passes cs
  moved_passes low x q dq lowest o past =
      composed_passes cs (λ s. s.flow x) (λ s. s.flow (root_at st x)) (λ s. s.flow low) (λ s. s.positive x) (λ s. s.positive (root_at st x)) (Passes cs)
      (λ f h k. period_over x low f lowest h k) (λ f h k. start_over x low f lowest h k)
      (standing_at st x).over q (small_parts _ (are.small x)) dq (λ s m. are.over s m x) o past

  -- a flow that gets its clock
  pub timed_passes : (x : ℕ) (q : Timing) → HasParts q → ((s : Assignment) → MeetsAll s cs → IsOver q (s.flow (root_at st x)) (tick s))
      → IsComposedPast (standing_at st x).over q → Passes cs
  timed_passes x q dq o past =
      composed_passes cs (λ s. s.flow x) (λ s. s.flow (root_at st x)) tick (λ s. s.positive x) (λ s. s.positive (root_at st x)) (Passes cs)
      (λ f h k. period x f h k) (λ f h k. start x f h k)
      (standing_at st x).over q (small_parts _ (are.small x)) dq (λ s m. are.over s m x) o past

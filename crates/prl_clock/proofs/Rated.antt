-- The constraint that a flow has a rate, by the standing that was read.
use Rattle.prl_base.proofs.Standard.{◌≡◌, ◌≢◌, ◌≤◌, ◌<◌, ◌++◌, ℕ, pos, List, [], ◌∷◌, length, Some, None, refl, sym, ap, ◌∙◌, subst, arith, one-dvd}
use Rattle.prl_base.specs.Ratios.{IsSmallFraction}
use Rattle.prl_base.specs.declared.ratios.TheConstants.{MAX_PART}
use Rattle.prl_ast.specs.InRange.{IsRate}
use Rattle.prl_ast.specs.declared.declarations.Rate.{Rate}
use Rattle.prl_clock.specs.Vocabulary.{Timing, Standing, IsConsistent, Passes, Placed, rated, timing_of_rate, over_one, IsComposed, IsOverPast, IsSmallTiming, IsReducedTiming, IsTimingPast, IsSolved}
use Rattle.prl_clock.specs.Vocabulary.{AreTimed, IsLink, IsOnePast, standing_at}
use Rattle.prl_clock.proofs.Rating.{known_solved, known_refused, new_consistent, new_past, over_nonzero, root_past, new_one_past, new_solved}
use Rattle.prl_clock.proofs.Terms.{only, past_form, past_small}

pub whole_small : (n : ℕ) → n ≤ MAX_PART → IsSmallFraction (over_one n)
whole_small n h = record { positive = omega arith; reduced = (one-dvd n, one-dvd 1, λ d p q. q); num = h; den = omega arith }

pub rate_link : (r : Rate) → IsRate r → IsLink (timing_of_rate r)
rate_link r is = record { num = r.period; is = refl; some = is.0.0; parts = record { period = omega arith; start = is.1.0.positive } }

pub rate_lowest : (r : Rate) → IsRate r → IsSmallFraction (timing_of_rate r).period
rate_lowest r is = whole_small r.period is.0.1

-- the timing of a rate is one, or past the limit
pub reduced_only : (r : Rate) → IsRate r → (t u : Timing) → IsReducedTiming (timing_of_rate r) t → IsReducedTiming (timing_of_rate r) u → t ≡ u
reduced_only r is t u a b =
    let e1 : t.period ≡ u.period = a.period ∙ sym b.period in
    let e2 : t.start ≡ u.start = only _ _ t.start u.start is.1.0.positive a.start b.start in
    λ i. record { period = e1 i; start = e2 i }

pub reduced_past : (r : Rate) → IsRate r → (t : Timing) → IsTimingPast (timing_of_rate r) → IsReducedTiming (timing_of_rate r) t → ⊥
reduced_past r is t p a =
    past_small p.terms t.start (only _ _ p.terms t.start is.1.0.positive (past_form _ _ p.terms p.past p.equal) a.start) p.past.past a.small.start

abbrev pub with_rate : List Placed → ℕ → Timing → ℕ → List Placed
with_rate cs x q at = cs ++ (record { constraint = rated x q; at = at }) ∷ []

module _ (cs : List Placed) (st : List Standing) (solved : IsSolved cs st) (x : ℕ) (q : Timing) (is_link : IsLink q) (lowest : IsSmallFraction q.period) (at : ℕ)
    (X : Standing) (ex : standing_at st x ≡ X) where
  clock_x : (standing_at st x).clock ≡ X.clock
  clock_x = ap (λ (s : Standing). s.clock) ex

  pub has_solved : (known : Timing) → X.clock ≡ Some known → IsReducedTiming q known → IsSolved (with_rate cs x q at) st
  has_solved known is = known_solved cs st solved x q is_link lowest at known (clock_x ∙ is)

  pub has_refused : (known : Timing) → X.clock ≡ Some known → (IsReducedTiming q known → ⊥) → IsConsistent (with_rate cs x q at) → ⊥
  has_refused known is = known_refused cs st solved x q is_link lowest at known (clock_x ∙ is)

  module _ (none : X.clock ≡ None) where
    none' : (standing_at st x).clock ≡ None
    none' = clock_x ∙ none

    pub consistent : IsConsistent (with_rate cs x q at)
    consistent = new_consistent cs st solved x q is_link lowest at none'

    pub start_past : IsTimingPast q → Passes (with_rate cs x q at)
    start_past = new_past cs st solved x q is_link lowest at none'

    pub nonzero_over : X.over.period.num ≢ pos 0
    nonzero_over = let P : Standing → Type 0 = λ s. s.over.period.num ≢ pos 0 in subst P ex (over_nonzero cs st solved x q is_link lowest at none')

    module _ (t : Timing) (reduced : IsReducedTiming q t) where
      pub over_past : IsOverPast X.over t → Passes (with_rate cs x q at)
      over_past =
          let P : Standing → Type 0 = λ s. IsOverPast s.over t → Passes (with_rate cs x q at) in
          subst P ex (root_past cs st solved x q is_link lowest at none' t reduced)

      module _ (root : Timing) (small : IsSmallTiming root) (composed : IsComposed X.over root t) where
        composed' : IsComposed (standing_at st x).over root t
        composed' = let P : Standing → Type 0 = λ s. IsComposed s.over root t in subst P (sym ex) composed

        pub one_past : IsOnePast X.root root st → Passes (with_rate cs x q at)
        one_past =
            let P : Standing → Type 0 = λ s. IsOnePast s.root root st → Passes (with_rate cs x q at) in
            subst P ex (new_one_past cs st solved x q is_link lowest at none' t reduced root small composed')

        pub timed_solved : (new : List Standing) → length new ≡ length st → x < length st → AreTimed X.root root st new → IsSolved (with_rate cs x q at) new
        timed_solved new same within =
            let P : Standing → Type 0 = λ s. AreTimed s.root root st new → IsSolved (with_rate cs x q at) new in
            subst P ex (new_solved cs st solved x q is_link lowest at none' t reduced root small composed' new same within)

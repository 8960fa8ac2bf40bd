-- The constraint that a flow is so over another, by the two standings that were read.
use Rattle.std.proofs.Common.{◌≡◌, ◌≢◌, ◌<◌, ◌++◌, ◌∷◌, [], List, ℕ, Option, Some, None, length, refl, sym, ap, subst, arith, ◌∙◌}
use Rattle.prl_ast.specs.InRange.{IfThere}
use Rattle.prl_clock.specs.Vocabulary.{Standing, Timing, IsConsistent, Passes, Placed, related, HasParts, IsComposed, IsComposedPast, IsOverPast, IsSmallTiming, IsSolved, IsMerging, IsLink}
use Rattle.prl_clock.specs.Vocabulary.{standing_at, root_at}
use Rattle.prl_clock.proofs.Terms.{small_parts}
use Rattle.prl_clock.proofs.Relating.{within_solved, within_refused, clocks_refused, across_consistent, down_passes, up_passes, merging_down, merging_up}

abbrev pub with_link : List Placed → ℕ → ℕ → Timing → ℕ → List Placed
with_link cs x y link at = cs ++ (record { constraint = related x y link; at = at }) ∷ []

pub small_read : (cs : List Placed) (st : List Standing) → IsSolved cs st → (x : ℕ) (X : Standing) → standing_at st x ≡ X → IsSmallTiming X.over
small_read cs st solved x X e = let P : Standing → Type 0 = λ s. IsSmallTiming s.over in subst P e (solved.standings.small x)

pub clock_read : (cs : List Placed) (st : List Standing) → IsSolved cs st → (x : ℕ) (X : Standing) → standing_at st x ≡ X → IfThere IsSmallTiming X.clock
clock_read cs st solved x X e = of X.clock refl
  where
    of : (o : Option Timing) → X.clock ≡ o → IfThere IsSmallTiming o
    of None f = tt
    of (Some t) f = solved.standings.small_clock x t (ap (λ (s : Standing). s.clock) e ∙ f)

pub parts_there : (o : Option Timing) → IfThere IsSmallTiming o → IfThere HasParts o
parts_there None s = tt
parts_there (Some t) s = small_parts t s

module _ (cs : List Placed) (st : List Standing) (solved : IsSolved cs st) (x y : ℕ) (link : Timing) (is_link : IsLink link) (at : ℕ)
    (X Y : Standing) (ex : standing_at st x ≡ X) (ey : standing_at st y ≡ Y) where
  root_x : root_at st x ≡ X.root
  root_x = ap (λ (s : Standing). s.root) ex

  root_y : root_at st y ≡ Y.root
  root_y = ap (λ (s : Standing). s.root) ey

  over_x : (standing_at st x).over ≡ X.over
  over_x = ap (λ (s : Standing). s.over) ex

  over_y : (standing_at st y).over ≡ Y.over
  over_y = ap (λ (s : Standing). s.over) ey

  composed_in : IsComposed link Y.over X.over → IsComposed link (standing_at st y).over (standing_at st x).over
  composed_in c =
      let P : Timing → Type 0 = λ t. IsComposed link t X.over in
      let Q : Timing → Type 0 = λ t. IsComposed link (standing_at st y).over t in subst Q (sym over_x) (subst P (sym over_y) c)

  composed_out : IsComposed link (standing_at st y).over (standing_at st x).over → IsComposed link Y.over X.over
  composed_out c =
      let P : Timing → Type 0 = λ t. IsComposed link t X.over in
      let Q : Timing → Type 0 = λ t. IsComposed link (standing_at st y).over t in subst P over_y (subst Q over_x c)

  pub same_solved : X.root ≡ Y.root → IsComposed link Y.over X.over → IsSolved (with_link cs x y link at) st
  same_solved e c = within_solved cs st solved x y link is_link at (root_x ∙ e ∙ sym root_y) (composed_in c)

  pub same_refused : X.root ≡ Y.root → (IsComposed link Y.over X.over → ⊥) → IsConsistent (with_link cs x y link at) → ⊥
  same_refused e never = within_refused cs st solved x y link is_link at (root_x ∙ e ∙ sym root_y) (λ c. never (composed_out c))

  pub agree_refused : (t : Timing) × (u : Timing) × (Y.clock ≡ Some t) × (X.clock ≡ Some u) × (IsComposed link t u → ⊥) → IsConsistent (with_link cs x y link at) → ⊥
  agree_refused h =
      clocks_refused cs st solved x y link is_link at h.0 h.1 (ap (λ (s : Standing). s.clock) ey ∙ h.2) (ap (λ (s : Standing). s.clock) ex ∙ h.3) h.4

  module _ (two : X.root ≢ Y.root) (agree : (t u : Timing) → Y.clock ≡ Some t → X.clock ≡ Some u → IsComposed link t u) where
    two' : root_at st x ≢ root_at st y
    two' e = two (sym root_x ∙ e ∙ root_y)

    agree' : (t u : Timing) → (standing_at st y).clock ≡ Some t → (standing_at st x).clock ≡ Some u → IsComposed link t u
    agree' t u p q = agree t u (sym (ap (λ (s : Standing). s.clock) ey) ∙ p) (sym (ap (λ (s : Standing). s.clock) ex) ∙ q)

    pub consistent : IsConsistent (with_link cs x y link at)
    consistent = across_consistent cs st solved x y link is_link at two' agree'

    module _ (lower : Y.root < X.root) (within : x < length st) where
      lower_down : root_at st y < root_at st x
      lower_down = omega (arith, lower, root_x, root_y)

      pub down_past : IsComposedPast link Y.over → Passes (with_link cs x y link at)
      down_past p =
          let P : Timing → Type 0 = λ t. IsComposedPast link t in
          down_passes cs st solved x y link is_link at two' agree' lower_down within (subst P (sym over_y) p)

      pub down_merging : (w : Timing) → IsSmallTiming w → IsComposed link Y.over w → IsMerging (with_link cs x y link at) st X Y w
      down_merging w small c =
          let P : Timing → Type 0 = λ t. IsComposed link t w in
          let Q : Standing → Type 0 = λ s. IsMerging (with_link cs x y link at) st s (standing_at st y) w in
          let R : Standing → Type 0 = λ s. IsMerging (with_link cs x y link at) st X s w in
          subst R ey (subst Q ex (merging_down cs st solved x y link is_link at two' agree' lower_down within w small (subst P (sym over_y) c)))

    module _ (lower : X.root < Y.root) (within : y < length st) where
      lower_up : root_at st x < root_at st y
      lower_up = omega (arith, lower, root_x, root_y)

      pub up_past : IsOverPast link X.over → Passes (with_link cs x y link at)
      up_past p =
          let P : Timing → Type 0 = λ t. IsOverPast link t in
          up_passes cs st solved x y link is_link at two' agree' lower_up within (subst P (sym over_x) p)

      pub up_merging : (w : Timing) → IsSmallTiming w → IsComposed link w X.over → IsMerging (with_link cs x y link at) st Y X w
      up_merging w small c =
          let P : Timing → Type 0 = λ t. IsComposed link w t in
          let Q : Standing → Type 0 = λ s. IsMerging (with_link cs x y link at) st s (standing_at st x) w in
          let R : Standing → Type 0 = λ s. IsMerging (with_link cs x y link at) st Y s w in
          subst R ex (subst Q ey (merging_up cs st solved x y link is_link at two' agree' lower_up within w small (subst P (sym over_x) c)))

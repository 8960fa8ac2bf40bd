-- The constraint that a flow is so over another.
use Rattle.std.proofs.Common.{cond, ◌≡◌, ◌≢◌, ◌<◌, ◌++◌, ◌⊎◌, inl, inr, ◌==◌, eq-eqb, ℕ, pos, Bool, true, false, List, [], ◌∷◌, length, Option, Some, None, refl, sym, ap, ◌∙◌, subst}
use Rattle.std.proofs.lemmas.Bool.{ne_eqb}
use Rattle.prl_clock.specs.Vocabulary.{Timing, Standing, Assignment, tick, MeetsAll, IsConsistent, Joins, Connected, here, on, Passes, period_over, start_over, Placed, related, Point, IsOver}
use Rattle.prl_clock.specs.Vocabulary.{IsComposed, IsComposedPast, IsOverPast, IsSmallTiming, AreStandings, IsSolved, IsJoint, IsMerging, IsLink, HasRate, HasClock, standing_at, root_at}
use Rattle.prl_clock.proofs.Adjusting.{adjusted, adjusted_meets, bridge, bridge_back, IsBridge, IsBridgeBack, scaled}
use Rattle.prl_clock.proofs.Algebra.{composed_of, composed_left, composed_right, composed_is}
use Rattle.prl_clock.proofs.Graphs.{meets_before, meets_after, meets_both, joins_after, joins_either, rates_either, connected_before, same_root}
use Rattle.prl_clock.proofs.Joining.{lowest_low}
use Rattle.prl_clock.proofs.Merging.{decide}
use Rattle.prl_clock.proofs.Passing.{composed_passes, over_passes}
use Rattle.prl_clock.proofs.Terms.{small_parts}

-- standings stay so under more constraints, where these can be met
pub more_standings : (cs ds : List Placed) (st : List Standing) → AreStandings cs st → IsConsistent (cs ++ ds) → AreStandings (cs ++ ds) st
more_standings cs ds st are consistent = record {
  consistent = consistent;
  over = λ s m x. are.over s (meets_before s cs ds m) x;
  clock = λ s m x t e. are.clock s (meets_before s cs ds m) x t e;
  small = are.small;
  small_clock = are.small_clock;
  low = are.low;
  led = λ x. connected_before cs ds x (root_at st x) (are.led x);
}

-- a root stands over itself
pub root_fixed : (cs : List Placed) (st : List Standing) → IsSolved cs st → (x : ℕ) → root_at st (root_at st x) ≡ root_at st x
root_fixed cs st solved x = sym (same_root cs (root_at st) solved.joined x (root_at st x) (solved.standings.led x))

module _ (cs : List Placed) (st : List Standing) (solved : IsSolved cs st) (x y : ℕ) (link : Timing) (is_link : IsLink link) (at : ℕ) where
  abbrev last : List Placed
  last = (record { constraint = related x y link; at = at }) ∷ []

  its : (s : Assignment) → MeetsAll s (cs ++ last) → IsOver link (s.flow x) (s.flow y)
  its s m = (meets_after s cs last m).0

  both : (s : Assignment) → MeetsAll s cs → IsOver link (s.flow x) (s.flow y) → MeetsAll s (cs ++ last)
  both s m o = meets_both s cs last m (o, tt)

  newest : (a b : ℕ) → Joins (cs ++ last) a b → Joins cs a b ⊎ ((x ≡ a) × (y ≡ b))
  newest a b j = elim (joins_either cs last a b j) [ inl k ↦ inl k | inr k ↦ inr (elim k [ inl e ↦ e | inr e ↦ absurd e ]) ]

  rates : (a : ℕ) → HasRate (cs ++ last) a → HasClock st a
  rates a h = elim (rates_either cs last a h) [ inl k ↦ solved.rated a k | inr k ↦ absurd (elim k [ inl e ↦ absurd e | inr e ↦ absurd e ]) ]

  link_of : Connected (cs ++ last) x y
  link_of = on x x y (here x) (inl (joins_after cs last x y (inl (refl, refl))))

  link_back : Connected (cs ++ last) y x
  link_back = on y y x (here y) (inr (joins_after cs last x y (inl (refl, refl))))

  x_over : (s : Assignment) → MeetsAll s cs → IsOver (standing_at st x).over (s.flow x) (s.flow (root_at st x))
  x_over s m = solved.standings.over s m x

  y_over : (s : Assignment) → MeetsAll s cs → IsOver (standing_at st y).over (s.flow y) (s.flow (root_at st y))
  y_over s m = solved.standings.over s m y

  small_x : IsSmallTiming (standing_at st x).over
  small_x = solved.standings.small x

  small_y : IsSmallTiming (standing_at st y).over
  small_y = solved.standings.small y

  -- in one component
  module _ (one : root_at st x ≡ root_at st y) where
    x_over_y's : (s : Assignment) → MeetsAll s cs → IsOver (standing_at st x).over (s.flow x) (s.flow (root_at st y))
    x_over_y's s m = let P : ℕ → Type 0 = λ r. IsOver (standing_at st x).over (s.flow x) (s.flow r) in subst P one (x_over s m)

    pub within_solved : IsComposed link (standing_at st y).over (standing_at st x).over → IsSolved (cs ++ last) st
    within_solved c =
        let s : Assignment = solved.standings.consistent.0 in
        let m : MeetsAll s cs = solved.standings.consistent.1 in
        let o : IsOver link (s.flow x) (s.flow y) =
        composed_left link (standing_at st y).over (standing_at st x).over is_link.parts (small_parts _ small_y) (small_parts _ small_x)
        (s.flow x) (s.flow y) (s.flow (root_at st y)) (s.positive x) (s.positive y) (s.positive (root_at st y)) (y_over s m) (x_over_y's s m) c in
        record {
          standings = more_standings cs last st solved.standings (s, both s m o);
          joined = λ a b j.
              elim (newest a b j) [
                | inl k ↦ solved.joined a b k
                | inr e ↦ ap (root_at st) (sym e.0) ∙ one ∙ ap (root_at st) e.1
              ];
          rated = rates;
          shared = solved.shared;
        }

    pub within_refused : (IsComposed link (standing_at st y).over (standing_at st x).over → ⊥) → IsConsistent (cs ++ last) → ⊥
    within_refused never (s, m) =
        let k = meets_before s cs last m in
        never
        (composed_is link (standing_at st y).over (standing_at st x).over is_link.parts (small_parts _ small_y) (small_parts _ small_x)
        (s.flow x) (s.flow y) (s.flow (root_at st y)) (s.positive x) (s.positive y) (s.positive (root_at st y)) (its s m) (y_over s k) (x_over_y's s k))

  -- clocks that do not agree
  pub clocks_refused : (t u : Timing) → (standing_at st y).clock ≡ Some t → (standing_at st x).clock ≡ Some u → (IsComposed link t u → ⊥) → IsConsistent (cs ++ last) → ⊥
  clocks_refused t u of_y of_x never (s, m) =
      let k = meets_before s cs last m in
      never
      (composed_is link t u is_link.parts (small_parts _ (solved.standings.small_clock y t of_y)) (small_parts _ (solved.standings.small_clock x u of_x))
      (s.flow x) (s.flow y) (tick s) (s.positive x) (s.positive y) s.some (its s m) (solved.standings.clock s k y t of_y) (solved.standings.clock s k x u of_x))

  -- of two components, one of which may be changed, or whose clocks agree
  module _ (two : root_at st x ≢ root_at st y)
      (agree : (t u : Timing) → (standing_at st y).clock ≡ Some t → (standing_at st x).clock ≡ Some u → IsComposed link t u) where
    s₀ : Assignment
    s₀ = solved.standings.consistent.0

    m₀ : MeetsAll s₀ cs
    unfolding s₀
    m₀ = solved.standings.consistent.1

    abbrev inside : ℕ → ℕ → Bool
    inside r z = root_at st z == r

    in_root : (z : ℕ) → inside (root_at st z) z ≡ true
    in_root z = eq-eqb (root_at st z) (root_at st z) refl

    not_in : (r z : ℕ) → root_at st z ≢ r → inside r z ≡ false
    not_in r z n = ne_eqb (root_at st z) r n

    joined_in : (r : ℕ) (a b : ℕ) → Joins cs a b → inside r a ≡ inside r b
    joined_in r a b j = ap (λ t. t == r) (solved.joined a b j)

    no_clock : (z : ℕ) → (standing_at st z).clock ≡ None → (a : ℕ) → HasRate cs a → inside (root_at st z) a ≡ false
    no_clock z none a h =
        elim (decide (root_at st a) (root_at st z)) [
          | inl e ↦ absurd (none_some none (solved.shared a z e (solved.rated a h)).1)
          | inr n ↦ not_in (root_at st z) a n
        ]
      where
        none_some : {o : Option Timing} {t : Timing} → o ≡ None → o ≡ Some t → ⊥
        none_some e f = cc

    pub across_consistent : IsConsistent (cs ++ last)
    across_consistent = by (standing_at st x).clock (standing_at st y).clock refl refl
      where
        by : (u t : Option Timing) → (standing_at st x).clock ≡ u → (standing_at st y).clock ≡ t → IsConsistent (cs ++ last)
        by None t of_x of_y =
            let k = bridge link is_link (s₀.flow x) (s₀.flow y) (s₀.positive x) (s₀.positive y) in
            let r : ℕ = root_at st x in
            let z : Assignment = adjusted s₀ (inside r) k.first k.second k.offset k.some_first k.some_second in
            let o : IsOver link (z.flow x) (z.flow y) =
            choose link (s₀.flow x) (s₀.flow y) k (inside r x) (inside r y) (in_root x) (not_in r y (λ e. two (sym e))) in
            (z, both z (adjusted_meets s₀ (inside r) k.first k.second k.offset k.some_first k.some_second cs m₀ (joined_in r) (no_clock x of_x)) o)
          where
            choose : (q : Timing) (u v : Point) (k : IsBridge q u v) (a b : Bool) → a ≡ true → b ≡ false
                → IsOver q (cond a (scaled k.first k.offset u) (scaled k.second (pos 0) u)) (cond b (scaled k.first k.offset v) (scaled k.second (pos 0) v))
            choose q u v k true false ea eb = k.over
            choose q u v k true true ea eb = absurd (cc eb)
            choose q u v k false b ea eb = absurd (cc ea)
        by (Some u) None of_x of_y =
            let k = bridge_back link is_link (s₀.flow x) (s₀.flow y) (s₀.positive x) (s₀.positive y) in
            let r : ℕ = root_at st y in
            let z : Assignment = adjusted s₀ (inside r) k.second k.first k.offset k.some_second k.some_first in
            let o : IsOver link (z.flow x) (z.flow y) =
            choose link (s₀.flow x) (s₀.flow y) k (inside r x) (inside r y) (not_in r x two) (in_root y) in
            (z, both z (adjusted_meets s₀ (inside r) k.second k.first k.offset k.some_second k.some_first cs m₀ (joined_in r) (no_clock y of_y)) o)
          where
            choose : (q : Timing) (u v : Point) (k : IsBridgeBack q u v) (a b : Bool) → a ≡ false → b ≡ true
                → IsOver q (cond a (scaled k.second k.offset u) (scaled k.first (pos 0) u)) (cond b (scaled k.second k.offset v) (scaled k.first (pos 0) v))
            choose q u v k false true ea eb = k.over
            choose q u v k false false ea eb = absurd (cc eb)
            choose q u v k true b ea eb = absurd (cc ea)
        by (Some u) (Some t) of_x of_y = (
          s₀,
          both s₀ m₀
              (composed_left link t u is_link.parts (small_parts _ (solved.standings.small_clock y t of_y)) (small_parts _ (solved.standings.small_clock x u of_x))
              (s₀.flow x) (s₀.flow y) (tick s₀) (s₀.positive x) (s₀.positive y) s₀.some (solved.standings.clock s₀ m₀ y t of_y) (solved.standings.clock s₀ m₀ x u of_x) (agree t u of_y of_x)),
        )

    are' : AreStandings (cs ++ last) st
    are' = more_standings cs last st solved.standings across_consistent

    -- one of the two goes over what the other stands over
    joint_of : (u v : ℕ) → root_at st v < root_at st u → u < length st → Connected (cs ++ last) u v
        → ((a b : ℕ) → (x ≡ a) × (y ≡ b) → ((root_at st a ≡ root_at st u) × (root_at st b ≡ root_at st v)) ⊎ ((root_at st a ≡ root_at st v) × (root_at st b ≡ root_at st u)))
        → IsJoint (cs ++ last) st (standing_at st u) (standing_at st v)
    joint_of u v lower within link ends = record {
      standings = are';
      first = u;
      second = v;
      first_is = refl;
      second_is = refl;
      within = within;
      lower = lower;
      link = link;
      fixed = root_fixed cs st solved;
      joined = λ a b j. elim (newest a b j) [ inl k ↦ inl (solved.joined a b k) | inr e ↦ inr (ends a b e) ];
      rated = rates;
      shared = solved.shared;
    }

    -- the first goes over what the second stands over
    module _ (lower : root_at st y < root_at st x) (within : x < length st) where
      pub joint_down : IsJoint (cs ++ last) st (standing_at st x) (standing_at st y)
      joint_down = joint_of x y lower within link_of (λ a b e. inl (ap (root_at st) (sym e.0), ap (root_at st) (sym e.1)))

      pub down_passes : IsComposedPast link (standing_at st y).over → Passes (cs ++ last)
      down_passes past =
          composed_passes (cs ++ last) (λ s. s.flow x) (λ s. s.flow y) (λ s. s.flow (root_at st y)) (λ s. s.positive x) (λ s. s.positive y) (Passes (cs ++ last))
          (λ f h j. period_over x (root_at st y) f (lowest_low (cs ++ last) st (standing_at st x) (standing_at st y) joint_down x (inl refl)) h j)
          (λ f h j. start_over x (root_at st y) f (lowest_low (cs ++ last) st (standing_at st x) (standing_at st y) joint_down x (inl refl)) h j)
          link (standing_at st y).over is_link.parts (small_parts _ small_y) its (λ s m. y_over s (meets_before s cs last m)) past

      pub merging_down : (w : Timing) → IsSmallTiming w → IsComposed link (standing_at st y).over w → IsMerging (cs ++ last) st (standing_at st x) (standing_at st y) w
      unfolding joint_down joint_of
      merging_down w small c = record {
        joint = joint_down;
        small = small;
        over = λ s m.
            composed_of link (standing_at st y).over w is_link.parts (small_parts _ small_y) (small_parts _ small)
            (s.flow x) (s.flow y) (s.flow (root_at st y)) (s.positive x) (s.positive y) (s.positive (root_at st y)) (its s m) (y_over s (meets_before s cs last m)) c;
      }

    -- the second goes over what the first stands over
    module _ (lower : root_at st x < root_at st y) (within : y < length st) where
      pub joint_up : IsJoint (cs ++ last) st (standing_at st y) (standing_at st x)
      joint_up = joint_of y x lower within link_back (λ a b e. inr (ap (root_at st) (sym e.0), ap (root_at st) (sym e.1)))

      pub up_passes : IsOverPast link (standing_at st x).over → Passes (cs ++ last)
      up_passes past =
          over_passes (cs ++ last) (λ s. s.flow x) (λ s. s.flow y) (λ s. s.flow (root_at st x)) (λ s. s.positive x) (λ s. s.positive y) (Passes (cs ++ last))
          (λ f h j. period_over y (root_at st x) f (lowest_low (cs ++ last) st (standing_at st y) (standing_at st x) joint_up y (inl refl)) h j)
          (λ f h j. start_over y (root_at st x) f (lowest_low (cs ++ last) st (standing_at st y) (standing_at st x) joint_up y (inl refl)) h j)
          link (standing_at st x).over is_link.parts (small_parts _ small_x) its (λ s m. x_over s (meets_before s cs last m)) past

      pub merging_up : (w : Timing) → IsSmallTiming w → IsComposed link w (standing_at st x).over → IsMerging (cs ++ last) st (standing_at st y) (standing_at st x) w
      unfolding joint_up joint_of
      merging_up w small c = record {
        joint = joint_up;
        small = small;
        over = λ s m.
            composed_right link w (standing_at st x).over is_link.parts (small_parts _ small) (small_parts _ small_x)
            (s.flow x) (s.flow y) (s.flow (root_at st x)) (s.positive x) (s.positive y) (s.positive (root_at st x)) (its s m) (x_over s (meets_before s cs last m)) c;
      }

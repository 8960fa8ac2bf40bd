-- The constraint that a flow has a rate.
use Rattle.std.proofs.Common.{cond, ◌≡◌, ◌≢◌, ◌≤◌, ◌<◌, ◌+◌, ◌*◌, ◌++◌, ◌⊎◌, inl, inr, ◌==◌, eq-eqb, ℕ, ℤ, pos, ◌*ℤ◌, ◌-ℤ◌, Bool, true, false, List, [], ◌∷◌, length, Option, Some, None, refl, sym, ap, subst, arith}
use Rattle.std.proofs.lemmas.Bool.{ne_eqb}
use borrow.Author.Differences.{up, down}
use Rattle.prl_base.specs.Ratios.{Fraction, IsSmallFraction}
use Rattle.prl_clock.specs.Vocabulary.{Timing, Standing, Assignment, tick, MeetsAll, IsConsistent, Joins, Passes, period, start, Placed, rated, Point, IsRatio, IsOver, HasParts, IsComposed}
use Rattle.prl_clock.specs.Vocabulary.{IsOverPast, IsSmallTiming, IsReducedTiming, IsTimingPast, AreStandings, IsSolved, IsOpen, AreTimed, IsLink, IsOnePast, HasRate, HasClock, standing_at, root_at}
use Rattle.prl_clock.proofs.Adjusting.{adjusted, adjusted_meets, bridge, scaled, tick_scaled}
use Rattle.prl_clock.proofs.Algebra.{Ratio, cancel_nat, times, ratio_in, ratio_out, composed_right}
use Rattle.prl_clock.proofs.Graphs.{meets_before, meets_after, meets_both, joins_either, rates_either}
use Rattle.prl_clock.proofs.Joined.{nonzero}
use Rattle.prl_clock.proofs.Merging.{decide, timed_everywhere, timed_solved}
use Rattle.prl_clock.proofs.Passing.{over_passes, timed_passes}
use Rattle.prl_clock.proofs.Relating.{more_standings}
use Rattle.prl_clock.proofs.Terms.{small_parts, past_form, only, small_form}

-- equal fractions are the same ratio
pub through : (f q : Fraction) (x : ℤ) (u : ℕ) → 1 ≤ q.den → f.num *ℤ pos q.den ≡ q.num *ℤ pos f.den → IsRatio q x u → IsRatio f x u
through f q x u some e h =
    let E : Ratio (up f.num) (down f.num) f.den (up q.num) (down q.num) q.den = ratio_out f q.num q.den e in
    let H : Ratio (up q.num) (down q.num) q.den (up x) (down x) u = ratio_out q x u h in
    ratio_in f x u
    (cancel_nat q.den (up f.num * u + down x * f.den) (down f.num * u + up x * f.den) some (omega (arith, times u _ _ E, times f.den _ _ H)))

pub crossing : (f q : Fraction) (x : ℤ) (u : ℕ) → 1 ≤ u → IsRatio f x u → IsRatio q x u → f.num *ℤ pos q.den ≡ q.num *ℤ pos f.den
crossing f q x u some g h =
    let G : Ratio (up f.num) (down f.num) f.den (up x) (down x) u = ratio_out f x u g in
    let H : Ratio (up q.num) (down q.num) q.den (up x) (down x) u = ratio_out q x u h in
    ratio_in f q.num q.den
    (cancel_nat u (up f.num * q.den + down q.num * f.den) (down f.num * q.den + up q.num * f.den) some (omega (arith, times q.den _ _ G, times f.den _ _ H)))

pub over_reduced : (q t : Timing) (x y : Point) → HasParts q → IsReducedTiming q t → IsOver q x y → IsOver t x y
over_reduced q t x y d r o = record {
  period = let P : Fraction → Type 0 = λ f. IsRatio f (pos x.period) y.period in subst P (sym r.period) o.period;
  start = through t.start q.start (x.start -ℤ y.start) y.period d.start r.start.equal o.start;
}

pub over_unreduced : (q t : Timing) (x y : Point) → IsReducedTiming q t → IsOver t x y → IsOver q x y
over_unreduced q t x y r o = record {
  period = let P : Fraction → Type 0 = λ f. IsRatio f (pos x.period) y.period in subst P r.period o.period;
  start = through q.start t.start (x.start -ℤ y.start) y.period r.start.positive (sym r.start.equal) o.start;
}

module _ (cs : List Placed) (st : List Standing) (solved : IsSolved cs st) (x : ℕ) (q : Timing) (is_link : IsLink q) (lowest : IsSmallFraction q.period) (at : ℕ) where
  abbrev last : List Placed
  last = (record { constraint = rated x q; at = at }) ∷ []

  its : (s : Assignment) → MeetsAll s (cs ++ last) → IsOver q (s.flow x) (tick s)
  its s m = (meets_after s cs last m).0

  both : (s : Assignment) → MeetsAll s cs → IsOver q (s.flow x) (tick s) → MeetsAll s (cs ++ last)
  both s m o = meets_both s cs last m (o, tt)

  no_join : (a b : ℕ) → Joins (cs ++ last) a b → Joins cs a b
  no_join a b j = elim (joins_either cs last a b j) [ inl k ↦ k | inr k ↦ absurd (elim k [ inl e ↦ absurd e | inr e ↦ absurd e ]) ]

  newest : (a : ℕ) → HasRate (cs ++ last) a → HasRate cs a ⊎ (x ≡ a)
  newest a h = elim (rates_either cs last a h) [ inl k ↦ inl k | inr k ↦ inr (elim k [ inl e ↦ e | inr e ↦ absurd e ]) ]

  -- the flow has a clock
  module _ (known : Timing) (is : (standing_at st x).clock ≡ Some known) where
    pub known_solved : IsReducedTiming q known → IsSolved (cs ++ last) st
    known_solved r =
        let s : Assignment = solved.standings.consistent.0 in
        let m : MeetsAll s cs = solved.standings.consistent.1 in
        record {
          standings =
              more_standings cs last st solved.standings
              (s, both s m (over_unreduced q known (s.flow x) (tick s) r (solved.standings.clock s m x known is)));
          joined = λ a b j. solved.joined a b (no_join a b j);
          rated = λ a h.
              elim (newest a h) [
                | inl k ↦ solved.rated a k
                | inr e ↦ let P : ℕ → Type 0 = λ b. HasClock st b in subst P e (known, is)
              ];
          shared = solved.shared;
        }

    pub known_refused : (IsReducedTiming q known → ⊥) → IsConsistent (cs ++ last) → ⊥
    known_refused never (s, m) =
        let o = its s m in
        let c = solved.standings.clock s (meets_before s cs last m) x known is in
        let small = solved.standings.small_clock x known is in
        never (record {
          period = only (pos (s.flow x).period) s.unit known.period q.period s.some (small_form (pos (s.flow x).period) s.unit known.period small.period c.period) (small_form (pos (s.flow x).period) s.unit q.period lowest o.period);
          start = small_form _ _ known.start small.start (crossing known.start q.start ((s.flow x).start -ℤ pos 0) s.unit s.some c.start o.start);
          small = small;
        })

  -- the flow has none
  module _ (none : (standing_at st x).clock ≡ None) where
    s₀ : Assignment
    s₀ = solved.standings.consistent.0

    m₀ : MeetsAll s₀ cs
    unfolding s₀
    m₀ = solved.standings.consistent.1

    abbrev inside : ℕ → Bool
    inside z = root_at st z == root_at st x

    none_some : {o : Option Timing} {t : Timing} → o ≡ None → o ≡ Some t → ⊥
    none_some e f = cc

    pub new_consistent : IsConsistent (cs ++ last)
    new_consistent =
        let k = bridge q is_link (s₀.flow x) (tick s₀) (s₀.positive x) s₀.some in
        let z : Assignment = adjusted s₀ inside k.first k.second k.offset k.some_first k.some_second in
        let P : Point → Type 0 = λ y. IsOver q (scaled k.first k.offset (s₀.flow x)) y in
        let o : IsOver q (scaled k.first k.offset (s₀.flow x)) (record { period = k.second * s₀.unit; start = pos 0 }) = subst P (tick_scaled k.second s₀) k.over in (
          z,
          both z
              (adjusted_meets s₀ inside k.first k.second k.offset k.some_first k.some_second cs m₀
              (λ a b j. ap (λ t. t == root_at st x) (solved.joined a b j))
              (λ a h.
              elim (decide (root_at st a) (root_at st x)) [
                | inl e ↦ absurd (none_some none (solved.shared a x e (solved.rated a h)).1)
                | inr n ↦ ne_eqb (root_at st a) (root_at st x) n
              ]))
              (chosen (inside x) (scaled k.first k.offset (s₀.flow x)) (scaled k.second (pos 0) (s₀.flow x)) (record { period = k.second * s₀.unit; start = pos 0 })
              (eq-eqb (root_at st x) (root_at st x) refl) o),
        )
      where
        chosen : (b : Bool) (u v y : Point) → b ≡ true → IsOver q u y → IsOver q (cond b u v) y
        chosen true u v y e o = o
        chosen false u v y e o = absurd (cc e)

    are : AreStandings (cs ++ last) st
    are = more_standings cs last st solved.standings new_consistent

    pub new_past : IsTimingPast q → Passes (cs ++ last)
    new_past p =
        start x p.terms
        (λ s m. past_form _ _ p.terms p.past (through p.terms q.start ((s.flow x).start -ℤ pos 0) s.unit is_link.parts.start p.equal (its s m).start)) p.past.past

    pub over_nonzero : (standing_at st x).over.period.num ≢ pos 0
    over_nonzero =
        nonzero (standing_at st x).over (s₀.flow x) (s₀.flow (root_at st x)) (small_parts _ (solved.standings.small x)) (s₀.positive x) (solved.standings.over s₀ m₀ x)

    module _ (t : Timing) (reduced : IsReducedTiming q t) where
      clock : (s : Assignment) → MeetsAll s (cs ++ last) → IsOver t (s.flow x) (tick s)
      clock s m = over_reduced q t (s.flow x) (tick s) is_link.parts reduced (its s m)

      pub root_past : IsOverPast (standing_at st x).over t → Passes (cs ++ last)
      root_past p =
          over_passes (cs ++ last) (λ s. s.flow x) (λ s. s.flow (root_at st x)) tick (λ s. s.positive x) (λ s. s.positive (root_at st x)) (Passes (cs ++ last))
          (λ f h j. period (root_at st x) f h j) (λ f h j. start (root_at st x) f h j)
          (standing_at st x).over t (small_parts _ (solved.standings.small x)) (small_parts _ reduced.small) (λ s m. are.over s m x) clock p

      module _ (root : Timing) (small : IsSmallTiming root) (composed : IsComposed (standing_at st x).over root t) where
        root_clock : (s : Assignment) → MeetsAll s (cs ++ last) → IsOver root (s.flow (root_at st x)) (tick s)
        root_clock s m =
            composed_right (standing_at st x).over root t (small_parts _ (solved.standings.small x)) (small_parts _ small) (small_parts _ reduced.small)
            (s.flow x) (s.flow (root_at st x)) (tick s) (s.positive x) (s.positive (root_at st x)) s.some (are.over s m x) (clock s m) composed

        pub new_one_past : IsOnePast (root_at st x) root st → Passes (cs ++ last)
        new_one_past one =
            timed_passes (cs ++ last) st are one.flow root (small_parts _ small)
            (λ s m. let P : ℕ → Type 0 = λ y. IsOver root (s.flow y) (tick s) in subst P (sym one.is) (root_clock s m)) one.past

        open_now : IsOpen (cs ++ last) st (root_at st x)
        open_now = record {
          standings = are;
          joined = λ a b j. solved.joined a b (no_join a b j);
          rated = λ a h n.
              elim (newest a h) [
                | inl k ↦ solved.rated a k
                | inr e ↦ absurd (n (ap (root_at st) (sym e)))
              ];
          shared = λ a b e n c. solved.shared a b e c;
        }

        pub new_solved : (new : List Standing) → length new ≡ length st → x < length st → AreTimed (root_at st x) root st new → IsSolved (cs ++ last) new
        new_solved new same within timed =
            let l : root_at st x < length st = let a = solved.standings.low x in omega (arith, a, within) in
            timed_solved (cs ++ last) st new (root_at st x) root open_now small root_clock (timed_everywhere (root_at st x) root st new same l timed)

-- Constraints one more: who stands where then.
use Rattle.prl_base.proofs.Standard.{◌≡◌, ◌≢◌, ◌≤◌, ◌<◌, ◌⊎◌, inl, inr, ℕ, List, length, Option, Some, None, refl, sym, ap, ◌∙◌, subst, arith, get_or-eq_default, cases_lt}
use Rattle.prl_clock.specs.Vocabulary.{Timing, Standing, Assignment, tick, MeetsAll, Connected, Placed, IsOver, IsSmallTiming, AreStandings, IsSolved, IsOpen, IsMoved, IsTimed, AreMoved, AreTimed, HasClock}
use Rattle.prl_clock.specs.Vocabulary.{standing_at, root_at, alone}
use Rattle.prl_clock.proofs.Algebra.{composed_of}
use Rattle.prl_clock.proofs.Terms.{small_parts}

-- past the end there are lone flows
pub beyond : (st : List Standing) (x : ℕ) → length st ≤ x → standing_at st x ≡ alone x
beyond st x h = get_or-eq_default st (alone x) h

pub decide : (m n : ℕ) → (m ≡ n) ⊎ (m ≢ n)
decide m n = elim (cases_lt m n) [
  | inl below ↦ inr (λ e. omega (arith, below, e))
  | inr above ↦ elim (cases_lt n m) [ inl less ↦ inr (λ e. omega (arith, less, e)) | inr other ↦ inl (omega (arith, above, other)) ]
]

-- past the lists, where nothing is a root that lies within, all stays
past_lists : (root x : ℕ) (old new : List Standing) → length new ≡ length old → root < length old → length old ≤ x →
    (root_at old x ≢ root) × (standing_at new x ≡ standing_at old x)
past_lists root x old new len within above =
    let a : standing_at old x ≡ alone x = beyond old x above in
    let r : root_at old x ≡ x = ap (λ (s : Standing). s.root) a in
    ((λ e. omega (arith, r, e, above, within)), beyond new x (omega arith) ∙ sym a)

-- what changes for each flow of a list changes so for all
pub moved_everywhere : (high low : ℕ) (shift : Timing) (old new : List Standing) → length new ≡ length old → high < length old
    → AreMoved high low shift old new → (x : ℕ) → IsMoved high low shift (standing_at old x) (standing_at new x)
moved_everywhere high low shift old new len within moved x =
    elim (cases_lt x (length old)) [
      | inl below ↦ moved x below
      | inr above ↦
          let past = past_lists high x old new len within above in
          record { moved = λ e. absurd (past.0 e); kept = λ _. past.1 }
    ]

pub timed_everywhere : (root : ℕ) (clock : Timing) (old new : List Standing) → length new ≡ length old → root < length old
    → AreTimed root clock old new → (x : ℕ) → IsTimed root clock (standing_at old x) (standing_at new x)
timed_everywhere root clock old new len within timed x =
    elim (cases_lt x (length old)) [
      | inl below ↦ timed x below
      | inr above ↦
          let past = past_lists root x old new len within above in
          record { timed = λ e _. absurd (past.0 e); had = λ _ _. past.1; kept = λ _. past.1 }
    ]

-- there is a clock or none
pub clock_or_none : (o : Option Timing) → (o ≡ None) ⊎ ((t : Timing) × (o ≡ Some t))
clock_or_none None = inl refl
clock_or_none (Some t) = inr (t, refl)

-- a flow over the root gets a clock, or stays as it is
pub timed_or_same : (root : ℕ) (clock : Timing) (old new : Standing) → IsTimed root clock old new
    → ((old.root ≡ root) × (old.clock ≡ None)) ⊎ (new ≡ old)
timed_or_same root clock old new t =
    elim (decide old.root root) [
      | inr n ↦ inr (t.kept n)
      | inl e ↦ elim (clock_or_none old.clock) [
        | inl none ↦ inl (e, none)
        | inr some ↦ inr (t.had some.0 some.1)
      ]
    ]

-- Clocks for all flows over `r`.
module _ (cs : List Placed) (old new : List Standing) (r : ℕ) (clock : Timing) (are : AreStandings cs old) (small : IsSmallTiming clock)
    (over : (s : Assignment) → MeetsAll s cs → IsOver clock (s.flow r) (tick s))
    (timed : (x : ℕ) → IsTimed r clock (standing_at old x) (standing_at new x)) where
  pub same_over : (x : ℕ) → ((standing_at new x).over ≡ (standing_at old x).over) × (root_at new x ≡ root_at old x)
  same_over x =
      elim (timed_or_same r clock _ _ (timed x)) [
        | inl e ↦ let t = (timed x).timed e.0 e.1 in (ap (λ (s : Standing). s.over) t.1.0, ap (λ (s : Standing). s.root) t.1.0)
        | inr k ↦ (ap (λ (s : Standing). s.over) k, ap (λ (s : Standing). s.root) k)
      ]

  new_clock : (x : ℕ) (t : Timing) → (standing_at new x).clock ≡ Some t → IsSmallTiming t × ((s : Assignment) → MeetsAll s cs → IsOver t (s.flow x) (tick s))
  new_clock x t is =
      elim (timed_or_same r clock _ _ (timed x)) [
        | inl e ↦
            let u = (timed x).timed e.0 e.1 in
            let same : t ≡ u.0 = some_same (sym is ∙ ap (λ (s : Standing). s.clock) u.1.0) in
            let P : Timing → Type 0 = λ v. IsSmallTiming v × ((s : Assignment) → MeetsAll s cs → IsOver v (s.flow x) (tick s)) in
            subst P (sym same) (
              u.1.2,
              λ s m.
                  let root : IsOver (standing_at old x).over (s.flow x) (s.flow r) =
                  let Q : ℕ → Type 0 = λ y. IsOver (standing_at old x).over (s.flow x) (s.flow y) in subst Q e.0 (are.over s m x) in
                  composed_of (standing_at old x).over clock u.0 (small_parts _ (are.small x)) (small_parts _ small) (small_parts _ u.1.2)
                  (s.flow x) (s.flow r) (tick s) (s.positive x) (s.positive r) s.some root (over s m) u.1.1,
            )
        | inr same ↦
            let k : (standing_at old x).clock ≡ Some t = sym (ap (λ (s : Standing). s.clock) same) ∙ is in
            (are.small_clock x t k, λ s m. are.clock s m x t k)
      ]
    where
      some_same : {a b : Timing} → Some a ≡ Some b → a ≡ b
      some_same e = cc

  pub has_clock : (x : ℕ) → (root_at old x ≡ r) ⊎ HasClock old x → HasClock new x
  has_clock x h =
      elim (timed_or_same r clock _ _ (timed x)) [
        | inl e ↦ let u = (timed x).timed e.0 e.1 in (u.0, ap (λ (s : Standing). s.clock) u.1.0)
        | inr same ↦ elim h [
          | inl e ↦ elim (clock_or_none (standing_at old x).clock) [
            | inl none ↦ let u = (timed x).timed e none in (u.0, ap (λ (s : Standing). s.clock) u.1.0)
            | inr c ↦ (c.0, ap (λ (s : Standing). s.clock) same ∙ c.1)
          ]
          | inr c ↦ (c.0, ap (λ (s : Standing). s.clock) same ∙ c.1)
        ]
      ]

  pub had_clock : (x : ℕ) → root_at old x ≢ r → HasClock new x → HasClock old x
  had_clock x n c = (c.0, sym (ap (λ (s : Standing). s.clock) ((timed x).kept n)) ∙ c.1)

  pub timed_are : AreStandings cs new
  timed_are = record {
    consistent = are.consistent;
    over = λ s m x.
        let e = same_over x in
        let P : Timing → Type 0 = λ o. IsOver o (s.flow x) (s.flow (root_at new x)) in
        let Q : ℕ → Type 0 = λ y. IsOver (standing_at old x).over (s.flow x) (s.flow y) in
        subst P (sym e.0) (subst Q (sym e.1) (are.over s m x));
    clock = λ s m x t is. (new_clock x t is).1 s m;
    small = λ x. let P : Timing → Type 0 = λ o. IsSmallTiming o in subst P (sym (same_over x).0) (are.small x);
    small_clock = λ x t is. (new_clock x t is).0;
    low = λ x. let e = (same_over x).1 in let l = are.low x in omega (arith, e, l);
    led = λ x. let P : ℕ → Type 0 = λ y. Connected cs x y in subst P (sym (same_over x).1) (are.led x);
  }

module _ (cs : List Placed) (old new : List Standing) (r : ℕ) (clock : Timing) (open_ : IsOpen cs old r) (small : IsSmallTiming clock)
    (over : (s : Assignment) → MeetsAll s cs → IsOver clock (s.flow r) (tick s))
    (timed : (x : ℕ) → IsTimed r clock (standing_at old x) (standing_at new x)) where
  kept_root : (x : ℕ) → root_at new x ≡ root_at old x
  kept_root x = (same_over cs old new r clock open_.standings small over timed x).1

  has : (x : ℕ) → (root_at old x ≡ r) ⊎ HasClock old x → HasClock new x
  has = has_clock cs old new r clock open_.standings small over timed

  pub timed_solved : IsSolved cs new
  timed_solved = record {
    standings = timed_are cs old new r clock open_.standings small over timed;
    joined = λ x y j. kept_root x ∙ open_.joined x y j ∙ sym (kept_root y);
    rated = λ x h. has x (elim (decide (root_at old x) r) [ inl e ↦ inl e | inr n ↦ inr (open_.rated x h n) ]);
    shared = λ x y e c.
        let f : root_at old x ≡ root_at old y = sym (kept_root x) ∙ e ∙ kept_root y in
        has y (elim (decide (root_at old x) r) [ inl g ↦ inl (sym f ∙ g) | inr n ↦ inr (open_.shared x y f n (had_clock cs old new r clock open_.standings small over timed x n c)) ]);
  }

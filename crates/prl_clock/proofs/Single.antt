-- A flat program has one outcome at most.
use Rattle.prl_base.proofs.Standard.{◌≡◌, ◌≤◌, ◌<◌, ◌+◌, ◌*◌, ◌∷◌, inl, inr, ℕ, zero, suc, ℤ, pos, ◌*ℤ◌, ◌-ℤ◌, ◌≤ℤ◌, List, [], length, take, Some, Result, Ok, Err, refl, sym, ap, ◌∙◌, subst, arith}
use Rattle.prl_base.proofs.Standard.{slice_get, one-dvd, cases_lt, length-take-le, take_all, slice_get_within}
use borrow.Author.Differences.{ints}
use Rattle.prl_base.specs.Vocabulary.{Fraction, IsReducedForm}
use Rattle.prl_base.specs.declared.operators.Clock.{Clock}
use Rattle.prl_flow.specs.Vocabulary.{FlatProgram, IsFlat, clock_of}
use Rattle.prl_flow.specs.declared.programs.Flow.{Flow}
use Rattle.prl_clock.specs.Vocabulary.{ClockFault, Assignment, MeetsAll, IsConsistent, Passes, Placed, constraints_of, over_one, IsFine, IsMismatch, IsPastLimit, IsDetermined, HasChoice, IsFree}
use Rattle.prl_clock.specs.Vocabulary.{HasTiming, IsWhole, IsNotWhole, AreOnlyClocks, IsOutcome}
use Rattle.prl_clock.specs.declared.calculus.ClockFault.TheVariants as faults
use Rattle.prl_clock.proofs.Terms.{only}
use Rattle.prl_clock.proofs.Wholes.{only_these}

meets_first : (s : Assignment) (cs : List Placed) (m n : ℕ) → m ≤ n → MeetsAll s (take n cs) → MeetsAll s (take m cs)
meets_first s [] zero n h k = tt
meets_first s [] (suc m) n h k = tt
meets_first s (c ∷ cs) zero n h k = tt
meets_first s (c ∷ cs) (suc m) zero h k = absurd (omega (arith, h))
meets_first s (c ∷ cs) (suc m) (suc n) h k = (k.0, meets_first s cs m n (omega (arith, h)) k.1)

consistent_first : (cs : List Placed) (m n : ℕ) → m ≤ n → IsConsistent (take n cs) → IsConsistent (take m cs)
consistent_first cs m n h k = (k.0, meets_first k.0 cs m n h k.1)

consistent_all : (cs : List Placed) (m : ℕ) → IsConsistent cs → IsConsistent (take m cs)
consistent_all cs m k =
    elim (cases_lt (length cs) m) [
      | inl above ↦ let P : List Placed → Type 0 = λ t. IsConsistent t in subst P (sym (take_all m cs (omega (arith, above)))) k
      | inr below ↦
          let P : List Placed → Type 0 = λ t. IsConsistent t in
          consistent_first cs m (length cs) below (subst P (sym (take_all (length cs) cs (omega arith))) k)
    ]

first_first : (cs : List Placed) (m n : ℕ) → m ≤ n → take m (take n cs) ≡ take m cs
first_first [] zero n h = refl
first_first [] (suc m) zero h = refl
first_first [] (suc m) (suc n) h = refl
first_first (c ∷ cs) zero n h = refl
first_first (c ∷ cs) (suc m) zero h = absurd (omega (arith, h))
first_first (c ∷ cs) (suc m) (suc n) h = ap (λ t. c ∷ t) (first_first cs m n (omega (arith, h)))

-- no number passes within a fine front
not_within : (cs : List Placed) (m n : ℕ) → m ≤ n → n ≤ length cs → IsFine (take n cs) → Passes (take m cs) → ⊥
not_within cs m n h below fine p =
    let P : List Placed → Type 0 = λ t. Passes t in
    fine.within m (let e = length-take-le n cs below in omega (arith, h, e)) (subst P (sym (first_first cs m n h)) p)

module _ (cs : List Placed) where
  mismatches : (a b : ℕ) (m : IsMismatch cs a) (n : IsMismatch cs b) → a ≡ b
  mismatches a b m n =
      elim (cases_lt m.index n.index) [
        | inl less ↦ absurd (m.none (consistent_first cs (m.index + 1) n.index (omega (arith, less)) n.before.consistent))
        | inr above ↦ elim (cases_lt n.index m.index) [
          | inl less ↦ absurd (n.none (consistent_first cs (n.index + 1) m.index (omega (arith, less)) m.before.consistent))
          | inr other ↦
              let e : m.index ≡ n.index = omega (arith, above, other) in
              let P : ℕ → Type 0 = λ i. slice_get cs i ≡ Some m.placed in
              sym m.is ∙ ap (λ (c : Placed). c.at) (same (sym (subst P e m.found) ∙ n.found)) ∙ n.is
        ]
      ]
    where
      same : {x y : Placed} → Some x ≡ Some y → x ≡ y
      same e = cc

  mismatch_limit : (a : ℕ) → IsMismatch cs a → IsPastLimit cs → ⊥
  mismatch_limit a m l =
      elim (cases_lt l.index m.index) [
        | inl less ↦ not_within cs (l.index + 1) m.index (omega (arith, less)) (let h = slice_get_within cs m.index m.placed m.found in omega (arith, h)) m.before l.passes
        | inr above ↦ m.none (consistent_first cs (m.index + 1) (l.index + 1) (omega (arith, above)) l.consistent)
      ]

  mismatch_fine : (a : ℕ) → IsMismatch cs a → IsFine cs → ⊥
  mismatch_fine a m f = m.none (consistent_all cs (m.index + 1) f.consistent)

  limit_fine : IsPastLimit cs → IsFine cs → ⊥
  limit_fine l f = f.within (l.index + 1) (let h = l.here in omega (arith, h)) l.passes

  choice_determined : (i : ℕ) → HasChoice cs i → IsDetermined cs i → ⊥
  choice_determined i c d = c.differ (d c.one c.other c.meets_one c.meets_other)

  one_timing : IsConsistent cs → (i : ℕ) (f g h k : Fraction) → HasTiming cs i f g → HasTiming cs i h k → (f ≡ h) × (g ≡ k)
  one_timing s i f g h k a b =
      let x = a s.0 s.1 in
      let y = b s.0 s.1 in
      (only (pos (s.0.flow i).period) s.0.unit f h s.0.some x.0 y.0, only ((s.0.flow i).start -ℤ pos 0) s.0.unit g k s.0.some x.1 y.1)

-- a clock is whole
pub whole_form : (c x u : ℕ) → x ≡ c * u → IsReducedForm (pos x) (pos u) (over_one c)
whole_form c x u e = record { positive = omega arith; reduced = (one-dvd c, one-dvd 1, λ d p q. q); equal = ap pos (omega (arith, e)) }

pub whole_start : (c u : ℕ) (x : ℤ) → x ≡ pos (c * u) → IsReducedForm (x -ℤ pos 0) (pos u) (over_one c)
whole_start c u x e =
    let whole : x -ℤ pos 0 ≡ pos (c * u) = omega (arith, ints, e) in
    subst (λ (y : ℤ). IsReducedForm y (pos u) (over_one c)) (sym whole) (whole_form c (c * u) u refl)

module _ (p : FlatProgram) (clocks : List Clock) (o : AreOnlyClocks p clocks) where
  given_determined : (i : ℕ) → i < length p.flows → IsDetermined (constraints_of p) i
  given_determined i h s t m n =
      let below : i < length clocks = let e = o.are.count in omega (arith, e, h) in
      let a = o.only s m i below in
      let b = o.only t n i below in
      record {
        period = agree (clock_of clocks i).period s.unit t.unit (s.flow i).period (t.flow i).period a.period b.period;
        start = ap (λ z. z *ℤ pos t.unit) a.start ∙ ap pos (omega arith) ∙ ap (λ z. z *ℤ pos s.unit) (sym b.start);
      }
    where
      agree : (c u v x y : ℕ) → x ≡ c * u → y ≡ c * v → x * v ≡ y * u
      agree c u v x y a b = ap (λ n. n * v) a ∙ omega arith ∙ ap (λ n. n * u) (sym b)

  given_whole : (i : ℕ) (f g : Fraction) → i < length p.flows → HasTiming (constraints_of p) i f g → IsWhole f g
  given_whole i f g h k =
      let below : i < length clocks = let e = o.are.count in omega (arith, e, h) in
      let s = o.fine.consistent in
      let a = o.only s.0 s.1 i below in
      let t = k s.0 s.1 in
      let c : Clock = clock_of clocks i in
      let e : f ≡ over_one c.period = only (pos (s.0.flow i).period) s.0.unit f (over_one c.period) s.0.some t.0 (whole_form c.period (s.0.flow i).period s.0.unit a.period) in
      let d : g ≡ over_one c.start = only ((s.0.flow i).start -ℤ pos 0) s.0.unit g (over_one c.start) s.0.some t.1 (whole_start c.start s.0.unit (s.0.flow i).start a.start) in
      let P : Fraction → Type 0 = λ x. pos 0 ≤ℤ x.num in
      (ap (λ (x : Fraction). x.den) e, ap (λ (x : Fraction). x.den) d, subst P (sym d) (omega (arith, ints)))

frees : (p : FlatProgram) (a b : List ℕ) → IsFree p a → IsFree p b → a ≡ b
frees p a b x y =
    elim (cases_lt x.index y.index) [
      | inl less ↦ absurd (choice_determined (constraints_of p) x.index x.choice (y.lowest x.index less))
      | inr above ↦ elim (cases_lt y.index x.index) [
        | inl less ↦ absurd (choice_determined (constraints_of p) y.index y.choice (x.lowest y.index less))
        | inr other ↦
            let e : x.index ≡ y.index = omega (arith, above, other) in
            let P : ℕ → Type 0 = λ i. slice_get p.flows i ≡ Some x.flow in
            x.is ∙ ap (λ (f : Flow). f.label) (same (sym (subst P e x.found) ∙ y.found)) ∙ sym y.is
      ]
    ]
  where
    same : {u v : Flow} → Some u ≡ Some v → u ≡ v
    same e = cc

free_not_whole : (p : FlatProgram) (a b : List ℕ) (t u : Fraction) → IsFree p a → IsNotWhole p b t u → ⊥
free_not_whole p a b t u x y = choice_determined (constraints_of p) x.index x.choice (y.determined x.index (slice_get_within p.flows x.index x.flow x.found))

free_clocks : (p : FlatProgram) (a : List ℕ) (clocks : List Clock) → IsFree p a → AreOnlyClocks p clocks → ⊥
free_clocks p a clocks x o =
    choice_determined (constraints_of p) x.index x.choice (given_determined p clocks o x.index (slice_get_within p.flows x.index x.flow x.found))

not_wholes : (p : FlatProgram) (a b : List ℕ) (t u v w : Fraction) → IsNotWhole p a t u → IsNotWhole p b v w → (a ≡ b) × (t ≡ v) × (u ≡ w)
not_wholes p a b t u v w x y =
    elim (cases_lt x.index y.index) [
      | inl less ↦ absurd (x.parts (y.lowest x.index t u less x.timing))
      | inr above ↦ elim (cases_lt y.index x.index) [
        | inl less ↦ absurd (y.parts (x.lowest y.index v w less y.timing))
        | inr other ↦
            let e : x.index ≡ y.index = omega (arith, above, other) in
            let P : ℕ → Type 0 = λ i. slice_get p.flows i ≡ Some x.flow in
            let Q : ℕ → Type 0 = λ i. HasTiming (constraints_of p) i t u in
            let k = one_timing (constraints_of p) x.fine.consistent y.index t u v w (subst Q e x.timing) y.timing in
            (x.is ∙ ap (λ (f : Flow). f.label) (same (sym (subst P e x.found) ∙ y.found)) ∙ sym y.is, k.0, k.1)
      ]
    ]
  where
    same : {u v : Flow} → Some u ≡ Some v → u ≡ v
    same e = cc

not_whole_clocks : (p : FlatProgram) (a : List ℕ) (t u : Fraction) (clocks : List Clock) → IsNotWhole p a t u → AreOnlyClocks p clocks → ⊥
not_whole_clocks p a t u clocks x o = x.parts (given_whole p clocks o x.index t u (slice_get_within p.flows x.index x.flow x.found) x.timing)

pub one_outcome : (p : FlatProgram) → IsFlat p → (r s : Result (List Clock) ClockFault) → IsOutcome p r → IsOutcome p s → r ≡ s
one_outcome p flat (Ok a) (Ok b) x y = ap (λ t. Ok t) (only_these p flat b a y x.are)
one_outcome p flat (Ok a) (Err (faults.Mismatch b)) x y = absurd (mismatch_fine (constraints_of p) b y x.fine)
one_outcome p flat (Ok a) (Err (faults.Limit b)) x y = absurd (limit_fine (constraints_of p) y.1 x.fine)
one_outcome p flat (Ok a) (Err (faults.Free b)) x y = absurd (free_clocks p b a y x)
one_outcome p flat (Ok a) (Err (faults.NotWhole b t u)) x y = absurd (not_whole_clocks p b t u a y x)
one_outcome p flat (Err (faults.Mismatch a)) (Ok b) x y = absurd (mismatch_fine (constraints_of p) a x y.fine)
one_outcome p flat (Err (faults.Mismatch a)) (Err (faults.Mismatch b)) x y = ap (λ n. Err (faults.Mismatch n)) (mismatches (constraints_of p) a b x y)
one_outcome p flat (Err (faults.Mismatch a)) (Err (faults.Limit b)) x y = absurd (mismatch_limit (constraints_of p) a x y.1)
one_outcome p flat (Err (faults.Mismatch a)) (Err (faults.Free b)) x y = absurd (mismatch_fine (constraints_of p) a x y.fine)
one_outcome p flat (Err (faults.Mismatch a)) (Err (faults.NotWhole b t u)) x y = absurd (mismatch_fine (constraints_of p) a x y.fine)
one_outcome p flat (Err (faults.Limit a)) (Ok b) x y = absurd (limit_fine (constraints_of p) x.1 y.fine)
one_outcome p flat (Err (faults.Limit a)) (Err (faults.Mismatch b)) x y = absurd (mismatch_limit (constraints_of p) b y x.1)
one_outcome p flat (Err (faults.Limit a)) (Err (faults.Limit b)) x y = ap (λ l. Err (faults.Limit l)) (x.0 ∙ sym y.0)
one_outcome p flat (Err (faults.Limit a)) (Err (faults.Free b)) x y = absurd (limit_fine (constraints_of p) x.1 y.fine)
one_outcome p flat (Err (faults.Limit a)) (Err (faults.NotWhole b t u)) x y = absurd (limit_fine (constraints_of p) x.1 y.fine)
one_outcome p flat (Err (faults.Free a)) (Ok b) x y = absurd (free_clocks p a b x y)
one_outcome p flat (Err (faults.Free a)) (Err (faults.Mismatch b)) x y = absurd (mismatch_fine (constraints_of p) b y x.fine)
one_outcome p flat (Err (faults.Free a)) (Err (faults.Limit b)) x y = absurd (limit_fine (constraints_of p) y.1 x.fine)
one_outcome p flat (Err (faults.Free a)) (Err (faults.Free b)) x y = ap (λ l. Err (faults.Free l)) (frees p a b x y)
one_outcome p flat (Err (faults.Free a)) (Err (faults.NotWhole b t u)) x y = absurd (free_not_whole p a b t u x y)
one_outcome p flat (Err (faults.NotWhole a t u)) (Ok b) x y = absurd (not_whole_clocks p a t u b x y)
one_outcome p flat (Err (faults.NotWhole a t u)) (Err (faults.Mismatch b)) x y = absurd (mismatch_fine (constraints_of p) b y x.fine)
one_outcome p flat (Err (faults.NotWhole a t u)) (Err (faults.Limit b)) x y = absurd (limit_fine (constraints_of p) y.1 x.fine)
one_outcome p flat (Err (faults.NotWhole a t u)) (Err (faults.Free b)) x y = absurd (free_not_whole p b a t u y x)
one_outcome p flat (Err (faults.NotWhole a t u)) (Err (faults.NotWhole b v w)) x y =
    let e = not_wholes p a b t u v w x y in λ i. Err (faults.NotWhole (e.0 i) (e.1 i) (e.2 i))
one_outcome p flat (Err faults.Memory) s x y = absurd x
one_outcome p flat r (Err faults.Memory) x y = absurd y

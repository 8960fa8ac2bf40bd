-- No number past the limit where the flows stand; constraints taken one by one.
use Rattle.std.proofs.Common.{◌≡◌, ◌≤◌, ◌+◌, ◌*◌, ◌++◌, ◌∷◌, inl, inr, ◌==◌, cond, eq-eqb, Bool, true, false, ℕ, ℤ, pos, ◌*ℤ◌, ◌+ℤ◌, ◌-ℤ◌, List, [], length, Option, Some, None, refl, sym, ap, ◌∙◌, subst, arith, append_assoc, length-append}
use borrow.Author.Differences.{up, down, ints}
use Rattle.std.proofs.lemmas.Bool.{cases_lt, ne_eqb}
use Rattle.std.proofs.lemmas.List.{take-append-le, append-nil, take_all}
use Rattle.prl_base.specs.Ratios.{Fraction}
use Rattle.prl_flow.specs.Programs.{FlatProgram}
use Rattle.prl_clock.specs.Vocabulary.{ClockFault, Timing, Standing, Refusal, Assignment, tick, MeetsAll, IsLowest, Passes, period_over, start_over, period, start, Placed, IsFine, Point, IsRatio}
use Rattle.prl_clock.specs.Vocabulary.{IsOver, IsPeriodOver, IsStartOver, IsReached, IsStopped, told, IsSolved, IsRefused, HasClock, standing_at, root_at}
use Rattle.prl_clock.proofs.Adjusting.{adjusted, adjusted_meets, scaled}
use Rattle.prl_clock.proofs.Algebra.{positive, ratio_out, times}
use Rattle.prl_clock.proofs.Graphs.{lowest_root}
use Rattle.prl_clock.proofs.Merging.{decide}
use Rattle.prl_clock.proofs.Terms.{only, small_form, past_small}

module _ (cs : List Placed) (st : List Standing) (solved : IsSolved cs st) where
  pub one : Assignment
  one = solved.standings.consistent.0

  pub one_meets : MeetsAll one cs
  unfolding one
  one_meets = solved.standings.consistent.1

  -- the component of a flow without a clock, by a factor and later
  module _ (x : ℕ) (none : (standing_at st x).clock ≡ None) (p : ℕ) (d : ℤ) (some : 1 ≤ p) where
    abbrev pub inside : ℕ → Bool
    inside z = root_at st z == root_at st x

    none_some : {o : Option Timing} {t : Timing} → o ≡ None → o ≡ Some t → ⊥
    none_some e f = cc

    abbrev pub changed : Assignment
    changed = adjusted one inside p 1 d some (omega arith)

    pub changed_meets : MeetsAll changed cs
    changed_meets =
        adjusted_meets one inside p 1 d some (omega arith) cs one_meets
        (λ a b j. ap (λ t. t == root_at st x) (solved.joined a b j))
        (λ a h.
        elim (decide (root_at st a) (root_at st x)) [
          | inl e ↦ absurd (none_some none (solved.shared a x e (solved.rated a h)).1)
          | inr n ↦ ne_eqb (root_at st a) (root_at st x) n
        ])

    pub changed_flow : changed.flow x ≡ scaled p d (one.flow x)
    changed_flow = chosen (inside x) (one.flow x) (eq-eqb (root_at st x) (root_at st x) refl)
      where
        chosen : (b : Bool) (u : Point) → b ≡ true → cond b (scaled p d u) (scaled 1 (pos 0) u) ≡ scaled p d u
        chosen true u e = refl
        chosen false u e = absurd (cc e)

  lowest_is : (x y : ℕ) → IsLowest cs x y → y ≡ root_at st x
  lowest_is = lowest_root cs (root_at st) solved.joined solved.standings.low solved.standings.led

  over_root : (x y : ℕ) → IsLowest cs x y → IsOver (standing_at st x).over (one.flow x) (one.flow y)
  over_root x y l =
      let P : ℕ → Type 0 = λ z. IsOver (standing_at st x).over (one.flow x) (one.flow z) in subst P (sym (lowest_is x y l)) (solved.standings.over one one_meets x)

  -- the period and the start of a flow without a clock are not told
  period_clock : (x : ℕ) (f : Fraction) → ((s : Assignment) → MeetsAll s cs → IsPeriodOver f (s.flow x) (tick s)) → HasClock st x
  period_clock x f h = of (standing_at st x).clock refl
    where
      twice : (f : Fraction) (p u : ℕ) → 1 ≤ p → 1 ≤ f.den → IsRatio f (pos p) u → IsRatio f (pos (2 * p)) (1 * u) → ⊥
      twice f p u some d a b =
          let k = positive p f.den some d in let m = ratio_out f (pos p) u a in let n = ratio_out f (pos (2 * p)) (1 * u) b in omega (arith, k, m, n)

      of : (o : Option Timing) → (standing_at st x).clock ≡ o → HasClock st x
      of (Some t) e = (t, e)
      of None e =
          let g = h (changed x e 2 (pos 0) (omega arith)) (changed_meets x e 2 (pos 0) (omega arith)) in
          let P : Point → Type 0 = λ u. IsRatio f (pos u.period) (1 * one.unit) in
          absurd (twice f (one.flow x).period one.unit (one.positive x) g.positive (h one one_meets).equal (subst P (changed_flow x e 2 (pos 0) (omega arith)) g.equal))

  start_clock : (x : ℕ) (f : Fraction) → ((s : Assignment) → MeetsAll s cs → IsStartOver f (s.flow x) (tick s)) → HasClock st x
  start_clock x f h = of (standing_at st x).clock refl
    where
      shift : (s : ℤ) → up ((pos 1 *ℤ s +ℤ pos 1) -ℤ pos 0) + down (s -ℤ pos 0) ≡ down ((pos 1 *ℤ s +ℤ pos 1) -ℤ pos 0) + up (s -ℤ pos 0) + 1
      shift s = omega (arith, ints)

      later : (f : Fraction) (s : ℤ) (u : ℕ) → 1 ≤ f.den → IsRatio f (s -ℤ pos 0) u → IsRatio f ((pos 1 *ℤ s +ℤ pos 1) -ℤ pos 0) (1 * u) → ⊥
      later f s u d a b =
          let k = times f.den _ _ (shift s) in omega (arith, k, ratio_out f (s -ℤ pos 0) u a, ratio_out f ((pos 1 *ℤ s +ℤ pos 1) -ℤ pos 0) (1 * u) b)

      of : (o : Option Timing) → (standing_at st x).clock ≡ o → HasClock st x
      of (Some t) e = (t, e)
      of None e =
          let g = h (changed x e 1 (pos 1) (omega arith)) (changed_meets x e 1 (pos 1) (omega arith)) in
          let P : Point → Type 0 = λ u. IsRatio f (u.start -ℤ pos 0) (1 * one.unit) in
          absurd (later f (one.flow x).start one.unit g.positive (h one one_meets).equal (subst P (changed_flow x e 1 (pos 1) (omega arith)) g.equal))

  pub not_past : Passes cs → ⊥
  not_past (period_over x y f lowest h past) =
      let small = solved.standings.small x in
      past_small f (standing_at st x).over.period
      (only (pos (one.flow x).period) (one.flow y).period f (standing_at st x).over.period (one.positive y) (h one one_meets)
      (small_form (pos (one.flow x).period) (one.flow y).period (standing_at st x).over.period small.period (over_root x y lowest).period)) past small.period
  not_past (start_over x y f lowest h past) =
      let small = solved.standings.small x in
      past_small f (standing_at st x).over.start
      (only ((one.flow x).start -ℤ (one.flow y).start) (one.flow y).period f (standing_at st x).over.start (one.positive y) (h one one_meets)
      (small_form ((one.flow x).start -ℤ (one.flow y).start) (one.flow y).period (standing_at st x).over.start small.start (over_root x y lowest).start)) past small.start
  not_past (period x f h past) =
      let c = period_clock x f h in
      let small = solved.standings.small_clock x c.0 c.1 in
      let o = solved.standings.clock one one_meets x c.0 c.1 in
      past_small f c.0.period
      (only (pos (one.flow x).period) one.unit f c.0.period one.some (h one one_meets) (small_form (pos (one.flow x).period) one.unit c.0.period small.period o.period))
      past small.period
  not_past (start x f h past) =
      let c = start_clock x f h in
      let small = solved.standings.small_clock x c.0 c.1 in
      let o = solved.standings.clock one one_meets x c.0 c.1 in
      past_small f c.0.start
      (only ((one.flow x).start -ℤ pos 0) one.unit f c.0.start one.some (h one one_meets) (small_form ((one.flow x).start -ℤ pos 0) one.unit c.0.start small.start o.start))
      past small.start

pub fine_none : (st : List Standing) → IsSolved [] st → IsFine []
fine_none st solved = record {
  consistent = solved.standings.consistent;
  within = λ k _ p. let P : List Placed → Type 0 = λ ds. Passes ds in not_past [] st solved (subst P (take_all k [] (omega arith)) p);
}

pub fine_more : (cs : List Placed) (c : Placed) (st : List Standing) → IsFine cs → IsSolved (cs ++ c ∷ []) st → IsFine (cs ++ c ∷ [])
fine_more cs c st fine solved = record {
  consistent = solved.standings.consistent;
  within = λ k h p.
      let P : List Placed → Type 0 = λ ds. Passes ds in
      elim (cases_lt (length cs) k) [
        | inl above ↦ not_past (cs ++ c ∷ []) st solved (subst P (take_all k (cs ++ c ∷ []) (let l = length-append cs (c ∷ []) in omega (arith, above, l))) p)
        | inr below ↦ fine.within k below (subst P (take-append-le k cs (c ∷ []) below) p)
      ];
}

pub reached_more : (p : FlatProgram) (cs : List Placed) (c : Placed) (st new : List Standing) → IsReached p cs st → length new ≡ length st
    → IsSolved (cs ++ c ∷ []) new → IsReached p (cs ++ c ∷ []) new
reached_more p cs c st new r len solved = record { len = len ∙ r.len; fine = fine_more cs c new r.fine solved; solved = solved }

pub stopped_one : (cs : List Placed) (c : Placed) (r : Refusal) (e : ClockFault) → IsFine cs → IsRefused (cs ++ c ∷ []) r → e ≡ told r c.at → IsStopped cs (c ∷ []) e
stopped_one cs c r e fine refused is = record {
  done = [];
  placed = c;
  rest = [];
  split = refl;
  fine = let P : List Placed → Type 0 = λ ds. IsFine ds in subst P (sym (append-nil cs)) fine;
  refusal = r;
  refused = let P : List Placed → Type 0 = λ ds. IsRefused (ds ++ c ∷ []) r in subst P (sym (append-nil cs)) refused;
  is = is;
}

pub stopped_later : (cs ds es : List Placed) (e : ClockFault) → IsStopped (cs ++ ds) es e → IsStopped cs (ds ++ es) e
stopped_later cs ds es e s = record {
  done = ds ++ s.done;
  placed = s.placed;
  rest = s.rest;
  split = ap (λ t. ds ++ t) s.split ∙ sym (append_assoc ds s.done (s.placed ∷ s.rest));
  fine = let P : List Placed → Type 0 = λ t. IsFine t in subst P (append_assoc cs ds s.done) s.fine;
  refusal = s.refusal;
  refused = let P : List Placed → Type 0 = λ t. IsRefused (t ++ s.placed ∷ []) s.refusal in subst P (append_assoc cs ds s.done) s.refused;
  is = s.is;
}

pub stopped_within : (cs ds es : List Placed) (e : ClockFault) → IsStopped cs ds e → IsStopped cs (ds ++ es) e
stopped_within cs ds es e s = record {
  done = s.done;
  placed = s.placed;
  rest = s.rest ++ es;
  split = ap (λ t. t ++ es) s.split ∙ append_assoc s.done (s.placed ∷ s.rest) es;
  fine = s.fine;
  refusal = s.refusal;
  refused = s.refused;
  is = s.is;
}

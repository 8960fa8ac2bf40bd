-- After all constraints.
use Rattle.prl_base.proofs.Standard.{Bool, true, false, cond, ◌≡◌, ◌≤◌, ◌<◌, ◌+◌, ◌*◌, ◌++◌, ◌∷◌, ℕ, ℤ, pos, negsuc, nat_abs, ◌*ℤ◌, ◌-ℤ◌, ◌≤ℤ◌, List, [], length, take, Some}
use Rattle.prl_base.proofs.Standard.{None, refl, sym, ap, ◌∙◌, subst, arith, append_assoc, length-append, below_more, slice_get, get_or_append_left, take-append_seam}
use borrow.Author.Differences.{up, down, same_in, product_is, ints}
use Rattle.prl_base.specs.Ratios.{Fraction}
use Rattle.prl_base.specs.declared.limits.Limit.{Limit}
use Rattle.prl_base.specs.declared.operators.Clock.{Clock}
use Rattle.prl_flow.specs.Vocabulary.{FlatProgram, IsFlat, clock_of}
use Rattle.prl_clock.specs.Vocabulary.{ClockFault, Standing, Refusal, Timing, Assignment, MeetsAll, IsConsistent, Passes, Placed, constraints_of, IsFine, IsMismatch, IsPastLimit, IsDetermined}
use Rattle.prl_clock.specs.Vocabulary.{HasChoice, IsFree, HasTiming, IsWhole, IsNotWhole, GivesClock, AreOnlyClocks, IsClockFault, clock_limit, Point, IsRatio, IsFirstFree, IsLabelOf, IsWholeClock}
use Rattle.prl_clock.specs.Vocabulary.{IsReached, IsStopped, IsStop, told, IsSolved, IsRefused, HasClock, standing_at}
use Rattle.prl_clock.specs.declared.calculus.ClockFault.TheVariants as faults
use Rattle.prl_clock.specs.declared.steps.Refusal.TheVariants as refusals
use Rattle.prl_clock.proofs.Algebra.{cancel_nat, times, positive, ratio_out}
use Rattle.prl_clock.proofs.Fine.{one, one_meets, changed, changed_meets, changed_flow}
use Rattle.prl_clock.proofs.Reading.{are_clocks}
use Rattle.prl_clock.proofs.Terms.{small_form, only}

found_after : {A : Type 0} (xs : List A) (y : A) (zs : List A) → slice_get (xs ++ y ∷ zs) (length xs) ≡ Some y
found_after [] y zs = refl
found_after (x ∷ xs) y zs = found_after xs y zs

take_next : (xs : List Placed) (y : Placed) (zs : List Placed) → take (length xs + 1) (xs ++ y ∷ zs) ≡ xs ++ y ∷ []
take_next xs y zs =
    let e : length xs + 1 ≡ length (xs ++ y ∷ []) = sym (length-append xs (y ∷ [])) in
    let P : ℕ → Type 0 = λ n. take n (xs ++ y ∷ zs) ≡ xs ++ y ∷ [] in
    subst P (sym e) (ap (λ t. take (length (xs ++ y ∷ [])) t) (sym (append_assoc xs (y ∷ []) zs)) ∙ take-append_seam (xs ++ y ∷ []) zs)

module _ (ds : List Placed) (e : ClockFault) (s : IsStopped [] ds e) where
  before_is : take (length s.done) ds ≡ s.done
  before_is = ap (λ t. take (length s.done) t) s.split ∙ take-append_seam s.done (s.placed ∷ s.rest)

  then_is : take (length s.done + 1) ds ≡ s.done ++ s.placed ∷ []
  then_is = ap (λ t. take (length s.done + 1) t) s.split ∙ take_next s.done s.placed s.rest

  fine_before : IsFine (take (length s.done) ds)
  fine_before = let P : List Placed → Type 0 = λ t. IsFine t in subst P (sym before_is) s.fine

  pub stopped_mismatch : (at : ℕ) → e ≡ faults.Mismatch at → IsMismatch ds at
  stopped_mismatch at is = record {
    index = length s.done;
    placed = s.placed;
    found = let P : List Placed → Type 0 = λ t. slice_get t (length s.done) ≡ Some s.placed in subst P (sym s.split) (found_after s.done s.placed s.rest);
    is = place s.refusal (sym s.is ∙ is);
    before = fine_before;
    none = λ k.
        let P : List Placed → Type 0 = λ t. IsConsistent t in
        refused s.refusal (sym s.is ∙ is) s.refused (subst P then_is k);
  }
    where
      place : (r : Refusal) → told r s.placed.at ≡ faults.Mismatch at → s.placed.at ≡ at
      place refusals.Mismatch h = cc
      place refusals.Limit h = absurd (cc h)
      place refusals.Memory h = absurd (cc h)

      refused : (r : Refusal) → told r s.placed.at ≡ faults.Mismatch at → IsRefused (s.done ++ s.placed ∷ []) r → IsConsistent (s.done ++ s.placed ∷ []) → ⊥
      refused refusals.Mismatch h f = f
      refused refusals.Limit h f = absurd (cc h)
      refused refusals.Memory h f = absurd (cc h)

  pub stopped_limit : (limit : Limit) → e ≡ faults.Limit limit → (limit ≡ clock_limit) × IsPastLimit ds
  stopped_limit limit is =
      let r = refused s.refusal (sym s.is ∙ is) s.refused in (
        r.0,
        record {
          index = length s.done;
          here = let a = ap length s.split in let b = length-append s.done (s.placed ∷ s.rest) in omega (arith, a, b);
          before = fine_before;
          consistent = let P : List Placed → Type 0 = λ t. IsConsistent t in subst P (sym then_is) r.1.0;
          passes = let P : List Placed → Type 0 = λ t. Passes t in subst P (sym then_is) r.1.1;
        },
      )
    where
      refused : (r : Refusal) → told r s.placed.at ≡ faults.Limit limit → IsRefused (s.done ++ s.placed ∷ []) r
          → (limit ≡ clock_limit) × (IsConsistent (s.done ++ s.placed ∷ []) × Passes (s.done ++ s.placed ∷ []))
      refused refusals.Mismatch h f = absurd (cc h)
      refused refusals.Limit h f = (cc, f)
      refused refusals.Memory h f = absurd (cc h)

other_fault : (r : Refusal) (at : ℕ) (label : List ℕ) → told r at ≡ faults.Free label → ⊥
other_fault refusals.Mismatch at label h = cc
other_fault refusals.Limit at label h = cc
other_fault refusals.Memory at label h = cc

another_fault : (r : Refusal) (at : ℕ) (label : List ℕ) (t u : Fraction) → told r at ≡ faults.NotWhole label t u → ⊥
another_fault refusals.Mismatch at label t u h = cc
another_fault refusals.Limit at label t u h = cc
another_fault refusals.Memory at label t u h = cc

pub fault_of_stop : (p : FlatProgram) (e : ClockFault) → IsStop [] (constraints_of p) e → IsClockFault p e
fault_of_stop p faults.Memory s = tt
fault_of_stop p (faults.Mismatch at) s = stopped_mismatch (constraints_of p) (faults.Mismatch at) s at refl
fault_of_stop p (faults.Limit limit) s = stopped_limit (constraints_of p) (faults.Limit limit) s limit refl
fault_of_stop p (faults.Free label) s = absurd (other_fault s.refusal s.placed.at label (sym s.is))
fault_of_stop p (faults.NotWhole label t u) s = absurd (another_fault s.refusal s.placed.at label t u (sym s.is))

-- two numbers of one ratio, each over its unit
one_ratio : (f : Fraction) (x y : ℤ) (u v : ℕ) → 1 ≤ f.den → IsRatio f x u → IsRatio f y v → x *ℤ pos v ≡ y *ℤ pos u
one_ratio f x y u v some a b =
    let e : up x * v + down y * u ≡ down x * v + up y * u =
    cancel_nat f.den (up x * v + down y * u) (down x * v + up y * u) some (omega (arith, times v _ _ (ratio_out f x u a), times u _ _ (ratio_out f y v b))) in
    same_in (x *ℤ pos v) (y *ℤ pos u) (omega (arith, e, product_is x (pos v), product_is y (pos u)))

from_zero : (z : ℤ) → z -ℤ pos 0 ≡ z
from_zero z = omega (arith, ints)

module _ (cs : List Placed) (st : List Standing) (solved : IsSolved cs st) where
  pub determined : (x : ℕ) → HasClock st x → IsDetermined cs x
  determined x c s t m n =
      let small = solved.standings.small_clock x c.0 c.1 in
      let a = solved.standings.clock s m x c.0 c.1 in
      let b = solved.standings.clock t n x c.0 c.1 in
      record {
        period = ap up (one_ratio c.0.period (pos (s.flow x).period) (pos (t.flow x).period) s.unit t.unit small.period.positive a.period b.period);
        start =
            let e = one_ratio c.0.start ((s.flow x).start -ℤ pos 0) ((t.flow x).start -ℤ pos 0) s.unit t.unit small.start.positive a.start b.start in
            ap (λ y. y *ℤ pos t.unit) (sym (from_zero (s.flow x).start)) ∙ e ∙ ap (λ z. z *ℤ pos s.unit) (from_zero (t.flow x).start);
      }

  pub undetermined : (x : ℕ) → (standing_at st x).clock ≡ None → HasChoice cs x
  undetermined x none =
      let other = changed cs st solved x none 2 (pos 0) (omega arith) in
      record {
        one = one cs st solved;
        other = other;
        meets_one = one_meets cs st solved;
        meets_other = changed_meets cs st solved x none 2 (pos 0) (omega arith);
        differ = λ a.
            let P : Point → Type 0 = λ u. ((one cs st solved).flow x).period * other.unit ≡ u.period * (one cs st solved).unit in
            twice ((one cs st solved).flow x).period (one cs st solved).unit ((one cs st solved).positive x) (one cs st solved).some
            (subst P (changed_flow cs st solved x none 2 (pos 0) (omega arith)) a.period);
      }
    where
      twice : (t u : ℕ) → 1 ≤ t → 1 ≤ u → t * (1 * u) ≡ 2 * t * u → ⊥
      twice t u a b e = let k = positive t u a b in omega (arith, k, e)

  pub timing_of : (x : ℕ) (t : Timing) → (standing_at st x).clock ≡ Some t → HasTiming cs x t.period t.start
  timing_of x t is s m =
      let small = solved.standings.small_clock x t is in
      let o = solved.standings.clock s m x t is in
      (small_form (pos (s.flow x).period) s.unit t.period small.period o.period, small_form ((s.flow x).start -ℤ pos 0) s.unit t.start small.start o.start)

  -- it has no other timing
  pub timing_only : (x : ℕ) (t : Timing) → (standing_at st x).clock ≡ Some t → (f g : Fraction) → HasTiming cs x f g → (f ≡ t.period) × (g ≡ t.start)
  timing_only x t is f g h =
      let s = one cs st solved in
      let m = one_meets cs st solved in
      let a = timing_of x t is s m in
      let b = h s m in
      (only (pos (s.flow x).period) s.unit f t.period s.some b.0 a.0, only ((s.flow x).start -ℤ pos 0) s.unit g t.start s.some b.1 a.1)

  pub whole_gives : (x : ℕ) (t : Timing) (c : Clock) → (standing_at st x).clock ≡ Some t → IsWhole t.period t.start → c.period ≡ nat_abs t.period.num → c.start ≡ nat_abs t.start.num
      → (s : Assignment) → MeetsAll s cs → GivesClock s x c
  whole_gives x t c is w p q s m =
      let o = solved.standings.clock s m x t is in
      record {
        period = gives_period t.period (s.flow x).period s.unit c.period w.0 p (s.positive x) o.period;
        start = gives_start t.start (s.flow x).start s.unit c.start w.1 w.2 q o.start;
      }
    where
      gives_period : (f : Fraction) (x u c : ℕ) → f.den ≡ 1 → c ≡ nat_abs f.num → 1 ≤ x → IsRatio f (pos x) u → x ≡ c * u
      gives_period f x u c d e some h =
          let k : x * f.den ≡ x * 1 = ap (λ n. x * n) d in
          size f.num c u x e some (omega (arith, ratio_out f (pos x) u h, k))
        where
          size : (z : ℤ) (c u x : ℕ) → c ≡ nat_abs z → 1 ≤ x → up z * u ≡ down z * u + x → x ≡ c * u
          size (pos n) c u x e some h = omega (arith, h, times u _ _ e)
          size (negsuc n) c u x e some h = absurd (omega (arith, h, some))

      gives_start : (f : Fraction) (x : ℤ) (u c : ℕ) → f.den ≡ 1 → pos 0 ≤ℤ f.num → c ≡ nat_abs f.num → IsRatio f (x -ℤ pos 0) u → x ≡ pos (c * u)
      gives_start f x u c d low e h =
          let P : ℤ → Type 0 = λ y. IsRatio f y u in
          let k = ap (λ n. up x * n) d in
          let l = ap (λ n. down x * n) d in
          same_in x (pos (c * u)) (size f.num c u x e low (omega (arith, ratio_out f x u (subst P (from_zero x) h), k, l)))
        where
          size : (z : ℤ) (c u : ℕ) (x : ℤ) → c ≡ nat_abs z → pos 0 ≤ℤ z → up z * u + down x ≡ down z * u + up x → up x + 0 ≡ c * u + down x
          size (pos n) c u x e low h = omega (arith, h, times u _ _ e)
          size (negsuc n) c u x e low h = absurd (omega (arith, ints, low))

-- the clocks of the program
pub only_clocks : (p : FlatProgram) (flat : IsFlat p) (st : List Standing) (clocks : List Clock) → IsReached p (constraints_of p) st → length clocks ≡ length p.flows
    → ((i : ℕ) → i < length clocks → (s : Assignment) → MeetsAll s (constraints_of p) → GivesClock s i (clock_of clocks i)) → AreOnlyClocks p clocks
only_clocks p flat st clocks r count gives =
    let s = r.solved.standings.consistent in
    record {
      fine = r.fine;
      are = are_clocks p flat clocks count s.0 (λ i h. gives i h s.0 s.1) s.1;
      only = λ t m i h. gives i h t m;
    }

-- the lowest flow without a clock
pub free_is : (p : FlatProgram) (st : List Standing) → IsReached p (constraints_of p) st → (i : ℕ) (label : List ℕ) → IsFirstFree st i → IsLabelOf p i label → IsFree p label
free_is p st r i label f l = record {
  fine = r.fine;
  index = i;
  flow = l.flow;
  found = l.found;
  is = l.is;
  choice = undetermined (constraints_of p) st r.solved i f.free;
  lowest = λ x h. determined (constraints_of p) st r.solved x (f.earlier x h);
}

-- the first whose clock is not whole
pub not_whole_is : (p : FlatProgram) (st : List Standing) → IsReached p (constraints_of p) st → ((x : ℕ) → x < length st → HasClock st x) → (i : ℕ) (label : List ℕ) (t : Timing)
    → (standing_at st i).clock ≡ Some t → (IsWhole t.period t.start → ⊥) → ((x : ℕ) → x < i → (u : Timing) × ((standing_at st x).clock ≡ Some u) × IsWhole u.period u.start)
    → IsLabelOf p i label → IsNotWhole p label t.period t.start
not_whole_is p st r timed i label t is never earlier l = record {
  fine = r.fine;
  determined = λ x h. let e = r.len in determined (constraints_of p) st r.solved x (timed x (omega (arith, h, e)));
  index = i;
  flow = l.flow;
  found = l.found;
  is = l.is;
  timing = timing_of (constraints_of p) st r.solved i t is;
  parts = never;
  lowest = λ x f g h k.
      let u = earlier x h in
      let e = timing_only (constraints_of p) st r.solved x u.0 u.1 f g k in
      let P : Fraction → Type 0 = λ a. IsWhole a g in
      let Q : Fraction → Type 0 = λ b. IsWhole u.0.period b in subst P (sym e.0) (subst Q (sym e.1) u.2);
}

pub whole_are : (p : FlatProgram) (flat : IsFlat p) (st : List Standing) (clocks : List Clock) → IsReached p (constraints_of p) st → length clocks ≡ length st
    → ((x : ℕ) → x < length st → (t : Timing) × ((standing_at st x).clock ≡ Some t) × IsWholeClock t (clock_of clocks x)) → AreOnlyClocks p clocks
whole_are p flat st clocks r len whole =
    only_clocks p flat st clocks r (len ∙ r.len)
    (λ i h s m.
    let w = whole i (omega (arith, h, len)) in
    whole_gives (constraints_of p) st r.solved i w.0 (clock_of clocks i) w.1 w.2.whole w.2.period w.2.start s m)

pub clock_pushed : (clocks : List Clock) (c : Clock) (st : List Standing) (i : ℕ) (t : Timing) → length clocks ≡ i → (standing_at st i).clock ≡ Some t → IsWholeClock t c
    → ((x : ℕ) → x < i → (u : Timing) × ((standing_at st x).clock ≡ Some u) × IsWholeClock u (clock_of clocks x))
    → ((x : ℕ) → x < i + 1 → (u : Timing) × ((standing_at st x).clock ≡ Some u) × IsWholeClock u (clock_of (clocks ++ c ∷ []) x))
clock_pushed clocks c st i t len is w before =
    below_more (λ x. (u : Timing) × ((standing_at st x).clock ≡ Some u) × IsWholeClock u (clock_of (clocks ++ c ∷ []) x)) i
    (λ x h.
    let b = before x h in
    let e : clock_of (clocks ++ c ∷ []) x ≡ clock_of clocks x = get_or_append_left clocks (c ∷ []) (record { period = 1; start = 0 }) x (omega (arith, h, len)) in
    let P : Clock → Type 0 = λ k. IsWholeClock b.0 k in (b.0, b.1, subst P (sym e) b.2))
    (let e : clock_of (clocks ++ c ∷ []) i ≡ c = let P : ℕ → Type 0 = λ n. clock_of (clocks ++ c ∷ []) n ≡ c in subst P len (last clocks) in
    let P : Clock → Type 0 = λ k. IsWholeClock t k in (t, is, subst P (sym e) w))
  where
    last : (xs : List Clock) → clock_of (xs ++ c ∷ []) (length xs) ≡ c
    last [] = refl
    last (x ∷ xs) = last xs

pub if_true : {A : Type 0} (b : Bool) (x y z : A) → b ≡ true → x ≡ cond b y z → x ≡ y
if_true true x y z e h = h
if_true false x y z e h = absurd (cc e)

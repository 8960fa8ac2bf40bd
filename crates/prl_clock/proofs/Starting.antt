-- Before the first constraint.
use Rattle.std.proofs.Common.{◌≡◌, ℕ, ℤ, pos, ◌-ℤ◌, List, [], Option, Some, None, sym, ap, subst, arith}
use borrow.Author.Differences.{ints, up, down}
use Rattle.prl_clock.specs.Vocabulary.{Timing, Standing, Assignment, Connected, here, same_clock, Point, IsOver, IsSmallTiming, IsSolved, alone, standing_at, root_at}
use Rattle.prl_clock.proofs.Algebra.{ratio_in}
use Rattle.prl_clock.proofs.Rated.{whole_small}

pub same_over : (x : Point) → IsOver same_clock x x
same_over x = record {
  period = ap pos (omega arith);
  start = ratio_in (same_clock).start (x.start -ℤ x.start) x.period (omega (arith, nothing x.start));
}
  where
    nothing : (s : ℤ) → up (s -ℤ s) ≡ down (s -ℤ s)
    nothing s = omega (arith, ints)

plain : Assignment
plain = record { unit = 1; flow = λ _. record { period = 1; start = pos 0 }; some = omega arith; positive = λ _. omega arith }

pub alone_solved : (st : List Standing) → ((x : ℕ) → standing_at st x ≡ alone x) → IsSolved [] st
alone_solved st e =
    let root : (x : ℕ) → root_at st x ≡ x = λ x. ap (λ (s : Standing). s.root) (e x) in
    let none : (x : ℕ) (t : Timing) → (standing_at st x).clock ≡ Some t → ⊥ = λ x t is. none_some (ap (λ (s : Standing). s.clock) (e x)) is in
    record {
      standings = record {
        consistent = (plain, tt);
        over = λ s m x. let P : Standing → Type 0 = λ t. IsOver t.over (s.flow x) (s.flow t.root) in subst P (sym (e x)) (same_over (s.flow x));
        clock = λ s m x t is. absurd (none x t is);
        small = λ x.
            let P : Standing → Type 0 = λ t. IsSmallTiming t.over in
            subst P (sym (e x)) (record { period = whole_small 1 (omega arith); start = whole_small 0 (omega arith) });
        small_clock = λ x t is. absurd (none x t is);
        low = λ x. let r = root x in omega (arith, r);
        led = λ x. let P : ℕ → Type 0 = λ y. Connected [] x y in subst P (sym (root x)) (here x);
      };
      joined = λ x y j. absurd j;
      rated = λ x h. absurd h;
      shared = λ x y _ c. absurd (none x c.0 c.1);
    }
  where
    none_some : {o : Option Timing} {t : Timing} → o ≡ None → o ≡ Some t → ⊥
    none_some a b = cc

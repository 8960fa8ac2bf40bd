-- Whole clocks that meet constraints, and the clocks of a flat program's solutions.
use Rattle.std.proofs.Common.{◌≡◌, ◌≤◌, ◌+◌, ◌*◌, ℕ, ℤ, pos, negsuc, nat_abs, ◌-ℤ◌, ◌≤ℤ◌, refl, ap, arith}
use borrow.Author.Differences.{up, down, product_is, ints}
use Rattle.prl_base.specs.Vocabulary.{IsOperatorFor, IsResultClock, Fraction}
use Rattle.prl_base.specs.declared.operators.Clock.{Clock}
use Rattle.prl_base.specs.declared.operators.Op.{Op}
use Rattle.prl_base.specs.declared.values.Ty.{Ty}
use Rattle.prl_base.specs.declared.operators.Op.TheVariants as operators
use Rattle.prl_ast.specs.InRange.{IsRate}
use Rattle.prl_ast.specs.declared.declarations.Rate.{Rate}
use Rattle.prl_flow.specs.Flows.{IsClockOf}
use Rattle.prl_clock.specs.Vocabulary.{Timing, same_clock, timing_of_operator, timing_of_rate, Point, IsRatio, IsOver}
use Rattle.prl_clock.proofs.Algebra.{cancel_nat, times, ratio_in, ratio_out}

-- a clock in parts of a tick
abbrev pub point : Clock → ℕ → Point
point c u = record { period = c.period * u; start = pos (c.start * u) }

abbrev pub plain : Clock → Point
plain c = record { period = c.period; start = pos c.start }

-- a tick
abbrev pub ticks : Clock
ticks = record { period = 1; start = 0 }

difference : (x y u : ℕ) → up (pos (x * u) -ℤ pos (y * u)) + u * down (pos x -ℤ pos y) ≡ down (pos (x * u) -ℤ pos (y * u)) + u * up (pos x -ℤ pos y)
difference x y u = omega (arith, apart (x * u) (y * u), times u _ _ (apart x y))
  where
    apart : (m n : ℕ) → up (pos m -ℤ pos n) + n ≡ down (pos m -ℤ pos n) + m
    apart m n = omega (arith, ints)

-- without the parts
pub descaled : (q : Timing) (y x : Clock) (u : ℕ) → 1 ≤ u → IsOver q (point y u) (point x u) → IsOver q (plain y) (plain x)
descaled q y x u some o = record {
  period =
      let e = ratio_out q.period (pos (y.period * u)) (x.period * u) o.period in
      ratio_in q.period (pos y.period) x.period
      (cancel_nat u (up q.period.num * x.period + 0 * q.period.den) (down q.period.num * x.period + y.period * q.period.den) some (omega (arith, e)));
  start =
      ratio_in q.start (pos y.start -ℤ pos x.start) x.period
      (cancel_nat u (up q.start.num * x.period + down (pos y.start -ℤ pos x.start) * q.start.den) (down q.start.num * x.period + up (pos y.start -ℤ pos x.start) * q.start.den) some
      (omega (arith, ratio_out q.start (pos (y.start * u) -ℤ pos (x.start * u)) (x.period * u) o.start, times q.start.den _ _ (difference y.start x.start u))));
}

natural : (z : ℤ) → pos 0 ≤ℤ z → (up z ≡ nat_abs z) × (down z ≡ 0)
natural (pos n) h = (refl, refl)
natural (negsuc n) h = absurd (omega (arith, ints, h))

apart : (m n : ℕ) → up (pos m -ℤ pos n) + n ≡ down (pos m -ℤ pos n) + m
apart m n = omega (arith, ints)

pub equal_clocks : (x y : Clock) → x.period ≡ y.period → x.start ≡ y.start → x ≡ y
equal_clocks x y e f = λ i. record { period = e i; start = f i }

-- by parts of what a timing says of plain clocks
periods : (f : Fraction) (y x : ℕ) → IsRatio f (pos y) x → up f.num * x ≡ down f.num * x + y * f.den
periods f y x e = let r = ratio_out f (pos y) x e in omega (arith, r)

periods_in : (f : Fraction) (y x : ℕ) → up f.num * x ≡ down f.num * x + y * f.den → IsRatio f (pos y) x
periods_in f y x e = ratio_in f (pos y) x (omega (arith, e))

starts : (f : Fraction) (s t x : ℕ) → IsRatio f (pos s -ℤ pos t) x → up f.num * x + t * f.den ≡ down f.num * x + s * f.den
starts f s t x e = let r = ratio_out f (pos s -ℤ pos t) x e in omega (arith, r, times f.den _ _ (apart s t))

starts_in : (f : Fraction) (s t x : ℕ) → up f.num * x + t * f.den ≡ down f.num * x + s * f.den → IsRatio f (pos s -ℤ pos t) x
starts_in f s t x e = ratio_in f (pos s -ℤ pos t) x (omega (arith, e, times f.den _ _ (apart s t)))

-- both parts of what it says
abbrev Told : Timing → Clock → Clock → Type 0
Told q x y =
    (up q.period.num * x.period ≡ down q.period.num * x.period + y.period * q.period.den) × (up q.start.num * x.period + x.start * q.start.den ≡ down q.start.num * x.period + y.start * q.start.den)

told : (q : Timing) (x y : Clock) → IsOver q (plain y) (plain x) → Told q x y
told q x y o = (periods q.period y.period x.period o.period, starts q.start y.start x.start x.period o.start)

told_over : (q : Timing) (x y : Clock) → Told q x y → IsOver q (plain y) (plain x)
told_over q x y t = record { period = periods_in q.period y.period x.period t.0; start = starts_in q.start y.start x.start x.period t.1 }

pub same_clocks : (y x : Clock) → IsOver same_clock (plain y) (plain x) → y ≡ x
same_clocks y x o = (let t = told same_clock x y o in equal_clocks y x (omega (arith, t.0)) (omega (arith, t.1)))

pub result_clock : (op : Op) (x y : Clock) (ty : Ty) → IsOperatorFor ty op → IsOver (timing_of_operator op) (plain y) (plain x) → IsResultClock op x y
result_clock (operators.Fby c) x y ty fits o = (let t = told (timing_of_operator (operators.Fby c)) x y o in (omega (arith, t.0), omega (arith, t.1)))
result_clock (operators.Cons c) x y ty fits o = (let t = told (timing_of_operator (operators.Cons c)) x y o in (omega (arith, t.0), omega (arith, t.1)))
result_clock operators.Tail x y ty fits o = (let t = told (timing_of_operator operators.Tail) x y o in (omega (arith, t.0), omega (arith, t.1)))
result_clock (operators.Up k) x y ty fits o = (let t = told (timing_of_operator (operators.Up k)) x y o in (omega (arith, t.0), omega (arith, t.1)))
result_clock (operators.Down k) x y ty fits o = (let t = told (timing_of_operator (operators.Down k)) x y o in (omega (arith, t.0), omega (arith, t.1)))
result_clock (operators.Shift q) x y ty fits o =
    let n = natural q.num fits.1 in
    let t = told (timing_of_operator (operators.Shift q)) x y o in
    (omega (arith, t.0), omega (arith, t.1, times x.period _ _ n.0, times x.period _ _ n.1))

pub over_same : (y x : Clock) → y ≡ x → IsOver same_clock (plain y) (plain x)
over_same y x e = told_over same_clock x y (omega (arith, ap (λ (c : Clock). c.period) e), omega (arith, ap (λ (c : Clock). c.start) e))

pub over_result : (op : Op) (x y : Clock) (ty : Ty) → IsOperatorFor ty op → IsResultClock op x y → IsOver (timing_of_operator op) (plain y) (plain x)
over_result (operators.Fby c) x y ty fits r = told_over (timing_of_operator (operators.Fby c)) x y (omega (arith, r.0), omega (arith, r.1))
over_result (operators.Cons c) x y ty fits r = told_over (timing_of_operator (operators.Cons c)) x y (omega (arith, r.0), omega (arith, r.1))
over_result operators.Tail x y ty fits r = told_over (timing_of_operator operators.Tail) x y (omega (arith, r.0), omega (arith, r.1))
over_result (operators.Up k) x y ty fits r = told_over (timing_of_operator (operators.Up k)) x y (omega (arith, r.0), omega (arith, r.1))
over_result (operators.Down k) x y ty fits r = told_over (timing_of_operator (operators.Down k)) x y (omega (arith, r.0), omega (arith, r.1))
over_result (operators.Shift q) x y ty fits r =
    let n = natural q.num fits.1 in
    told_over (timing_of_operator (operators.Shift q)) x y (omega (arith, r.0), omega (arith, r.1, times x.period _ _ n.0, times x.period _ _ n.1))

pub clock_of_rate : (r : Rate) (c : Clock) → IsRate r → IsOver (timing_of_rate r) (plain c) (plain ticks) → IsClockOf r c
clock_of_rate r c is o =
    let n = natural r.phase.num is.1.1 in
    let m = product_is (pos r.period) r.phase.num in
    (omega (arith, periods (timing_of_rate r).period c.period 1 o.period), omega (arith, starts (timing_of_rate r).start c.start 0 1 o.start, m.0, m.1, times r.period _ _ n.0, times r.period _ _ n.1))

pub over_rate : (r : Rate) (c : Clock) → IsRate r → IsClockOf r c → IsOver (timing_of_rate r) (plain c) (plain ticks)
over_rate r c is k =
    let n = natural r.phase.num is.1.1 in
    let m = product_is (pos r.period) r.phase.num in
    told_over (timing_of_rate r) ticks c (omega (arith, k.0), omega (arith, k.1, m.0, m.1, times r.period _ _ n.0, times r.period _ _ n.1))

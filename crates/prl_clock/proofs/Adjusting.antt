-- Assignments in which some flows are changed together: all of a component, which stays as it is but for a factor and an offset.
use Rattle.std.proofs.Common.{◌≡◌, ◌≤◌, ◌+◌, ◌*◌, inl, inr, ℕ, ℤ, pos, ◌*ℤ◌, ◌+ℤ◌, ◌-ℤ◌, Bool, true, false, cond, List, [], ◌∷◌, refl, ap, ◌∙◌, subst, arith}
use borrow.Author.Differences.{up, down, product_is, ints}
use Rattle.prl_clock.specs.Vocabulary.{Timing, Assignment, tick, Meets, MeetsAll, IsJoin, Joins, Constraint, rated, related, Placed, Point, IsOver, IsRated, HasRate, IsLink}
use Rattle.prl_clock.proofs.Algebra.{times, positive, ratio_in, ratio_out}

abbrev pub scaled : ℕ → ℤ → Point → Point
scaled k d x = record { period = k * x.period; start = pos k *ℤ x.start +ℤ d }

distance : (k : ℕ) (d x y : ℤ)
    → up ((pos k *ℤ x +ℤ d) -ℤ (pos k *ℤ y +ℤ d)) + k * down (x -ℤ y) ≡ down ((pos k *ℤ x +ℤ d) -ℤ (pos k *ℤ y +ℤ d)) + k * up (x -ℤ y)
distance k d x y =
    let a : up ((pos k *ℤ x +ℤ d) -ℤ (pos k *ℤ y +ℤ d)) + (down (pos k *ℤ x) + up (pos k *ℤ y))
    ≡ down ((pos k *ℤ x +ℤ d) -ℤ (pos k *ℤ y +ℤ d)) + (up (pos k *ℤ x) + down (pos k *ℤ y)) = apart (pos k *ℤ x) (pos k *ℤ y) d in
    let b : up (x -ℤ y) + (down x + up y) ≡ down (x -ℤ y) + (up x + down y) = omega (arith, ints) in
    omega (arith, a, times k _ _ b, product_is (pos k) x, product_is (pos k) y)
  where
    apart : (p q d : ℤ) → up ((p +ℤ d) -ℤ (q +ℤ d)) + (down p + up q) ≡ down ((p +ℤ d) -ℤ (q +ℤ d)) + (up p + down q)
    apart p q d = omega (arith, ints)

pub scaled_over : (q : Timing) (k : ℕ) (d : ℤ) (x y : Point) → IsOver q x y → IsOver q (scaled k d x) (scaled k d y)
scaled_over q k d x y o = record {
  period = ratio_in q.period (pos (k * x.period)) (k * y.period) (omega (arith, times k _ _ (ratio_out q.period (pos x.period) y.period o.period)));
  start =
      ratio_in q.start ((pos k *ℤ x.start +ℤ d) -ℤ (pos k *ℤ y.start +ℤ d)) (k * y.period)
      (omega (arith, times k _ _ (ratio_out q.start (x.start -ℤ y.start) y.period o.start), times q.start.den _ _ (distance k d x.start y.start)));
}

pub adjusted_positive : (b : Bool) (p q : ℕ) (d : ℤ) → 1 ≤ p → 1 ≤ q → (x : Point) → 1 ≤ x.period → 1 ≤ (cond b (scaled p d x) (scaled q (pos 0) x)).period
adjusted_positive true p q d some_p some_q x some = positive p x.period some_p some
adjusted_positive false p q d some_p some_q x some = positive q x.period some_q some

-- the flows inside by one factor and an offset, all else by another factor
abbrev pub adjusted : Assignment → (ℕ → Bool) → (p q : ℕ) → ℤ → 1 ≤ p → 1 ≤ q → Assignment
adjusted s inside p q d some_p some_q = record {
  unit = q * s.unit;
  flow = λ i. cond (inside i) (scaled p d (s.flow i)) (scaled q (pos 0) (s.flow i));
  some = positive q s.unit some_q s.some;
  positive = λ i. adjusted_positive (inside i) p q d some_p some_q (s.flow i) (s.positive i);
}

both_over : (a b : Bool) (q : Timing) (m n : ℕ) (d : ℤ) (x y : Point) → a ≡ b → IsOver q x y
    → IsOver q (cond a (scaled m d x) (scaled n (pos 0) x)) (cond b (scaled m d y) (scaled n (pos 0) y))
both_over true true q m n d x y e o = scaled_over q m d x y o
both_over false false q m n d x y e o = scaled_over q n (pos 0) x y o
both_over true false q m n d x y e o = absurd (cc e)
both_over false true q m n d x y e o = absurd (cc e)

-- a tick, by a factor
pub tick_scaled : (k : ℕ) (s : Assignment) → scaled k (pos 0) (tick s) ≡ record { period = k * s.unit; start = pos 0 }
tick_scaled k s = let z : k * 0 + 0 ≡ 0 = omega arith in ap (λ (n : ℕ). record { period = k * s.unit; start = pos n }) z

tick_over : (a : Bool) (q : Timing) (m n : ℕ) (d : ℤ) (x : Point) (s : Assignment) → a ≡ false → IsOver q x (tick s)
    → IsOver q (cond a (scaled m d x) (scaled n (pos 0) x)) (record { period = n * s.unit; start = pos 0 })
tick_over true q m n d x s e o = absurd (cc e)
tick_over false q m n d x s e o =
    let P : Point → Type 0 = λ y. IsOver q (scaled n (pos 0) x) y in subst P (tick_scaled n s) (scaled_over q n (pos 0) x (tick s) o)

module _ (s : Assignment) (inside : ℕ → Bool) (p q : ℕ) (d : ℤ) (some_p : 1 ≤ p) (some_q : 1 ≤ q) where
  one_meets : (c : Constraint) → Meets s c → ((x y : ℕ) → IsJoin c x y → inside x ≡ inside y) → ((x : ℕ) → IsRated c x → inside x ≡ false)
      → Meets (adjusted s inside p q d some_p some_q) c
  one_meets (rated x t) m joined out = tick_over (inside x) t p q d (s.flow x) s (out x refl) m
  one_meets (related x y t) m joined out = both_over (inside x) (inside y) t p q d (s.flow x) (s.flow y) (joined x y (refl, refl)) m

  pub adjusted_meets : (cs : List Placed) → MeetsAll s cs → ((x y : ℕ) → Joins cs x y → inside x ≡ inside y) → ((x : ℕ) → HasRate cs x → inside x ≡ false)
      → MeetsAll (adjusted s inside p q d some_p some_q) cs
  adjusted_meets [] m joined out = tt
  adjusted_meets (c ∷ cs) m joined out =
      (one_meets c.constraint m.0 (λ x y j. joined x y (inl j)) (λ x j. out x (inl j)), adjusted_meets cs m.1 (λ x y j. joined x y (inr j)) (λ x j. out x (inr j)))

-- factors and an offset by which a first point comes over a second as it should
pub record IsBridge (q : Timing) (x y : Point) : Type 0 where
  pub first : ℕ
  pub second : ℕ
  pub offset : ℤ
  pub some_first : 1 ≤ first
  pub some_second : 1 ≤ second
  pub over : IsOver q (scaled first offset x) (scaled second (pos 0) y)

-- the same where the second point is changed by the offset
pub record IsBridgeBack (q : Timing) (x y : Point) : Type 0 where
  pub first : ℕ
  pub second : ℕ
  pub offset : ℤ
  pub some_first : 1 ≤ first
  pub some_second : 1 ≤ second
  pub over : IsOver q (scaled first (pos 0) x) (scaled second offset y)

left_over : (a b m : ℤ) → up ((a +ℤ ((b -ℤ a) +ℤ m)) -ℤ (b +ℤ pos 0)) + down m ≡ down ((a +ℤ ((b -ℤ a) +ℤ m)) -ℤ (b +ℤ pos 0)) + up m
left_over a b m = omega (arith, ints)

left_back : (a b m : ℤ) → up ((b +ℤ pos 0) -ℤ (a +ℤ ((b -ℤ a) -ℤ m))) + down m ≡ down ((b +ℤ pos 0) -ℤ (a +ℤ ((b -ℤ a) -ℤ m))) + up m
left_back a b m = omega (arith, ints)

module _ (q : Timing) (link : IsLink q) (x y : Point) (sx : 1 ≤ x.period) (sy : 1 ≤ y.period) where
  -- the factors of the two points, the starts that they give, and how far these are to be apart
  abbrev first : ℕ
  first = link.num * y.period * q.start.den

  abbrev second : ℕ
  second = q.period.den * x.period * q.start.den

  abbrev one : ℤ
  one = pos first *ℤ x.start

  abbrev other : ℤ
  other = pos second *ℤ y.start

  abbrev apart : ℤ
  apart = q.start.num *ℤ pos (q.period.den * x.period * y.period)

  some_first : 1 ≤ first
  some_first = positive (link.num * y.period) q.start.den (positive link.num y.period link.some sy) link.parts.start

  some_second : 1 ≤ second
  some_second = positive (q.period.den * x.period) q.start.den (positive q.period.den x.period link.parts.period sx) link.parts.start

  over_by : (l r : ℤ) → up ((one +ℤ l) -ℤ (other +ℤ r)) + down apart ≡ down ((one +ℤ l) -ℤ (other +ℤ r)) + up apart → IsOver q (scaled first l x) (scaled second r y)
  over_by l r e =
      let E : ℕ = q.start.den in
      let product = product_is q.start.num (pos (q.period.den * x.period * y.period)) in
      record {
        period = ap (λ n. n *ℤ pos (second * y.period)) link.is ∙ ap pos (omega arith);
        start = ratio_in q.start ((one +ℤ l) -ℤ (other +ℤ r)) (second * y.period) (omega (arith, times E _ _ e, times E _ _ product.0, times E _ _ product.1));
      }

  pub bridge : IsBridge q x y
  bridge =
      let d : ℤ = (other -ℤ one) +ℤ apart in
      record { first = first; second = second; offset = d; some_first = some_first; some_second = some_second; over = over_by d (pos 0) (left_over one other apart) }

  pub bridge_back : IsBridgeBack q x y
  bridge_back =
      let d : ℤ = (one -ℤ other) -ℤ apart in
      record { first = first; second = second; offset = d; some_first = some_first; some_second = some_second; over = over_by (pos 0) d (left_back other one apart) }

-- The arithmetic of timings over one another.
use Rattle.prl_base.proofs.Standard.{◌≡◌, ◌≤◌, ◌+◌, ◌*◌, ℕ, ℤ, pos, negsuc, ◌*ℤ◌, ◌+ℤ◌, ◌-ℤ◌, refl, zero, suc, sym, ◌∙◌, ap, arith, eq_of_mul-eq-mul_right, mul-pos, mul_comm, *ℤ_comm}
use borrow.Author.Differences.{up, down, same_in, product_is, sum_is_lem, ints}
use Rattle.prl_base.specs.Ratios.{Fraction}
use Rattle.prl_clock.specs.Vocabulary.{Timing, Point, IsRatio, IsOver, HasParts, IsProduct, IsSum, IsComposed}

pub cancel_nat : (k a b : ℕ) → 1 ≤ k → a * k ≡ b * k → a ≡ b
cancel_nat k a b some e = eq_of_mul-eq-mul_right k (omega arith) a b e

pub positive : (a b : ℕ) → 1 ≤ a → 1 ≤ b → 1 ≤ a * b
positive a b h k = mul-pos {m = a} {n = b} (omega arith) (omega arith)

pub times : (k a b : ℕ) → a ≡ b → a * k ≡ b * k
times k a b e = ap (λ t. t * k) e

-- quotients and products of natural numbers
module _ (a F n G c H x y z : ℕ) where
  nat_product_of : 1 ≤ F → 1 ≤ G → a * y ≡ x * F → n * z ≡ y * G → c * (F * G) ≡ a * n * H → c * z ≡ x * H
  nat_product_of f g p q m =
      cancel_nat (F * G) (c * z) (x * H) (positive F G f g)
      (omega (arith, times z (c * (F * G)) (a * n * H) m, times (a * H) (n * z) (y * G) q, times (G * H) (a * y) (x * F) p))

  nat_product_left : 1 ≤ G → 1 ≤ H → n * z ≡ y * G → c * z ≡ x * H → c * (F * G) ≡ a * n * H → a * y ≡ x * F
  nat_product_left g h q r m =
      cancel_nat (G * H) (a * y) (x * F) (positive G H g h)
      (omega (arith, times z (c * (F * G)) (a * n * H) m, times (a * H) (n * z) (y * G) q, times (F * G) (c * z) (x * H) r))

  nat_product_right : 1 ≤ a → 1 ≤ H → a * y ≡ x * F → c * z ≡ x * H → c * (F * G) ≡ a * n * H → n * z ≡ y * G
  nat_product_right s h p r m =
      cancel_nat (a * H) (n * z) (y * G) (positive a H s h)
      (omega (arith, times z (c * (F * G)) (a * n * H) m, times (G * H) (a * y) (x * F) p, times (F * G) (c * z) (x * H) r))

  nat_product_is : 1 ≤ z → a * y ≡ x * F → n * z ≡ y * G → c * z ≡ x * H → c * (F * G) ≡ a * n * H
  nat_product_is s p q r =
      cancel_nat z (c * (F * G)) (a * n * H) s
      (omega (arith, times (a * H) (n * z) (y * G) q, times (G * H) (a * y) (x * F) p, times (F * G) (c * z) (x * H) r))

-- the same of sums e + f g, where each signed number is a difference of two natural ones
abbrev pub Ratio : ℕ → ℕ → ℕ → ℕ → ℕ → ℕ → Type 0
Ratio u d D xu xd z = u * z + xd * D ≡ d * z + xu * D

abbrev pub Sum : ℕ → ℕ → ℕ → ℕ → ℕ → ℕ → ℕ → ℕ → ℕ → ℕ → ℕ → Type 0
Sum eu ed E fu fd F n G hu hd H = hu * (E * F * G) + (ed * (F * G) + fd * n * E) * H ≡ hd * (E * F * G) + (eu * (F * G) + fu * n * E) * H

module _ (eu ed E fu fd F n G hu hd H xu xd wu wd y z : ℕ) where
  nat_sum_of : 1 ≤ E → 1 ≤ F → 1 ≤ G → Ratio eu ed E xu xd z → Ratio fu fd F wu wd y → n * z ≡ y * G → Sum eu ed E fu fd F n G hu hd H
      → Ratio hu hd H (wu + xu) (wd + xd) z
  nat_sum_of e f g p q r m =
      cancel_nat (E * F * G) (hu * z + (wd + xd) * H) (hd * z + (wu + xu) * H) (positive (E * F) G (positive E F e f) g)
      (omega (arith, times z _ _ m, times (F * G * H) _ _ p, times (G * E * H) _ _ q, times (fu * E * H) _ _ r, times (fd * E * H) _ _ r))

  nat_sum_base : 1 ≤ F → 1 ≤ G → 1 ≤ H → Ratio hu hd H (wu + xu) (wd + xd) z → Ratio fu fd F wu wd y → n * z ≡ y * G
      → Sum eu ed E fu fd F n G hu hd H → Ratio eu ed E xu xd z
  nat_sum_base f g h p q r m =
      cancel_nat (F * G * H) (eu * z + xd * E) (ed * z + xu * E) (positive (F * G) H (positive F G f g) h)
      (omega (arith, times z _ _ m, times (E * F * G) _ _ p, times (G * E * H) _ _ q, times (fu * E * H) _ _ r, times (fd * E * H) _ _ r))

  nat_sum_slope : 1 ≤ E → 1 ≤ G → 1 ≤ H → Ratio hu hd H (wu + xu) (wd + xd) z → Ratio eu ed E xu xd z → n * z ≡ y * G
      → Sum eu ed E fu fd F n G hu hd H → Ratio fu fd F wu wd y
  nat_sum_slope e g h p q r m =
      cancel_nat (G * E * H) (fu * y + wd * F) (fd * y + wu * F) (positive (G * E) H (positive G E g e) h)
      (omega (arith, times z _ _ m, times (E * F * G) _ _ p, times (F * G * H) _ _ q, times (fu * E * H) _ _ r, times (fd * E * H) _ _ r))

  nat_sum_is : 1 ≤ z → Ratio hu hd H (wu + xu) (wd + xd) z → Ratio eu ed E xu xd z → Ratio fu fd F wu wd y → n * z ≡ y * G
      → Sum eu ed E fu fd F n G hu hd H
  nat_sum_is s p q t r =
      cancel_nat z (hu * (E * F * G) + (ed * (F * G) + fd * n * E) * H) (hd * (E * F * G) + (eu * (F * G) + fu * n * E) * H) s
      (omega (arith, times (E * F * G) _ _ p, times (F * G * H) _ _ q, times (G * E * H) _ _ t, times (fu * E * H) _ _ r, times (fd * E * H) _ _ r))

-- from whole numbers to natural ones and back
pub ratio_out : (f : Fraction) (x : ℤ) (y : ℕ) → IsRatio f x y → Ratio (up f.num) (down f.num) f.den (up x) (down x) y
ratio_out f x y e = omega (arith, ints, e)

pub ratio_in : (f : Fraction) (x : ℤ) (y : ℕ) → Ratio (up f.num) (down f.num) f.den (up x) (down x) y → IsRatio f x y
ratio_in f x y e = same_in (f.num *ℤ pos y) (x *ℤ pos f.den) (omega (arith, ints, e))

-- the numerator of a positive ratio is positive
pub numerator : (f : Fraction) (x y : ℕ) → 1 ≤ f.den → 1 ≤ x → IsRatio f (pos x) y → (f.num ≡ pos (up f.num)) × (1 ≤ up f.num)
numerator f x y d p e =
    let q : 1 ≤ x * f.den = positive x f.den p d in
    signed f.num y (x * f.den) q (omega (arith, ratio_out f (pos x) y e))
  where
    signed : (z : ℤ) (y k : ℕ) → 1 ≤ k → up z * y ≡ down z * y + k → (z ≡ pos (up z)) × (1 ≤ up z)
    signed (pos zero) y k p e = absurd (omega arith)
    signed (pos (suc n)) y k p e = (refl, omega arith)
    signed (negsuc n) y k p e = absurd (omega arith)

-- a sum of whole numbers as one of natural numbers
sides : (e f : ℤ) (n E F G : ℕ) → up (e *ℤ pos (F * G) +ℤ f *ℤ pos n *ℤ pos E) + (down e * (F * G) + down f * n * E)
    ≡ down (e *ℤ pos (F * G) +ℤ f *ℤ pos n *ℤ pos E) + (up e * (F * G) + up f * n * E)
sides e f n E F G =
    let v : (up (f *ℤ pos n) ≡ up f * n) × (down (f *ℤ pos n) ≡ down f * n) = (omega (arith, product_is f (pos n)), omega (arith, product_is f (pos n))) in
    let w : (up (f *ℤ pos n *ℤ pos E) ≡ up f * n * E) × (down (f *ℤ pos n *ℤ pos E) ≡ down f * n * E) =
    (omega (arith, product_is (f *ℤ pos n) (pos E), times E _ _ v.0), omega (arith, product_is (f *ℤ pos n) (pos E), times E _ _ v.1)) in
    omega (arith, sum_is_lem (e *ℤ pos (F * G)) (f *ℤ pos n *ℤ pos E), product_is e (pos (F * G)), w.0, w.1)

linear : (h e f : ℤ) (n E F G H : ℕ) → h *ℤ pos (E * F * G) ≡ (e *ℤ pos (F * G) +ℤ f *ℤ pos n *ℤ pos E) *ℤ pos H
    → Sum (up e) (down e) E (up f) (down f) F n G (up h) (down h) H
linear h e f n E F G H s =
    omega (arith, times H _ _ (sides e f n E F G), ap up s, ap down s, product_is h (pos (E * F * G)), product_is (e *ℤ pos (F * G) +ℤ f *ℤ pos n *ℤ pos E) (pos H))

linear' : (h e f : ℤ) (n E F G H : ℕ) → Sum (up e) (down e) E (up f) (down f) F n G (up h) (down h) H
    → h *ℤ pos (E * F * G) ≡ (e *ℤ pos (F * G) +ℤ f *ℤ pos n *ℤ pos E) *ℤ pos H
linear' h e f n E F G H s =
    same_in (h *ℤ pos (E * F * G)) ((e *ℤ pos (F * G) +ℤ f *ℤ pos n *ℤ pos E) *ℤ pos H)
    (omega (arith, times H _ _ (sides e f n E F G), s, product_is h (pos (E * F * G)), product_is (e *ℤ pos (F * G) +ℤ f *ℤ pos n *ℤ pos E) (pos H)))

product_out : (f g h : ℤ) (a n c F G H : ℕ) → f ≡ pos a → g ≡ pos n → h ≡ pos c → h *ℤ pos (F * G) ≡ f *ℤ g *ℤ pos H → c * (F * G) ≡ a * n * H
product_out f g h a n c F G H fa gn hc e =
    let k : pos c *ℤ pos (F * G) ≡ pos a *ℤ pos n *ℤ pos H =
    ap (λ t. t *ℤ pos (F * G)) (sym hc) ∙ e ∙ ap (λ t. t *ℤ g *ℤ pos H) fa ∙ ap (λ t. pos a *ℤ t *ℤ pos H) gn in
    ap up k

product_in : (f g h : ℤ) (a n c F G H : ℕ) → f ≡ pos a → g ≡ pos n → h ≡ pos c → c * (F * G) ≡ a * n * H → h *ℤ pos (F * G) ≡ f *ℤ g *ℤ pos H
product_in f g h a n c F G H fa gn hc e =
    ap (λ t. t *ℤ pos (F * G)) hc ∙ ap pos e ∙ ap (λ t. t *ℤ pos n *ℤ pos H) (sym fa) ∙ ap (λ t. f *ℤ t *ℤ pos H) (sym gn)

-- the numerator of a product of positive ratios, and of its parts
natural : (f : Fraction) (a b : ℕ) → f.num ≡ pos (up f.num) → IsRatio f (pos a) b → up f.num * b ≡ a * f.den
natural f a b n e = omega (arith, ratio_out f (pos a) b e, times b _ _ (ap down n))

natural_in : (f : Fraction) (a b : ℕ) → f.num ≡ pos (up f.num) → up f.num * b ≡ a * f.den → IsRatio f (pos a) b
natural_in f a b n e = ratio_in f (pos a) b (omega (arith, e, times b _ _ (ap down n)))

apart : (x y z : ℤ) → up (x -ℤ z) + (down (x -ℤ y) + down (y -ℤ z)) ≡ down (x -ℤ z) + (up (x -ℤ y) + up (y -ℤ z))
apart x y z = omega (arith, ints)

whole_out : (f : Fraction) (x y z : ℤ) (t : ℕ) → IsRatio f (x -ℤ z) t
    → Ratio (up f.num) (down f.num) f.den (up (x -ℤ y) + up (y -ℤ z)) (down (x -ℤ y) + down (y -ℤ z)) t
whole_out f x y z t e = omega (arith, times f.den _ _ (apart x y z), ratio_out f (x -ℤ z) t e)

whole_in : (f : Fraction) (x y z : ℤ) (t : ℕ) → Ratio (up f.num) (down f.num) f.den (up (x -ℤ y) + up (y -ℤ z)) (down (x -ℤ y) + down (y -ℤ z)) t
    → IsRatio f (x -ℤ z) t
whole_in f x y z t e = ratio_in f (x -ℤ z) t (omega (arith, times f.den _ _ (apart x y z), e))

linear_out : (e f g h : Fraction) → g.num ≡ pos (up g.num) → IsSum e f g h
    → Sum (up e.num) (down e.num) e.den (up f.num) (down f.num) f.den (up g.num) g.den (up h.num) (down h.num) h.den
linear_out e f g h n s =
    linear h.num e.num f.num (up g.num) e.den f.den g.den h.den
    (s ∙ ap (λ t. (e.num *ℤ pos (f.den * g.den) +ℤ f.num *ℤ t *ℤ pos e.den) *ℤ pos h.den) n)

linear_in : (e f g h : Fraction) → g.num ≡ pos (up g.num)
    → Sum (up e.num) (down e.num) e.den (up f.num) (down f.num) f.den (up g.num) g.den (up h.num) (down h.num) h.den → IsSum e f g h
linear_in e f g h n s =
    linear' h.num e.num f.num (up g.num) e.den f.den g.den h.den s
    ∙ ap (λ t. (e.num *ℤ pos (f.den * g.den) +ℤ f.num *ℤ t *ℤ pos e.den) *ℤ pos h.den) (sym n)

-- a product of positive fractions is positive
product_positive : (f g h : Fraction) → 1 ≤ f.den → 1 ≤ g.den → 1 ≤ h.den → IsProduct f g h
    → (f.num ≡ pos (up f.num)) × (1 ≤ up f.num) → (g.num ≡ pos (up g.num)) × (1 ≤ up g.num) → (h.num ≡ pos (up h.num)) × (1 ≤ up h.num)
product_positive f g h fd gd hd e a b =
    numerator (record { num = h.num; den = 1 }) (up f.num * up g.num * h.den) (f.den * g.den) (omega arith)
    (positive (up f.num * up g.num) h.den (positive (up f.num) (up g.num) a.1 b.1) hd)
    (e ∙ ap (λ t. t *ℤ g.num *ℤ pos h.den) a.0 ∙ ap (λ t. pos (up f.num) *ℤ t *ℤ pos h.den) b.0 ∙ ap pos (omega arith))

pub twice : (z : ℤ) (n k : ℕ) → z *ℤ pos n *ℤ pos k ≡ z *ℤ pos (n * k)
twice z n k =
    same_in (z *ℤ pos n *ℤ pos k) (z *ℤ pos (n * k))
    (omega (arith, product_is (z *ℤ pos n) (pos k), product_is z (pos (n * k)), times k _ _ (product_is z (pos n)).0, times k _ _ (product_is z (pos n)).1))

-- so is a factor, where the product and the other factor are
factor_positive : (f g h : Fraction) → 1 ≤ f.den → 1 ≤ g.den → 1 ≤ h.den → IsProduct f g h
    → (g.num ≡ pos (up g.num)) × (1 ≤ up g.num) → (h.num ≡ pos (up h.num)) × (1 ≤ up h.num) → (f.num ≡ pos (up f.num)) × (1 ≤ up f.num)
factor_positive f g h fd gd hd e b c =
    numerator (record { num = f.num; den = 1 }) (up h.num * (f.den * g.den)) (up g.num * h.den) (omega arith)
    (positive (up h.num) (f.den * g.den) c.1 (positive f.den g.den fd gd))
    (sym (twice f.num (up g.num) h.den) ∙ ap (λ t. f.num *ℤ t *ℤ pos h.den) (sym b.0) ∙ sym e ∙ ap (λ t. t *ℤ pos (f.den * g.den)) c.0 ∙ ap pos (omega arith))

other_positive : (f g h : Fraction) → 1 ≤ f.den → 1 ≤ g.den → 1 ≤ h.den → IsProduct f g h
    → (f.num ≡ pos (up f.num)) × (1 ≤ up f.num) → (h.num ≡ pos (up h.num)) × (1 ≤ up h.num) → (g.num ≡ pos (up g.num)) × (1 ≤ up g.num)
other_positive f g h fd gd hd e a c =
    factor_positive g f h gd fd hd
    (ap (λ t. h.num *ℤ pos t) (mul_comm g.den f.den) ∙ e ∙ ap (λ t. t *ℤ pos h.den) (*ℤ_comm f.num g.num)) a c

module _ (p q : Timing) (h : Fraction) (dp : HasParts p) (dq : HasParts q) (dh : 1 ≤ h.den) (x y z : Point) (sx : 1 ≤ x.period) (sy : 1 ≤ y.period) where
  pub period_composed : IsOver p x y → IsOver q y z → IsProduct p.period q.period h → IsRatio h (pos x.period) z.period
  period_composed a b c =
      let f = numerator p.period x.period y.period dp.period sx a.period in
      let g = numerator q.period y.period z.period dq.period sy b.period in
      let k = product_positive p.period q.period h dp.period dq.period dh c f g in
      natural_in h x.period z.period k.0
      (nat_product_of (up p.period.num) p.period.den (up q.period.num) q.period.den (up h.num) h.den x.period y.period z.period dp.period dq.period
      (natural p.period x.period y.period f.0 a.period) (natural q.period y.period z.period g.0 b.period)
      (product_out _ _ _ (up p.period.num) (up q.period.num) (up h.num) p.period.den q.period.den h.den f.0 g.0 k.0 c))

  pub start_composed : IsOver p x y → IsOver q y z → IsSum q.start p.start q.period h → IsRatio h (x.start -ℤ z.start) z.period
  start_composed a b c =
      let g = numerator q.period y.period z.period dq.period sy b.period in
      whole_in h x.start y.start z.start z.period
      (nat_sum_of (up q.start.num) (down q.start.num) q.start.den (up p.start.num) (down p.start.num) p.start.den (up q.period.num) q.period.den (up h.num) (down h.num) h.den
      (up (y.start -ℤ z.start)) (down (y.start -ℤ z.start)) (up (x.start -ℤ y.start)) (down (x.start -ℤ y.start)) y.period z.period dq.start dp.start dq.period
      (ratio_out q.start (y.start -ℤ z.start) z.period b.start) (ratio_out p.start (x.start -ℤ y.start) y.period a.start)
      (natural q.period y.period z.period g.0 b.period)
      (linear_out q.start p.start q.period h g.0 c))

module _ (p r : Timing) (g : Fraction) (dp : HasParts p) (dr : HasParts r) (dg : 1 ≤ g.den) (x y z : Point) (sx : 1 ≤ x.period) (sy : 1 ≤ y.period) where
  pub period_over : IsOver p x y → IsOver r x z → IsProduct p.period g r.period → IsRatio g (pos y.period) z.period
  period_over a d c =
      let f = numerator p.period x.period y.period dp.period sx a.period in
      let h = numerator r.period x.period z.period dr.period sx d.period in
      let k = other_positive p.period g r.period dp.period dg dr.period c f h in
      natural_in g y.period z.period k.0
      (nat_product_right (up p.period.num) p.period.den (up g.num) g.den (up r.period.num) r.period.den x.period y.period z.period f.1 dr.period
      (natural p.period x.period y.period f.0 a.period) (natural r.period x.period z.period h.0 d.period)
      (product_out _ _ _ (up p.period.num) (up g.num) (up r.period.num) p.period.den g.den r.period.den f.0 k.0 h.0 c))

  pub start_over : (e : Fraction) → 1 ≤ e.den → IsOver p x y → IsOver r x z → IsProduct p.period g r.period → IsSum e p.start g r.start
      → IsRatio e (y.start -ℤ z.start) z.period
  start_over e de a d c s =
      let ratio = period_over a d c in
      let k = numerator g y.period z.period dg sy ratio in
      ratio_in e (y.start -ℤ z.start) z.period
      (nat_sum_base (up e.num) (down e.num) e.den (up p.start.num) (down p.start.num) p.start.den (up g.num) g.den (up r.start.num) (down r.start.num) r.start.den
      (up (y.start -ℤ z.start)) (down (y.start -ℤ z.start)) (up (x.start -ℤ y.start)) (down (x.start -ℤ y.start)) y.period z.period dp.start dg dr.start
      (whole_out r.start x.start y.start z.start z.period d.start) (ratio_out p.start (x.start -ℤ y.start) y.period a.start)
      (natural g y.period z.period k.0 ratio)
      (linear_out e p.start g r.start k.0 s))

-- Of three points `x`, `y` and `z`: `p` is `x` over `y`, `q` is `y` over `z`, `r` is `x` over `z`.
module _ (p q r : Timing) (dp : HasParts p) (dq : HasParts q) (dr : HasParts r) (x y z : Point) (sx : 1 ≤ x.period) (sy : 1 ≤ y.period) (sz : 1 ≤ z.period) where
  -- x over z
  pub composed_of : IsOver p x y → IsOver q y z → IsComposed p q r → IsOver r x z
  composed_of a b c = record {
    period = period_composed p q r.period dp dq dr.period x y z sx sy a b c.period;
    start = start_composed p q r.start dp dq dr.start x y z sx sy a b c.start;
  }

  -- x over y
  pub composed_left : IsOver q y z → IsOver r x z → IsComposed p q r → IsOver p x y
  composed_left b d c =
      let g = numerator q.period y.period z.period dq.period sy b.period in
      let h = numerator r.period x.period z.period dr.period sx d.period in
      let f = factor_positive p.period q.period r.period dp.period dq.period dr.period c.period g h in
      record {
        period =
            natural_in p.period x.period y.period f.0
            (nat_product_left (up p.period.num) p.period.den (up q.period.num) q.period.den (up r.period.num) r.period.den x.period y.period z.period dq.period dr.period
            (natural q.period y.period z.period g.0 b.period) (natural r.period x.period z.period h.0 d.period)
            (product_out _ _ _ (up p.period.num) (up q.period.num) (up r.period.num) p.period.den q.period.den r.period.den f.0 g.0 h.0 c.period));
        start =
            ratio_in p.start (x.start -ℤ y.start) y.period
            (nat_sum_slope (up q.start.num) (down q.start.num) q.start.den (up p.start.num) (down p.start.num) p.start.den (up q.period.num) q.period.den (up r.start.num) (down r.start.num) r.start.den
            (up (y.start -ℤ z.start)) (down (y.start -ℤ z.start)) (up (x.start -ℤ y.start)) (down (x.start -ℤ y.start)) y.period z.period dq.start dq.period dr.start
            (whole_out r.start x.start y.start z.start z.period d.start) (ratio_out q.start (y.start -ℤ z.start) z.period b.start)
            (natural q.period y.period z.period g.0 b.period)
            (linear_out q.start p.start q.period r.start g.0 c.start));
      }

  -- y over z
  pub composed_right : IsOver p x y → IsOver r x z → IsComposed p q r → IsOver q y z
  composed_right a d c = record {
    period = period_over p r q.period dp dr dq.period x y z sx sy a d c.period;
    start = start_over p r q.period dp dr dq.period x y z sx sy q.start dq.start a d c.period c.start;
  }

  pub composed_is : IsOver p x y → IsOver q y z → IsOver r x z → IsComposed p q r
  composed_is a b d =
      let f = numerator p.period x.period y.period dp.period sx a.period in
      let g = numerator q.period y.period z.period dq.period sy b.period in
      let h = numerator r.period x.period z.period dr.period sx d.period in
      record {
        period =
            product_in _ _ _ (up p.period.num) (up q.period.num) (up r.period.num) p.period.den q.period.den r.period.den f.0 g.0 h.0
            (nat_product_is (up p.period.num) p.period.den (up q.period.num) q.period.den (up r.period.num) r.period.den x.period y.period z.period sz
            (natural p.period x.period y.period f.0 a.period) (natural q.period y.period z.period g.0 b.period) (natural r.period x.period z.period h.0 d.period));
        start =
            linear_in q.start p.start q.period r.start g.0
            (nat_sum_is (up q.start.num) (down q.start.num) q.start.den (up p.start.num) (down p.start.num) p.start.den (up q.period.num) q.period.den (up r.start.num) (down r.start.num) r.start.den
            (up (y.start -ℤ z.start)) (down (y.start -ℤ z.start)) (up (x.start -ℤ y.start)) (down (x.start -ℤ y.start)) y.period z.period sz
            (whole_out r.start x.start y.start z.start z.period d.start)
            (ratio_out q.start (y.start -ℤ z.start) z.period b.start) (ratio_out p.start (x.start -ℤ y.start) y.period a.start)
            (natural q.period y.period z.period g.0 b.period));
      }

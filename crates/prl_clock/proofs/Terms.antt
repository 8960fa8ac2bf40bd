-- What calls on ratios give, as products and sums; lowest terms are unique.
use Rattle.prl_base.proofs.Standard.{Bool, true, false, int_eq, eqb, ◌&&◌, ◌≡◌, ◌≤◌, ◌+◌, ◌*◌, ℕ, ℤ, pos, neg_ℤ, ◌*ℤ◌, ◌+ℤ◌, refl, zero, suc, sym, ◌∙◌, ap, subst, arith, inl, inr, Result, Ok, Err}
use Rattle.prl_base.proofs.Standard.{int_eq_equiv, *ℤ_comm, IfErr, IsErrAnd, List, OnErr, OnOk}
use Rattle.std.proofs.Common.{eq-eqb}
use borrow.Author.Differences.{up, down, same_in, product_is, sum_is_lem, neg_is}
use Rattle.prl_base.specs.Vocabulary.{Fraction, IsSmallFraction, IsReducedForm, IsPast}
use Rattle.prl_base.proofs.Lowest.{lowest_only}
use Rattle.prl_base.proofs.Signs.{neg_mul}
use Rattle.prl_clock.specs.Vocabulary.{Refusal, Timing, IsConsistent, Passes, Placed, IsRefused, HasParts, IsProduct, IsSum, IsComposed, IsComposedPast, composed_period, composed_start, IsSmallTiming}
use Rattle.prl_clock.specs.Vocabulary.{IsPastTerms}
use Rattle.prl_clock.specs.declared.steps.Refusal.TheVariants as refusals
use Rattle.prl_clock.proofs.Algebra.{twice, times, positive}

pub on_err : {T E : Type 0} (r : Result T E) (P : Type 0) → P → OnErr r P
on_err (Ok x) P p = tt
on_err (Err e) P p = p

pub past_terms : (top bottom : ℤ) (f : Fraction) → IsReducedForm top bottom f → IsPast f → IsPastTerms f
past_terms top bottom f form past = record { positive = form.positive; reduced = form.reduced; past = past }

assoc : (a b : ℤ) (k : ℕ) → a *ℤ (b *ℤ pos k) ≡ a *ℤ b *ℤ pos k
assoc a b k =
    same_in (a *ℤ (b *ℤ pos k)) (a *ℤ b *ℤ pos k)
    (omega (
      arith,
      product_is a (b *ℤ pos k),
      product_is (a *ℤ b) (pos k),
      times k _ _ (product_is a b).0,
      times k _ _ (product_is a b).1,
      times (up a) _ _ (product_is b (pos k)).0,
      times (down a) _ _ (product_is b (pos k)).0,
      times (up a) _ _ (product_is b (pos k)).1,
      times (down a) _ _ (product_is b (pos k)).1,
    ))

-- a quotient times its divisor
pub quotient_product : (first f whole : Fraction) → IsReducedForm (whole.num *ℤ pos first.den) (first.num *ℤ pos whole.den) f → IsProduct first f whole
quotient_product first f whole form =
    sym (twice whole.num first.den f.den) ∙ sym form.equal ∙ assoc f.num first.num whole.den
    ∙ ap (λ t. t *ℤ pos whole.den) (*ℤ_comm f.num first.num)

-- a difference and what was taken away
back : (b w m : ℤ) (W P A D : ℕ) → b *ℤ pos (W * P * A) ≡ (w *ℤ pos (P * A) +ℤ neg_ℤ m *ℤ pos W) *ℤ pos D
    → w *ℤ pos (D * P * A) ≡ (b *ℤ pos (P * A) +ℤ m *ℤ pos D) *ℤ pos W
back b w m W P A D e =
    let n : (up (neg_ℤ m *ℤ pos W) ≡ down m * W) × (down (neg_ℤ m *ℤ pos W) ≡ up m * W) = (omega (arith, product_is (neg_ℤ m) (pos W), times W _ _ (neg_is m).0, times W _ _ (neg_is m).1), omega (arith, product_is (neg_ℤ m) (pos W), times W _ _ (neg_is m).0, times W _ _ (neg_is m).1)) in
    let s : up (w *ℤ pos (P * A) +ℤ neg_ℤ m *ℤ pos W) + (down w * (P * A) + up m * W) ≡ down (w *ℤ pos (P * A) +ℤ neg_ℤ m *ℤ pos W) + (up w * (P * A) + down m * W) =
    omega (arith, sum_is_lem (w *ℤ pos (P * A)) (neg_ℤ m *ℤ pos W), product_is w (pos (P * A)), n.0, n.1) in
    let t : up (b *ℤ pos (P * A) +ℤ m *ℤ pos D) + (down b * (P * A) + down m * D) ≡ down (b *ℤ pos (P * A) +ℤ m *ℤ pos D) + (up b * (P * A) + up m * D) =
    omega (arith, sum_is_lem (b *ℤ pos (P * A)) (m *ℤ pos D), product_is b (pos (P * A)), product_is m (pos D)) in
    same_in (w *ℤ pos (D * P * A)) ((b *ℤ pos (P * A) +ℤ m *ℤ pos D) *ℤ pos W)
    (omega (
      arith,
      times D _ _ s,
      times W _ _ t,
      ap up e,
      ap down e,
      product_is b (pos (W * P * A)),
      product_is w (pos (D * P * A)),
      product_is (w *ℤ pos (P * A) +ℤ neg_ℤ m *ℤ pos W) (pos D),
      product_is (b *ℤ pos (P * A) +ℤ m *ℤ pos D) (pos W),
    ))

pub sum_back : (whole slope by : Fraction) (s : Fraction) (f : Fraction) → s.num ≡ neg_ℤ slope.num → s.den ≡ slope.den → IsSum whole s by f
    → IsSum f slope by whole
sum_back whole slope by s f num den e =
    back f.num whole.num (slope.num *ℤ by.num) whole.den slope.den by.den f.den
    (ap (λ d. f.num *ℤ pos (whole.den * d * by.den)) (sym den) ∙ e
    ∙ ap (λ d. (whole.num *ℤ pos (d * by.den) +ℤ s.num *ℤ by.num *ℤ pos whole.den) *ℤ pos f.den) den
    ∙ ap (λ n. (whole.num *ℤ pos (slope.den * by.den) +ℤ n *ℤ by.num *ℤ pos whole.den) *ℤ pos f.den) num
    ∙ ap (λ n. (whole.num *ℤ pos (slope.den * by.den) +ℤ n *ℤ pos whole.den) *ℤ pos f.den) (neg_mul slope.num by.num))

-- lowest terms are unique
pub only : (top : ℤ) (bottom : ℕ) (f g : Fraction) → 1 ≤ bottom → IsReducedForm top (pos bottom) f → IsReducedForm top (pos bottom) g → f ≡ g
only top zero f g some a b = absurd (omega arith)
only top (suc n) f g some a b = lowest_only top (pos (suc n)) f g (λ e. absurd (cc e)) a b

pub small_form : (top : ℤ) (bottom : ℕ) (f : Fraction) → IsSmallFraction f → f.num *ℤ pos bottom ≡ top *ℤ pos f.den → IsReducedForm top (pos bottom) f
small_form top bottom f small e = record { positive = small.positive; reduced = small.reduced; equal = e }

pub past_form : (top : ℤ) (bottom : ℕ) (f : Fraction) → IsPastTerms f → f.num *ℤ pos bottom ≡ top *ℤ pos f.den → IsReducedForm top (pos bottom) f
past_form top bottom f past e = record { positive = past.positive; reduced = past.reduced; equal = e }

-- what is past the limit is not small
pub past_small : (f g : Fraction) → f ≡ g → IsPast f → IsSmallFraction g → ⊥
past_small f g e past small =
    let P : Fraction → Type 0 = λ x. IsPast x in
    elim (subst P e past) [ inl h ↦ omega (arith, h, small.num) | inr h ↦ omega (arith, h, small.den) ]

pub small_parts : (q : Timing) → IsSmallTiming q → HasParts q
small_parts q s = record { period = s.period.positive; start = s.start.positive }

module _ (p q a b : Timing) (dp : HasParts p) (dq : HasParts q) where
  pub composed_only : IsSmallTiming a → IsSmallTiming b → IsComposed p q a → IsComposed p q b → a ≡ b
  composed_only sa sb ca cb =
      let d1 : 1 ≤ p.period.den * q.period.den = positive p.period.den q.period.den dp.period dq.period in
      let d2 : 1 ≤ q.start.den * p.start.den * q.period.den =
      positive (q.start.den * p.start.den) q.period.den (positive q.start.den p.start.den dq.start dp.start) dq.period in
      let e1 = only _ _ a.period b.period d1 (small_form _ _ a.period sa.period ca.period) (small_form _ _ b.period sb.period cb.period) in
      let e2 = only _ _ a.start b.start d2 (small_form _ _ a.start sa.start ca.start) (small_form _ _ b.start sb.start cb.start) in
      λ i. record { period = e1 i; start = e2 i }

  pub past_composed : IsComposedPast p q → IsSmallTiming b → IsComposed p q b → ⊥
  past_composed (composed_period f past e) sb cb =
      let d1 : 1 ≤ p.period.den * q.period.den = positive p.period.den q.period.den dp.period dq.period in
      past_small f b.period (only _ _ f b.period d1 (past_form _ _ f past e) (small_form _ _ b.period sb.period cb.period)) past.past sb.period
  past_composed (composed_start f past e) sb cb =
      let d2 : 1 ≤ q.start.den * p.start.den * q.period.den =
      positive (q.start.den * p.start.den) q.period.den (positive q.start.den p.start.den dq.start dp.start) dq.period in
      past_small f b.start (only _ _ f b.start d2 (past_form _ _ f past e) (small_form _ _ b.start sb.start cb.start)) past.past sb.start

pub on_ok : {T E : Type 0} (r : Result T E) (P Q : Type 0) → OnOk r P → (P → Q) → OnOk r Q
on_ok (Ok x) P Q p f = f p
on_ok (Err e) P Q p f = tt

pub on_err_by : {T E : Type 0} (r : Result T E) (P Q : Type 0) → OnErr r P → (P → Q) → OnErr r Q
on_err_by (Ok x) P Q p f = tt
on_err_by (Err e) P Q p f = f p

-- a refusal that is the limit
pub if_limit : {T : Type 0} (r : Result T Refusal) (cs : List Placed) → IsErrAnd r (λ e. e ≡ refusals.Limit) → IsConsistent cs → Passes cs → IfErr r (IsRefused cs)
if_limit (Ok x) cs l c p = tt
if_limit (Err e) cs l c p = let P : Refusal → Type 0 = λ f. IsRefused cs f in subst P (sym l) (c, p)

-- what two equal timings answer to `==`
pub clash : {a b : Bool} → a ≡ b → a ≡ false → b ≡ true → ⊥
clash e f g = cc

pub same_test : (t w : Timing) → t ≡ w → (int_eq t.period.num w.period.num && eqb t.period.den w.period.den) && (int_eq t.start.num w.start.num && eqb t.start.den w.start.den) ≡ true
same_test t w e =
    let P : Timing → Type 0 = λ v. (int_eq t.period.num v.period.num && eqb t.period.den v.period.den) && (int_eq t.start.num v.start.num && eqb t.start.den v.start.den) ≡ true in
    subst P e
    (all (int_eq_equiv.refl t.period.num) (eq-eqb t.period.den t.period.den refl) (int_eq_equiv.refl t.start.num) (eq-eqb t.start.den t.start.den refl))
  where
    all : {a b c d : Bool} → a ≡ true → b ≡ true → c ≡ true → d ≡ true → (a && b) && (c && d) ≡ true
    all p q r s = rw (p, q, r, s)

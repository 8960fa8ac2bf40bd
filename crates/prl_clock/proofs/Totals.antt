-- Each step of the calculus has an answer, with no call that takes memory.
use Rattle.prl_base.proofs.Standard.{◌≡◌, ◌≢◌, ◌≤◌, ◌<◌, ◌+◌, ◌-◌, ◌*◌, ◌∷◌, ◌⊎◌, inl, inr, ℕ, zero, suc, ℤ, pos, negsuc, neg_ℤ, nat_abs, ◌*ℤ◌, ◌+ℤ◌, List, [], length, get_or, Option, Some, None}
use Rattle.prl_base.proofs.Standard.{refl, sym, ap, ◌∙◌, subst, arith, IsGcd, cases_lt, IsGcd-from_zero, IsGcd-swap, IsGcd-from_sub}
use Rattle.prl_base.specs.Vocabulary.{Fraction, IsSmallFraction, IsReducedForm}
use Rattle.prl_base.specs.declared.ratios.TheConstants.{MAX_PART}
use Rattle.prl_base.proofs.Lowest.{lowest, lowest_is}
use Rattle.prl_clock.specs.Vocabulary.{Standing, Timing, HasParts, IsProduct, IsSum, IsComposed, IsComposedPast, composed_period, composed_start, IsOverPast, over_period, over_start, IsSmallTiming}
use Rattle.prl_clock.specs.Vocabulary.{IsPastTerms, IsReducedTiming, IsTimingPast, AreMoved, AreTimed, IsMoved, IsTimed, IsOnePast, alone, standing_at}
use Rattle.prl_clock.proofs.Algebra.{positive}
use Rattle.prl_flow.proofs.StandingsAt.{same_within}
use Rattle.prl_clock.proofs.Merging.{clock_or_none, decide}
use Rattle.prl_clock.proofs.Terms.{quotient_product, sum_back, composed_only, past_composed, only, past_form, past_small}

divisor : (most a b : ℕ) → a + b ≤ most → (g : ℕ) × IsGcd a b g
divisor most a zero bound = (a, IsGcd-from_zero a 0 refl)
divisor most zero (suc b) bound = (suc b, IsGcd-swap (suc b) 0 (suc b) (IsGcd-from_zero (suc b) 0 refl))
divisor zero (suc a) (suc b) bound = absurd (omega arith)
divisor (suc most) (suc a) (suc b) bound =
    elim (cases_lt (suc a) (suc b)) [
      | inl below ↦
          let r = divisor most (suc b - suc a) (suc a) (omega arith) in
          (r.0, IsGcd-swap (suc b) (suc a) r.0 (IsGcd-from_sub (suc b) (suc a) r.0 (omega arith) r.1))
      | inr above ↦ let r = divisor most (suc a - suc b) (suc b) (omega arith) in (r.0, IsGcd-from_sub (suc a) (suc b) r.0 above r.1)
    ]

-- lowest terms, small or past the limit
record Reduced (top : ℤ) (bottom : ℕ) : Type 0 where
  terms : Fraction
  form : IsReducedForm top (pos bottom) terms
  size : IsSmallFraction terms ⊎ IsPastTerms terms

sized : (top : ℤ) (bottom : ℕ) (f : Fraction) → IsReducedForm top (pos bottom) f → IsSmallFraction f ⊎ IsPastTerms f
sized top bottom f form =
    elim (cases_lt MAX_PART (nat_abs f.num)) [
      | inl past ↦ inr (record { positive = form.positive; reduced = form.reduced; past = inl past })
      | inr num ↦ elim (cases_lt MAX_PART f.den) [
        | inl past ↦ inr (record { positive = form.positive; reduced = form.reduced; past = inr past })
        | inr den ↦ inl (record { positive = form.positive; reduced = form.reduced; num = num; den = den })
      ]
    ]

reduced : (top : ℤ) (bottom : ℕ) → 1 ≤ bottom → Reduced top bottom
reduced top bottom some =
    let g = divisor (nat_abs top + bottom) (nat_abs top) bottom (omega arith) in
    let form : IsReducedForm top (pos bottom) (lowest top bottom g.0) = lowest_is top bottom g.0 some g.1 in
    record { terms = lowest top bottom g.0; form = form; size = sized top bottom (lowest top bottom g.0) form }

pub composed_total : (p q : Timing) → HasParts p → HasParts q → ((r : Timing) × IsComposed p q r × IsSmallTiming r) ⊎ IsComposedPast p q
composed_total p q dp dq =
    let a = reduced (p.period.num *ℤ q.period.num) (p.period.den * q.period.den) (positive p.period.den q.period.den dp.period dq.period) in
    let b = reduced (q.start.num *ℤ pos (p.start.den * q.period.den) +ℤ p.start.num *ℤ q.period.num *ℤ pos q.start.den) (q.start.den * p.start.den * q.period.den)
    (positive (q.start.den * p.start.den) q.period.den (positive q.start.den p.start.den dq.start dp.start) dq.period) in
    elim a.size [
      | inr past ↦ inr (composed_period a.terms past a.form.equal)
      | inl small ↦ elim b.size [
        | inr past ↦ inr (composed_start b.terms past b.form.equal)
        | inl low ↦ inl (record { period = a.terms; start = b.terms }, record { period = a.form.equal; start = b.form.equal }, record { period = small; start = low })
      ]
    ]

pub over_total : (whole first : Timing) → HasParts whole → HasParts first → (n : ℕ) → first.period.num ≡ pos n → 1 ≤ n
    → ((q : Timing) × IsComposed first q whole × IsSmallTiming q) ⊎ IsOverPast first whole
over_total whole first dw df n is some =
    let a = reduced (whole.period.num *ℤ pos first.period.den) (n * whole.period.den) (positive n whole.period.den some dw.period) in
    let P : ℤ → Type 0 = λ z. IsReducedForm (whole.period.num *ℤ pos first.period.den) (z *ℤ pos whole.period.den) a.terms in
    let product : IsProduct first.period a.terms whole.period = quotient_product first.period a.terms whole.period (subst P (sym is) a.form) in
    let s : Fraction = record { num = neg_ℤ first.start.num; den = first.start.den } in
    let b = reduced (whole.start.num *ℤ pos (s.den * a.terms.den) +ℤ s.num *ℤ a.terms.num *ℤ pos whole.start.den) (whole.start.den * s.den * a.terms.den)
    (positive (whole.start.den * s.den) a.terms.den (positive whole.start.den s.den dw.start df.start) a.form.positive) in
    let sum : IsSum b.terms first.start a.terms whole.start = sum_back whole.start first.start a.terms s b.terms refl refl b.form.equal in
    elim a.size [
      | inr past ↦ inr (over_period a.terms past product)
      | inl small ↦ elim b.size [
        | inr past ↦ inr (over_start b.terms a.terms a.form.positive past product sum)
        | inl low ↦ inl (record { period = a.terms; start = b.terms }, record { period = product; start = sum }, record { period = small; start = low })
      ]
    ]

-- equal or not
decide_whole : (x y : ℤ) → (x ≡ y) ⊎ (x ≢ y)
decide_whole (pos m) (pos n) = elim (decide m n) [ inl e ↦ inl (ap pos e) | inr d ↦ inr (λ e. d (cc e)) ]
decide_whole (negsuc m) (negsuc n) = elim (decide m n) [ inl e ↦ inl (ap negsuc e) | inr d ↦ inr (λ e. d (cc e)) ]
decide_whole (pos m) (negsuc n) = inr (λ e. absurd (cc e))
decide_whole (negsuc m) (pos n) = inr (λ e. absurd (cc e))

-- two parts of a whole are both equal, or the wholes differ
decide_both : {A B C : Type 0} (first : C → A) (second : C → B) (f g : C) → (first f ≡ first g) ⊎ (first f ≢ first g) → (second f ≡ second g) ⊎ (second f ≢ second g) →
    (first f ≡ first g → second f ≡ second g → f ≡ g) → (f ≡ g) ⊎ (f ≢ g)
decide_both first second f g (inl a) (inl b) whole = inl (whole a b)
decide_both first second f g (inl a) (inr d) whole = inr (λ e. d (ap second e))
decide_both first second f g (inr d) other whole = inr (λ e. d (ap first e))

decide_fraction : (f g : Fraction) → (f ≡ g) ⊎ (f ≢ g)
decide_fraction f g =
    decide_both (λ (x : Fraction). x.num) (λ (x : Fraction). x.den) f g (decide_whole f.num g.num) (decide f.den g.den) (λ a b i. record { num = a i; den = b i })

pub decide_timing : (t u : Timing) → (t ≡ u) ⊎ (t ≢ u)
decide_timing t u =
    decide_both (λ (x : Timing). x.period) (λ (x : Timing). x.start) t u (decide_fraction t.period u.period) (decide_fraction t.start u.start) (λ a b i. record { period = a i; start = b i })

pub fits_total : (link second whole : Timing) → HasParts link → HasParts second → IsSmallTiming whole → IsComposed link second whole ⊎ (IsComposed link second whole → ⊥)
fits_total link second whole dl ds small =
    elim (composed_total link second dl ds) [
      | inl r ↦ elim (decide_timing r.0 whole) [
        | inl e ↦ let P : Timing → Type 0 = λ t. IsComposed link second t in inl (subst P e r.1)
        | inr d ↦ inr (λ c. d (composed_only link second r.0 whole dl ds r.2 small r.1 c))
      ]
      | inr past ↦ inr (λ c. past_composed link second whole whole dl ds past small c)
    ]

-- the timing of a rate
pub reduced_total : (q : Timing) → HasParts q → IsSmallFraction q.period → ((t : Timing) × IsReducedTiming q t) ⊎ IsTimingPast q
reduced_total q d lowest =
    let a = reduced q.start.num q.start.den d.start in
    elim a.size [
      | inr past ↦ inr (record { terms = a.terms; past = past; equal = a.form.equal })
      | inl small ↦ inl (record { period = q.period; start = a.terms }, record { period = refl; start = a.form; small = record { period = lowest; start = small } })
    ]

pub rate_fits : (q known : Timing) → HasParts q → IsSmallFraction q.period → IsReducedTiming q known ⊎ (IsReducedTiming q known → ⊥)
rate_fits q known d lowest =
    elim (reduced_total q d lowest) [
      | inr p ↦ inr (λ k. past_small p.terms known.start (only q.start.num q.start.den p.terms known.start d.start (past_form q.start.num q.start.den p.terms p.past p.equal) k.start) p.past.past k.small.start)
      | inl t ↦ elim (decide_timing t.0 known) [
        | inl e ↦ let P : Timing → Type 0 = λ u. IsReducedTiming q u in inl (subst P e t.1)
        | inr n ↦ inr (λ k.
            let a : t.0.period ≡ known.period = t.1.period ∙ sym k.period in
            let b : t.0.start ≡ known.start = only q.start.num q.start.den t.0.start known.start d.start t.1.start k.start in
            n (λ i. record { period = a i; start = b i }))
      ]
    ]

-- each standing of a list in turn
each_total : (S Q : Standing → Type 0) (P : Standing → Standing → Type 0) → ((s : Standing) → S s → ((t : Standing) × P s t) ⊎ Q s) → (st : List Standing)
    → ((x : ℕ) (d : Standing) → x < length st → S (get_or st x d))
    → ((new : List Standing) × (length new ≡ length st) × ((x : ℕ) (d e : Standing) → x < length st → P (get_or st x d) (get_or new x e)))
    ⊎ ((x : ℕ) × (x < length st) × ((d : Standing) → Q (get_or st x d)))
each_total S Q P f [] all = inl ([], refl, λ x d e h. absurd (omega (arith, h)))
each_total S Q P f (s ∷ st) all =
    elim (f s (all 0 s (omega arith))) [
      | inr q ↦ inr (0, omega arith, λ d. q)
      | inl t ↦ elim (each_total S Q P f st (λ x d h. all (suc x) d (omega (arith, h)))) [
        | inr q ↦ let h = q.1 in inr (suc q.0, omega (arith, h), q.2)
        | inl r ↦ inl (t.0 ∷ r.0, ap suc r.1, at r.0 t r.2)
      ]
    ]
  where
    at : (new : List Standing) (t : (u : Standing) × P s u) → ((x : ℕ) (d e : Standing) → x < length st → P (get_or st x d) (get_or new x e))
        → (x : ℕ) (d e : Standing) → x < length (s ∷ st) → P (get_or (s ∷ st) x d) (get_or (t.0 ∷ new) x e)
    at new t g zero d e h = t.1
    at new t g (suc x) d e h = g x d e (omega (arith, h))

module _ (st : List Standing) (parts : (x : ℕ) → HasParts (standing_at st x).over) where
  all_parts : (x : ℕ) (d : Standing) → x < length st → HasParts (get_or st x d).over
  all_parts x d h = let P : Standing → Type 0 = λ s. HasParts s.over in subst P (same_within st x (alone x) d h) (parts x)

  pub moved_total : (high low : ℕ) (shift : Timing) → HasParts shift → ((new : List Standing) × (length new ≡ length st) × AreMoved high low shift st new) ⊎ IsOnePast high shift st
  moved_total high low shift ds =
      elim (each_total (λ s. HasParts s.over) (λ s. (s.root ≡ high) × IsComposedPast s.over shift) (IsMoved high low shift) one st all_parts) [
        | inl r ↦ inl (r.0, r.1, λ x h. r.2 x (alone x) (alone x) h)
        | inr q ↦ let k = q.2 (alone q.0) in inr (record { flow = q.0; within = q.1; is = k.0; past = k.1 })
      ]
    where
      one : (s : Standing) → HasParts s.over → ((t : Standing) × IsMoved high low shift s t) ⊎ ((s.root ≡ high) × IsComposedPast s.over shift)
      one s dp =
          elim (decide s.root high) [
            | inr n ↦ inl (s, record { moved = λ e. absurd (n e); kept = λ _. refl })
            | inl e ↦ elim (composed_total s.over shift dp ds) [
              | inl r ↦ inl (record { root = low; over = r.0; clock = s.clock }, record { moved = λ _. (refl, r.1, r.2, refl); kept = λ n. absurd (n e) })
              | inr past ↦ inr (e, past)
            ]
          ]

  pub timed_total : (root : ℕ) (clock : Timing) → HasParts clock → ((new : List Standing) × (length new ≡ length st) × AreTimed root clock st new) ⊎ IsOnePast root clock st
  timed_total root clock dc =
      elim (each_total (λ s. HasParts s.over) (λ s. (s.root ≡ root) × IsComposedPast s.over clock) (IsTimed root clock) one st all_parts) [
        | inl r ↦ inl (r.0, r.1, λ x h. r.2 x (alone x) (alone x) h)
        | inr q ↦ let k = q.2 (alone q.0) in inr (record { flow = q.0; within = q.1; is = k.0; past = k.1 })
      ]
    where
      none_some : {o : Option Timing} {t : Timing} → o ≡ None → o ≡ Some t → ⊥
      none_some a b = cc

      one : (s : Standing) → HasParts s.over → ((t : Standing) × IsTimed root clock s t) ⊎ ((s.root ≡ root) × IsComposedPast s.over clock)
      one s dp =
          elim (decide s.root root) [
            | inr n ↦ inl (s, record { timed = λ e _. absurd (n e); had = λ _ _. refl; kept = λ _. refl })
            | inl e ↦ elim (clock_or_none s.clock) [
              | inr some ↦ inl (s, record { timed = λ _ none. absurd (none_some none some.1); had = λ _ _. refl; kept = λ _. refl })
              | inl none ↦ elim (composed_total s.over clock dp dc) [
                | inl r ↦ inl (
                  record { root = s.root; over = s.over; clock = Some r.0 },
                  record { timed = λ _ _. (r.0, (refl, r.1, r.2)); had = λ _ some. absurd (none_some none some); kept = λ n. absurd (n e) },
                )
                | inr past ↦ inr (e, past)
              ]
            ]
          ]

-- Differences between numbers that come again with a span: they list all of them in turn.
use Rattle.prl_base.proofs.Standard.{◌≡◌, ◌+◌, ◌*◌, ◌/◌, ◌%◌, ◌<◌, ◌≤◌, ◌↔◌, ℕ, zero, suc, List, [], ◌∷◌, length, take, sum, inl, inr, refl, sym, ◌∙◌, ap, subst, arith, cases_lt, div-mul-add}
use Rattle.prl_base.proofs.Standard.{mod-mul-add, take_all, sum_by-take-le}
use Rattle.prl_plan.specs.CellTurns.{ListsGaps}
use Rattle.prl_plan.proofs.UsedLaws.{sum_all, sum_up_to}

whole : (xs : List ℕ) (j : ℕ) → length xs ≤ j → sum (take j xs) ≡ sum xs
whole xs j above = ap sum (take_all j xs above)

-- the number after k differences
abbrev pub offset : List ℕ → ℕ → ℕ
offset gaps k = k / length gaps * sum gaps + sum (take (k % length gaps) gaps)

module _ (R : ℕ → Type 0) (span : ℕ) (gaps : List ℕ) (some : 1 ≤ span) (here : R 0) (again : (x : ℕ) → R x ↔ R (x + span)) (lists : ListsGaps R span gaps) where
  -- the differences fill the span
  pub full : sum gaps ≡ span
  full =
      let found = lists.all span (omega arith) (subst R (let e : 0 + span ≡ span = omega arith in e) ((again 0).0 here)) in
      omega (arith, sum_by-take-le (λ y. y) gaps found.0, found.2, lists.within)

  pub some_gaps : 1 ≤ length gaps
  some_gaps = go gaps full
    where
      go : (xs : List ℕ) → sum xs ≡ span → 1 ≤ length xs
      go [] is = absurd (let z : sum [] ≡ 0 = refl in omega (arith, is, z, some))
      go (x ∷ xs) is = omega arith

  pub at_pair : (q r : ℕ) → r < length gaps → offset gaps (q * length gaps + r) ≡ q * span + sum (take r gaps)
  at_pair q r inside =
      ap (λ (x : ℕ). x * sum gaps + sum (take ((q * length gaps + r) % length gaps) gaps)) (div-mul-add q (length gaps) r inside)
      ∙ ap (λ (x : ℕ). q * sum gaps + sum (take x gaps)) (mod-mul-add q (length gaps) r inside) ∙ ap (λ (x : ℕ). q * x + sum (take r gaps)) full

  pub split : (k : ℕ) → k ≡ k / length gaps * length gaps + k % length gaps
  split k = (let e : length gaps * (k / length gaps) + k % length gaps ≡ k = omega arith in let f : length gaps * (k / length gaps) ≡ k / length gaps * length gaps = omega arith in omega (arith, e, f))

  pub inside : (k : ℕ) → k % length gaps < length gaps
  inside k = omega (arith, some_gaps)

  -- so many places on, the number is a span higher
  pub offset_shift : (k q : ℕ) → offset gaps (k + q * length gaps) ≡ offset gaps k + q * span
  offset_shift k q =
      let p = k / length gaps in
      let r = k % length gaps in
      let e : k + q * length gaps ≡ (p + q) * length gaps + r = (let s = split k in let d : (p + q) * length gaps ≡ p * length gaps + q * length gaps = omega arith in omega (arith, s, d)) in
      let a : offset gaps (k + q * length gaps) ≡ (p + q) * span + sum (take r gaps) = ap (offset gaps) e ∙ at_pair (p + q) r (inside k) in
      let b : offset gaps k ≡ p * span + sum (take r gaps) = ap (offset gaps) (split k) ∙ at_pair p r (inside k) in
      let d : (p + q) * span ≡ p * span + q * span = omega arith in
      omega (arith, a, b, d)

  pub offset_rises : (k : ℕ) → offset gaps k < offset gaps (k + 1)
  offset_rises k =
      let p = k / length gaps in
      let r = k % length gaps in
      let below : r < length gaps = inside k in
      let b : offset gaps k ≡ p * span + sum (take r gaps) = ap (offset gaps) (split k) ∙ at_pair p r below in
      let gap = lists.positive r below in
      elim (cases_lt (r + 1) (length gaps)) [
        | inl more ↦
            (let a : offset gaps (k + 1) ≡ p * span + sum (take (r + 1) gaps) = ap (offset gaps) (let s = split k in let e : k + 1 ≡ p * length gaps + (r + 1) = omega (arith, s) in e) ∙ at_pair p (r + 1) more in
            let up = sum_up_to gaps r (r + 1) (omega arith) below in
            omega (arith, a, b, up, gap))
        | inr last ↦
            (let e : k + 1 ≡ (p + 1) * length gaps + 0 = (let s = split k in let d : (p + 1) * length gaps ≡ p * length gaps + length gaps = omega arith in omega (arith, s, d, below, last)) in
            let a : offset gaps (k + 1) ≡ (p + 1) * span + sum (take 0 gaps) = ap (offset gaps) e ∙ at_pair (p + 1) 0 some_gaps in
            let d : (p + 1) * span ≡ p * span + span = omega arith in
            omega (arith, a, b, d, sum_all gaps r below, gap, full))
      ]

  up_again : (q x : ℕ) → R x → R (x + q * span)
  up_again zero x is = subst R (let e : x ≡ x + 0 * span = (let z : 0 * span ≡ 0 = omega arith in omega (arith, z)) in e) is
  up_again (suc q) x is =
      subst R (let e : (x + q * span) + span ≡ x + suc q * span = (let z : suc q * span ≡ q * span + span = omega arith in omega (arith, z)) in e) ((again (x + q * span)).0 (up_again q x is))

  down_again : (q x : ℕ) → R (x + q * span) → R x
  down_again zero x is = subst R (let e : x + 0 * span ≡ x = (let z : 0 * span ≡ 0 = omega arith in omega (arith, z)) in e) is
  down_again (suc q) x is =
      down_again q x ((again (x + q * span)).1 (subst R (let e : x + suc q * span ≡ (x + q * span) + span = (let z : suc q * span ≡ q * span + span = omega arith in omega (arith, z)) in e) is))

  pub offset_each : (k : ℕ) → R (offset gaps k)
  offset_each k =
      let p = k / length gaps in
      let r = k % length gaps in
      subst R (let e : sum (take r gaps) + p * span ≡ offset gaps k = omega (arith, ap (offset gaps) (split k) ∙ at_pair p r (inside k)) in e)
      (up_again p (sum (take r gaps)) (lists.each r (omega (arith, inside k))))

  pub offset_all : (x : ℕ) → R x → (k : ℕ) × (offset gaps k ≡ x)
  offset_all x is =
      let q = x / span in
      let y = x % span in
      let small : y < span = omega (arith, some) in
      let e : y + q * span ≡ x = (let a : span * (x / span) + x % span ≡ x = omega arith in let f : span * (x / span) ≡ x / span * span = omega arith in omega (arith, a, f)) in
      let low = lists.all y (omega (arith, small)) (down_again q y (subst R (sym e) is)) in
      elim (cases_lt low.0 (length gaps)) [
        | inl below ↦ (q * length gaps + low.0, (let a = at_pair q low.0 below in let l = low.2 in omega (arith, a, l, e)))
        | inr above ↦ absurd
            omega (arith, whole gaps low.0 above, low.2, full, small)
      ]

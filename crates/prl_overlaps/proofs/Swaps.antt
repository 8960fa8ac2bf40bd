-- Lists in which two elements have changed places.
use Rattle.prl_base.proofs.Standard.{◌≡◌, ◌≢◌, ◌<◌, ◌⊎◌, ℕ, List, length, get_or, set, inl, inr, refl, sym, ◌∙◌, ap, arith, slice_get, swap, cases_eq, swap_is, slice_get-get_or}
use Rattle.std.proofs.lemmas.List.{length-set}
use Rattle.prl_track.proofs.Places.{slice_get_set_same, slice_get_set_other}

-- where two elements of a list have changed places
module _ {X : Type 0} (d : X) (l : List X) (i j : ℕ) (i_in : i < length l) (j_in : j < length l) where
  pub at_place : (p : ℕ) → (q : ℕ) × (slice_get (swap l i j) p ≡ slice_get l q) × (((p ≡ j) × (q ≡ i)) ⊎ (((p ≡ i) × (q ≡ j)) ⊎ ((p ≢ i) × (p ≢ j) × (q ≡ p))))
  at_place p =
      let is : slice_get (set (set l i (get_or l j d)) j (get_or l i d)) p ≡ slice_get (swap l i j) p = ap (λ (xs : List X). slice_get xs p) (swap_is l i j d i_in j_in) in
      elim (cases_eq p j) [
        | inl here ↦
            (let inside : j < length (set l i (get_or l j d)) = (let s = length-set l i (get_or l j d) in omega (arith, s, j_in)) in
            let there = slice_get_set_same (set l i (get_or l j d)) j (get_or l i d) inside in
            (i, sym is ∙ ap (slice_get (set (set l i (get_or l j d)) j (get_or l i d))) here ∙ there ∙ sym (slice_get-get_or l i d i_in), inl (here, refl)))
        | inr not_j ↦
            (let past = slice_get_set_other (set l i (get_or l j d)) j p (get_or l i d) not_j in
            elim (cases_eq p i) [
              | inl here ↦
                  (j, sym is ∙ past ∙ ap (slice_get (set l i (get_or l j d))) here ∙ slice_get_set_same l i (get_or l j d) i_in ∙ sym (slice_get-get_or l j d j_in), inr (inl (here, refl)))
              | inr not_i ↦ (p, sym is ∙ past ∙ slice_get_set_other l i p (get_or l j d) not_i, inr (inr (not_i, not_j, refl)))
            ])
      ]

  pub one_place : (p q x y : ℕ) → (((p ≡ j) × (x ≡ i)) ⊎ (((p ≡ i) × (x ≡ j)) ⊎ ((p ≢ i) × (p ≢ j) × (x ≡ p)))) →
      (((q ≡ j) × (y ≡ i)) ⊎ (((q ≡ i) × (y ≡ j)) ⊎ ((q ≢ i) × (q ≢ j) × (y ≡ q)))) → x ≡ y → p ≡ q
  one_place p q x y (inl a) (inl b) same = a.0 ∙ sym b.0
  one_place p q x y (inl a) (inr (inl b)) same = a.0 ∙ sym b.1 ∙ sym same ∙ a.1 ∙ sym b.0
  one_place p q x y (inl a) (inr (inr b)) same = absurd (b.0 (sym b.2 ∙ sym same ∙ a.1))
  one_place p q x y (inr (inl a)) (inl b) same = a.0 ∙ sym b.1 ∙ sym same ∙ a.1 ∙ sym b.0
  one_place p q x y (inr (inl a)) (inr (inl b)) same = a.0 ∙ sym b.0
  one_place p q x y (inr (inl a)) (inr (inr b)) same = absurd (b.1 (sym b.2 ∙ sym same ∙ a.1))
  one_place p q x y (inr (inr a)) (inl b) same = absurd (a.0 (sym a.2 ∙ same ∙ b.1))
  one_place p q x y (inr (inr a)) (inr (inl b)) same = absurd (a.1 (sym a.2 ∙ same ∙ b.1))
  one_place p q x y (inr (inr a)) (inr (inr b)) same = sym a.2 ∙ same ∙ b.2

  -- what stood at q stands somewhere
  pub to_place : (q : ℕ) → (p : ℕ) × (slice_get (swap l i j) p ≡ slice_get l q)
  to_place q = elim (cases_eq q i) [
    | inl here ↦
        (let a = at_place j in (
          j,
          elim a.2 [
            | inl x ↦ a.1 ∙ ap (slice_get l) (x.1 ∙ sym here)
            | inr (inl x) ↦ a.1 ∙ ap (slice_get l) (x.1 ∙ x.0 ∙ sym here)
            | inr (inr x) ↦ absurd (x.1 refl)
          ],
        ))
    | inr not_i ↦ (elim (cases_eq q j) [
      | inl here ↦
          (let a = at_place i in (
            i,
            elim a.2 [
              | inl x ↦ a.1 ∙ ap (slice_get l) (x.1 ∙ x.0 ∙ sym here)
              | inr (inl x) ↦ a.1 ∙ ap (slice_get l) (x.1 ∙ sym here)
              | inr (inr x) ↦ absurd (x.0 refl)
            ],
          ))
      | inr not_j ↦
          (let a = at_place q in (
            q,
            elim a.2 [
              | inl x ↦ absurd (not_j x.0)
              | inr (inl x) ↦ absurd (not_i x.0)
              | inr (inr x) ↦ a.1 ∙ ap (slice_get l) x.2
            ],
          ))
    ])
  ]

-- What holds of each element of a list that has one more.
use Rattle.prl_base.proofs.Standard.{◌≡◌, ◌+◌, ◌<◌, ◌++◌, ℕ, List, [], ◌∷◌, length, get_or, get_or_append_left, get_or_push, inl, inr, sym, ap, subst, ◌∙◌, arith, cases_lt, length_push}

module _ {A : Type 0} (old new : List A) (x : A) (n : ℕ) (is : new ≡ old ++ x ∷ []) (long : length old ≡ n) where
  pub grown_length : length new ≡ n + 1
  grown_length = ap length is ∙ length_push old x ∙ ap (λ (k : ℕ). k + 1) long

  pub each_grown : (P : ℕ → A → Type 0) (d : A) → ((j : ℕ) → j < n → P j (get_or old j d)) → P n x → (j : ℕ) → j < n + 1 → P j (get_or new j d)
  each_grown P d before last j below = elim (cases_lt j n) [
    | inl less ↦ subst (P j) (sym (ap (λ (l : List A). get_or l j d) is ∙ get_or_append_left old (x ∷ []) d j (omega (arith, less, long)))) (before j less)
    | inr past ↦
        (let at : j ≡ n = omega (arith, past, below) in
        subst (P j) (sym (ap (λ (l : List A). get_or l j d) is ∙ get_or_push old x d j (long ∙ sym at))) (subst (λ (k : ℕ). P k x) (sym at) last))
  ]

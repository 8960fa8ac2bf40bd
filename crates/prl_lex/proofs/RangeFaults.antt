-- A loop over the tokens finds the first number out of its range.
use Rattle.prl_base.proofs.Standard.{◌≡◌, ℕ, ◌+◌, ◌<◌, ◌≤◌, Bool, true, false, cond, List, ◌∷◌, length, drop, get_or, Option, Some, None, sym, ap, ◌∙◌, cond-true, cond-false, drop_more, drop_all}
use Rattle.prl_lex.specs.Vocabulary.{Lexeme, Ranges, inside_after, is_fault, out_of_range}

module _ (r : Ranges) (inside : Bool) (last : ℕ) (ts : List Lexeme) (i : ℕ) where
  at_place : (t : Lexeme) → i < length ts → t ≡ get_or ts i t
      → out_of_range r inside last (drop i ts) ≡ cond (is_fault r inside last t) (Some t.at.at) (out_of_range r (inside_after r inside t.class) t.class (drop (i + 1) ts))
  unfolding out_of_range
  at_place t lt e = ap (out_of_range r inside last) (drop_more ts i t lt ∙ ap (λ u. u ∷ drop (i + 1) ts) (sym e))

  pub fault_here : (t : Lexeme) (total : Option ℕ) → i < length ts → t ≡ get_or ts i t → is_fault r inside last t ≡ true → out_of_range r inside last (drop i ts) ≡ total → Some t.at.at ≡ total
  fault_here t total lt e f so_far = sym (at_place t lt e ∙ cond-true (is_fault r inside last t) _ _ f) ∙ so_far

  pub fault_later : (t : Lexeme) (total : Option ℕ) → i < length ts → t ≡ get_or ts i t → is_fault r inside last t ≡ false → out_of_range r inside last (drop i ts) ≡ total
      → out_of_range r (inside_after r inside t.class) t.class (drop (i + 1) ts) ≡ total
  fault_later t total lt e f so_far = sym (at_place t lt e ∙ cond-false (is_fault r inside last t) _ _ f) ∙ so_far

  pub no_fault : (total : Option ℕ) → length ts ≤ i → out_of_range r inside last (drop i ts) ≡ total → None ≡ total
  unfolding out_of_range
  no_fault total le so_far = sym (ap (out_of_range r inside last) (drop_all i ts le)) ∙ so_far

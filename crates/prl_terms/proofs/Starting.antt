-- The marks before any rule.
use Rattle.prl_base.proofs.Standard.{◌≡◌, ◌<◌, ◌+◌, ◌++◌, ◌∙◌, ℕ, List, [], ◌∷◌, length, length-append, get_or, arith, refl, sym, ap, inl, inr, get_or-append}
use Rattle.prl_base.proofs.Standard.{get_or-eq_default, get_or-append_seam, cases_lt, eqb_tells}
use Rattle.prl_terms.specs.Vocabulary.{Term, type_in, mark_of, members_at, Solves, IsSettled}
use Rattle.prl_terms.specs.declared.terms.Term.TheVariants as terms

pub record AreSingle (marks : List Term) (lists : List (List ℕ)) (count : ℕ) : Type 0 where
  pub marks_count : length marks ≡ count
  pub lists_count : length lists ≡ count
  pub own : (k : ℕ) → mark_of marks k ≡ terms.Parameter k
  pub single : (k : ℕ) → k < count → members_at lists k ≡ k ∷ []

pub get_push_here : {X : Type 0} (xs : List X) (x d : X) (k : ℕ) → k ≡ length xs → get_or (xs ++ x ∷ []) k d ≡ x
get_push_here xs x d k e = rw e (get_or-append_seam xs x [] d)

own_push : (marks : List Term) (n : ℕ) → length marks ≡ n → ((k : ℕ) → mark_of marks k ≡ terms.Parameter k) → (k : ℕ) → mark_of (marks ++ terms.Parameter n ∷ []) k ≡ terms.Parameter k
own_push marks n count own k = elim (cases_lt k n) [
  | inl lt ↦ get_or-append marks (terms.Parameter n ∷ []) (terms.Parameter k) k (omega arith) ∙ own k
  | inr past ↦ elim (eqb_tells k n) [
    | inl e ↦ get_push_here marks (terms.Parameter n) (terms.Parameter k) k (e.1 ∙ sym count) ∙ ap (λ j. terms.Parameter j) (sym e.1)
    | inr ne ↦ let far : n < k = (let other : k ≡ n → ⊥ = ne.1 in omega arith) in
        let long : length (marks ++ terms.Parameter n ∷ []) ≡ length marks + 1 = length-append marks (terms.Parameter n ∷ []) in
        get_or-eq_default (marks ++ terms.Parameter n ∷ []) (terms.Parameter k) (omega arith)
  ]
]

single_push : (lists : List (List ℕ)) (n : ℕ) → length lists ≡ n → ((k : ℕ) → k < n → members_at lists k ≡ k ∷ []) → (k : ℕ) → k < n + 1 → members_at (lists ++ (n ∷ []) ∷ []) k ≡ k ∷ []
single_push lists n count single k lt = elim (cases_lt k n) [
  | inl below ↦ get_or-append lists ((n ∷ []) ∷ []) [] k (omega arith) ∙ single k below
  | inr past ↦ let e : k ≡ n = omega arith in get_push_here lists (n ∷ []) [] k (e ∙ sym count) ∙ ap (λ j. j ∷ []) (sym e)
]

-- one parameter more
pub single_next : (marks : List Term) (lists : List (List ℕ)) (n : ℕ) → AreSingle marks lists n → AreSingle (marks ++ terms.Parameter n ∷ []) (lists ++ (n ∷ []) ∷ []) (n + 1)
single_next marks lists n h = record {
  marks_count = length-append marks (terms.Parameter n ∷ []) ∙ ap (λ k. k + 1) h.marks_count;
  lists_count = length-append lists ((n ∷ []) ∷ []) ∙ ap (λ k. k + 1) h.lists_count;
  own = own_push marks n h.marks_count h.own;
  single = single_push lists n h.lists_count h.single;
}

pub single_none : AreSingle [] [] 0
single_none = record { marks_count = refl; lists_count = refl; own = λ k. refl; single = λ k lt. absurd (omega arith) }

same_parameter : (marks : List Term) → ((k : ℕ) → mark_of marks k ≡ terms.Parameter k) → (k a : ℕ) → mark_of marks k ≡ terms.Parameter a → k ≡ a
same_parameter marks own k a e = let f : terms.Parameter k ≡ terms.Parameter a = sym (own k) ∙ e in cc

pub single_settled : {marks : List Term} {lists : List (List ℕ)} {count : ℕ} → AreSingle marks lists count → IsSettled marks
single_settled {marks} {lists} {count} h = record {
  own = λ k a e. h.own a;
  within = λ k a lt e. let same : k ≡ a = same_parameter marks h.own k a e in omega arith;
}

pub single_solves : {marks : List Term} {lists : List (List ℕ)} {count : ℕ} → AreSingle marks lists count → Solves [] marks
single_solves {marks} {lists} {count} h = record {
  follows = λ c m. record { at = λ k. sym (ap (type_in c) (h.own k)) };
  meets = λ c f. tt;
}

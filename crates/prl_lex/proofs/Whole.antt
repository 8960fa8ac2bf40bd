-- Whole texts: they are read exactly where they are texts of the grammar, and else the first unexpected token is found.
use Rattle.prl_base.proofs.Standard.{◌≡◌, ◌<◌, ◌≤◌, ℕ, List, [], ◌∷◌, ◌++◌, length, Result, Ok, Err, Some, None, refl, sym, ap, ◌∙◌, subst, ⊎_elim, arith, append_assoc, length-append, cases_lt}
use Rattle.prl_base.proofs.Standard.{append-nil}
use Rattle.prl_base.specs.Reading.{◌>>=◌}
use Rattle.prl_lex.specs.Vocabulary.{Lexeme, next_class, IsFirstUnexpected, Stuck, Deep, Read, ended, all_at}
use Rattle.prl_lex.specs.code.Readers.{Stop}
use Rattle.prl_lex.specs.code.Reads.{Shape}
use Rattle.prl_lex.proofs.Answers.{Told}
use Rattle.prl_lex.proofs.Continuing.{pair}
use Rattle.prl_lex.proofs.Nesting.{Reads}

-- what is so of a list of tokens
abbrev pub IsAnswer : {A : Type 0} → (A → List Lexeme → Type 0) → List Lexeme → Result A Stop → Type 0
IsAnswer W ts (Ok a) = W a ts
IsAnswer W ts (Err (Stuck left)) = IsFirstUnexpected W ts left
IsAnswer W ts (Err Deep) = ⊥

-- the longer of two beginnings is the shorter one, the token after it, and others
cut_after : (one two rest other : List Lexeme) → one ++ rest ≡ two ++ other → length one < length two → (t : Lexeme) × (ts : List Lexeme) × (two ≡ one ++ t ∷ ts) × (next_class rest ≡ Some t.class)
cut_after one [] rest other e lt = absurd (omega arith)
cut_after [] (t ∷ two) rest other e lt = (t, two, refl, ap next_class e)
cut_after (u ∷ one) (t ∷ two) rest other e lt =
    let head : u ≡ t = cc in
    let tail : one ++ rest ≡ two ++ other = cc in
    let c = cut_after one two rest other tail (omega (arith, lt)) in
    (c.0, c.1, ap (λ x. x ∷ two) (sym head) ∙ ap (λ xs. u ∷ xs) c.2, c.3)

not_later : {A : Type 0} (W : A → List Lexeme → Type 0) (ts : List Lexeme) (j k : ℕ) (a : IsFirstUnexpected W ts j) (b : IsFirstUnexpected W ts k) → length b.taken ≤ length a.taken
not_later W ts j k a b = ⊎_elim
    (λ lt.
    let c = cut_after a.taken b.taken a.rest b.rest (sym a.whole ∙ b.whole) lt in
    let more : List Lexeme = b.begun.1 in
    let P : List Lexeme → Type 0 = W b.begun.0 in
    absurd (a.no_text b.begun.0 (c.0 ∷ (c.1 ++ more)) c.3 (subst P (ap (λ u. u ++ more) c.2 ∙ append_assoc a.taken (c.0 ∷ c.1) more) b.begun.2)))
    (λ le. le)
    (cases_lt (length a.taken) (length b.taken))

-- there is one first unexpected token
one_unexpected : {A : Type 0} (W : A → List Lexeme → Type 0) (ts : List Lexeme) (j k : ℕ) → IsFirstUnexpected W ts j → IsFirstUnexpected W ts k → j ≡ k
one_unexpected W ts j k a b =
    let one = not_later W ts j k a b in
    let two = not_later W ts k j b a in
    omega (arith, one, two, a.count, b.count, ap length a.whole, ap length b.whole, length-append a.taken a.rest, length-append b.taken b.rest)

same_rest : {A : Type 0} (a b : A) (rest other : List Lexeme) (r : Read A) → r ≡ Ok (a, rest) → r ≡ Ok (b, other) → rest ≡ other
same_rest a b rest other r e d = let same : pair a rest ≡ pair b other = cc in ap (λ x. x.1) same

module _ {A : Type 0} (W : A → List Lexeme → Type 0) (s : Shape) (p : List Lexeme → Read A) (reads : Reads W s p) where
  -- a text of the grammar is read to its end
  read_whole : (a : A) (ts : List Lexeme) → W a ts → p ts ≡ Ok (a, [])
  read_whole a ts h = ap p (sym (append-nil ts)) ∙ reads.complete a ts [] h tt

  of_reader : (ts : List Lexeme) (r : Read A) → p ts ≡ r → Told ⊥ W ts r → IsAnswer W ts (r >>= λ x. ended x.0 x.1)
  of_reader ts (Ok (a, [])) e t = let P : List Lexeme → Type 0 = W a in subst P (sym (t.whole ∙ append-nil t.text)) t.written
  of_reader ts (Ok (a, u ∷ rest)) e t = record {
    taken = t.text;
    rest = u ∷ rest;
    whole = t.whole;
    count = refl;
    begun = (a, [], (let P : List Lexeme → Type 0 = W a in subst P (sym (append-nil t.text)) t.written));
    no_text = λ b other n w.
        let here : p (t.text ++ other) ≡ Ok (a, other) = reads.continues t.text (u ∷ rest) other (Some a) n (sym (ap p t.whole) ∙ e) in
        let none : other ≡ [] = same_rest a b other [] _ here (read_whole b (t.text ++ other) w) in
        let nothing : Some u.class ≡ None = n ∙ ap next_class none in
        cc;
  }
  of_reader ts (Err (Stuck left)) e c = record {
    taken = c.taken;
    rest = c.rest;
    whole = c.whole;
    count = c.count;
    begun = (c.tree, c.more, c.completed);
    no_text = λ b other n w.
        let here = reads.continues c.taken c.rest other None n (sym (ap p c.whole) ∙ e ∙ ap (λ k. Err (Stuck k)) c.count) in
        let whole = read_whole b (c.taken ++ other) w in
        cc;
  }
  of_reader ts (Err Deep) e d = d

  -- what is answered is so
  pub all_so : (ts : List Lexeme) → IsAnswer W ts (all_at p ts)
  all_so ts = of_reader ts (p ts) refl (reads.told ts)

  -- and what is so is answered
  pub so_all : (ts : List Lexeme) (r : Result A Stop) → IsAnswer W ts r → all_at p ts ≡ r
  so_all ts (Ok a) h = ap (λ r. r >>= λ x. ended x.0 x.1) (read_whole a ts h)
  so_all ts (Err (Stuck left)) h = go (all_at p ts) (all_so ts)
    where
      go : (r : Result A Stop) → IsAnswer W ts r → r ≡ Err (Stuck left)
      go (Ok a) k = let P : List Lexeme → Type 0 = W a in absurd (h.no_text a h.rest refl (subst P h.whole k))
      go (Err (Stuck j)) k = ap (λ n. Err (Stuck n)) (one_unexpected W ts j left k h)
      go (Err Deep) k = absurd k
  so_all ts (Err Deep) h = absurd h

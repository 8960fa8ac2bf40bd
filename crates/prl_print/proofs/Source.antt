-- The tokens of a text are within its limits, and what holds of the trees of a grammar's texts for that.
use Rattle.prl_base.proofs.Standard.{◌≡◌, ◌==◌, ◌≤◌, ◌+◌, ◌-◌, ◌&&◌, ℕ, zero, suc, Bool, true, false, cond, not, leb, codes, List, [], ◌∷◌, length, take, drop, Option, Some, None, Result, Ok, Err}
use Rattle.prl_base.proofs.Standard.{refl, sym, ap, ◌∙◌, subst, ⊎_elim, arith, ◌++◌, append_assoc, cond-false, cond_both, and_parts, leb-true, cases_Bool, nat_tests, drop-drop, length-take-le}
use Rattle.prl_base.proofs.Standard.{bytes_eq-Decides, list_all, AllByRecursion, bytes_eq}
use Rattle.prl_base.specs.Vocabulary.{is_word, IsName, ◌>>=◌}
use Rattle.prl_lex.specs.Vocabulary.{kind_of, piece_of, FitsPiece, token_text, token_at, depth_after, checked, with_piece, tokens_from}
use Rattle.prl_lex.specs.declared.tokens.Kind.TheVariants.{Word, Number, Symbol}
use Rattle.prl_lex.specs.declared.pieces.Piece.{Piece}
use Rattle.prl_lex.specs.declared.tokens.Kind.{Kind}
use Rattle.prl_lex.specs.declared.tokens.LexFault.{LexFault}
use Rattle.prl_lex.specs.declared.tokens.Token.{Token}
use Rattle.prl_lex.specs.declared.pieces.Piece.TheVariants as pieces
use Rattle.prl_lex.proofs.Fits.{piece_of_fits}
use Rattle.prl_ast.specs.InRange.{IfThere, IsCount}
use Rattle.prl_lex.specs.Vocabulary.{Lexeme, class_in, symbol_class, word_lexeme, kind_lexeme, lexeme_of, lexemes_of, inside_after, is_fault, out_of_range, ◌⊳◌, ◌⊲◌, maybe, list_of, place, named}
use Rattle.prl_lex.specs.Vocabulary.{number, token, give, action, both, either, many, placed, written}
use Rattle.prl_syntax.specs.Vocabulary.{keyword_of, symbol_of, program_vocabulary, program_ranges, is_count, Grammar, in_parens, maybe_in_parens, StemTree, small}
use Rattle.prl_syntax.specs.declared.words.TheConstants.{KEYWORDS, SYMBOLS}
use Rattle.prl_print.proofs.Own.{IsOwnName}

-- the open parentheses after a token of the class
abbrev pub deeper : ℕ → ℕ → ℕ
deeper d class = cond (class == 19) (d + 1) (cond (class == 20) (d - 1) d)

-- the tokens, in a rate or not, after a token of the class and so many open parentheses, are in range, and within the limits of names and depth
abbrev pub Fine : Bool → ℕ → ℕ → List Lexeme → Type 0
Fine inside last d [] = d ≤ 64
Fine inside last d (t ∷ ts) = (d ≤ 64) × (is_fault program_ranges inside last t ≡ false) × (t.class ≡ 0 → IsOwnName t.name) × Fine (inside_after program_ranges inside t.class) t.class (deeper d t.class) ts

-- the classes that are neither a parenthesis nor a name
abbrev is_flat : ℕ → Bool
is_flat class = not (class == 19) && (not (class == 20) && not (class == 0))

table_flat : {Row : Type 0} (text : Row → List ℕ) (class : Row → ℕ) (rows : List Row) (p : List ℕ) → list_all (λ row. is_flat (class row)) rows ≡ true → is_flat (symbol_class (class_in text class rows p)) ≡ true
table_flat text class [] p h = refl
table_flat text class (row ∷ rows) p h =
    let parts = and_parts (is_flat (class row)) _ h in
    cond_both (bytes_eq p (text row)) (Some (class row)) (class_in text class rows p) (λ o. is_flat (symbol_class o) ≡ true) (λ same. parts.0) (λ other. table_flat text class rows p parts.1)

-- what a token does to the depth, and the name that it is
abbrev Own : ℕ → ℕ → Lexeme → Type 0
Own d deep k = (deeper d k.class ≡ deep) × (k.class ≡ 0 → IsOwnName k.name)

flat_own : (d : ℕ) (k : Lexeme) → is_flat k.class ≡ true → Own d d k
flat_own d k h = (grind (arith, nat_tests), λ e. grind (arith, nat_tests))

word_own : (d : ℕ) (p : List ℕ) (t : Token) (o : Option ℕ) → IsName p → keyword_of p ≡ o → Own d d (word_lexeme o p t.span)
word_own d p t None name key = (refl, λ e. (name, key))
word_own d p t (Some class) name key = flat_own d (word_lexeme (Some class) p t.span) (ap (λ o. is_flat (symbol_class o)) (sym key) ∙ table_flat (λ row. row.0.now) (λ row. row.1) KEYWORDS p refl)

-- either parenthesis, or other bytes
by_parenthesis : (P : List ℕ → Type 0) (p : List ℕ) → P (codes "(") → P (codes ")") → (bytes_eq p (codes "(") ≡ false → bytes_eq p (codes ")") ≡ false → P p) → P p
by_parenthesis P p a b c = ⊎_elim (λ e. subst P (sym ((bytes_eq-Decides p (codes "(")).0 e)) a)
    (λ n. ⊎_elim (λ e. subst P (sym ((bytes_eq-Decides p (codes ")")).0 e)) b) (λ m. c n m) (cases_Bool (bytes_eq p (codes ")"))))
    (cases_Bool (bytes_eq p (codes "(")))

same_depth : (depth : ℕ) (p : List ℕ) → bytes_eq p (codes "(") ≡ false → bytes_eq p (codes ")") ≡ false → depth_after depth p ≡ depth
same_depth depth [] n m = refl
same_depth depth (a ∷ []) n m = grind (arith, nat_tests)
same_depth depth (a ∷ b ∷ p) n m = refl

-- a token that is no symbol
flat_depth : (depth : ℕ) (p : List ℕ) → (kind_of p ≡ Symbol → ⊥) → depth_after depth p ≡ depth
flat_depth depth p = by_parenthesis (λ q. (kind_of q ≡ Symbol → ⊥) → depth_after depth q ≡ depth) p (λ h. absurd (h refl)) (λ h. absurd (h refl)) (λ n m h. same_depth depth p n m)

symbol_own : (depth : ℕ) (p : List ℕ) (k : Lexeme) → k.class ≡ symbol_class (symbol_of p) → Own depth (depth_after depth p) k
symbol_own depth p k = by_parenthesis (λ q. k.class ≡ symbol_class (symbol_of q) → Own depth (depth_after depth q) k) p (λ e. (ap (deeper depth) e, λ h. cc (e, h))) (λ e. (ap (deeper depth) e, λ h. cc (e, h)))
    (λ n m e.
    let front : class_in (λ row. row.0.now) (λ row. row.1) (drop 2 SYMBOLS) p ≡ symbol_of p = sym (cond-false (bytes_eq p (codes "(")) _ _ n ∙ cond-false (bytes_eq p (codes ")")) _ _ m) in
    subst (λ d. Own depth d k) (sym (same_depth depth p n m))
    (flat_own depth k (ap is_flat e ∙ ap (λ o. is_flat (symbol_class o)) (sym front) ∙ table_flat (λ row. row.0.now) (λ row. row.1) (drop 2 SYMBOLS) p refl)))

guard : {A E : Type 0} (b : Bool) (x y : A) (e : E) → cond b (Ok x) (Err e) ≡ Ok y → (b ≡ true) × (x ≡ y)
guard b x y e h = grind arith

-- a token at the place in a text, which leaves the depth so
abbrev Owned : List ℕ → ℕ → ℕ → ℕ → List ℕ → Token → Type 0
Owned text at depth deep p t = (token_text text t ≡ take (length p) (drop at text)) × (deep ≤ 64) × Own depth deep (kind_lexeme program_vocabulary t.kind p t)

owned : (text : List ℕ) (at depth : ℕ) (kind : Kind) (p : List ℕ) (t : Token) → depth ≤ 64 → kind ≡ kind_of p → checked at (depth_after depth p) kind p ≡ Ok t → Owned text at depth (depth_after depth p) p t
owned text at depth Number p t le k e =
    let flat = flat_depth depth p (λ s. cc (k, s)) in
    subst (Owned text at depth (depth_after depth p) p) (guard _ (token_at at Number p) t _ e).1 (subst (λ d. Owned text at depth d p (token_at at Number p)) (sym flat) (refl, le, (refl, λ h. cc)))
owned text at depth Word p t le k e =
    let is = guard (leb (length p) 64) (token_at at Word p) t _ e in
    let flat = flat_depth depth p (λ s. cc (k, s)) in
    let word : is_word p ≡ true = grind arith in
    let own = word_own depth p (token_at at Word p) (keyword_of p) (word, leb-true (length p) 64 is.0) refl in
    subst (Owned text at depth (depth_after depth p) p) is.1 (subst (λ d. Owned text at depth d p (token_at at Word p)) (sym flat) (refl, le, own))
owned text at depth Symbol p t le k e =
    let is = guard (leb (depth_after depth p) 64) (token_at at Symbol p) t _ e in
    subst (Owned text at depth (depth_after depth p) p) is.1 (refl, leb-true (depth_after depth p) 64 is.0, symbol_own depth p (kind_lexeme program_vocabulary Symbol p (token_at at Symbol p)) refl)

ok_bind : {A B : Type 0} (r : Result A LexFault) (f : A → Result B LexFault) (y : B) → (r >>= f) ≡ Ok y → (x : A) × (r ≡ Ok x) × (f x ≡ Ok y)
ok_bind (Ok x) f y e = (x, refl, e)
ok_bind (Err fault) f y e = cc

in_range_too : (b : Bool) (at : ℕ) (o : Option ℕ) → cond b (Some at) o ≡ None → (b ≡ false) × (o ≡ None)
in_range_too b at o e = grind arith

-- in range, in a rate or not, and after a token of the class
abbrev AreFine : List ℕ → ℕ → List Token → Type 0
AreFine text depth ts = (inside : Bool) (last : ℕ) → out_of_range program_ranges inside last (lexemes_of program_vocabulary text ts) ≡ None → Fine inside last depth (lexemes_of program_vocabulary text ts)

piece_fine : (text rest : List ℕ) (at depth : ℕ) (piece : Piece) (read : ℕ → ℕ → Result (List Token) LexFault) (ts : List Token) → rest ≡ drop at text → FitsPiece rest piece → depth ≤ 64
    → ((deep past : ℕ) (others : List Token) → deep ≤ 64 → read deep past ≡ Ok others → AreFine text deep others) → with_piece at depth rest piece read ≡ Ok ts → AreFine text depth ts
unfolding out_of_range
piece_fine text rest at depth pieces.Bad read ts e fits high rec h = cc
piece_fine text rest at depth (pieces.Gap n) read ts e fits high rec h = rec depth (n - 1) ts high h
piece_fine text rest at depth (pieces.Token kind n) read ts e fits high rec h =
    let p : List ℕ = take n rest in
    let deep : ℕ = depth_after depth p in
    let first = ok_bind (checked at deep kind p) (λ t. read deep (n - 1) >>= λ others. Ok (t ∷ others)) ts h in
    let t : Token = first.0 in
    let later = ok_bind (read deep (n - 1)) (λ others. Ok (t ∷ others)) ts first.2 in
    let seen : List Lexeme = lexemes_of program_vocabulary text later.0 in
    let is = owned text at depth kind p t high fits.2 first.1 in
    let bytes : token_text text t ≡ p = is.0 ∙ ap (λ i. take i (drop at text)) (length-take-le n rest fits.1) ∙ ap (take n) (sym e) in
    let own : Own depth deep (lexeme_of program_vocabulary text t) = subst (λ b. Own depth deep (kind_lexeme program_vocabulary t.kind b t)) (sym bytes) is.2 in
    let all : t ∷ later.0 ≡ ts = cc later.2 in
    subst (AreFine text depth) all (λ inside last none.
    let k : Lexeme = lexeme_of program_vocabulary text t in
    let next : Bool = inside_after program_ranges inside k.class in
    let ranges = in_range_too (is_fault program_ranges inside last k) k.at.at (out_of_range program_ranges next k.class seen) none in
    (high, ranges.0, own.1, subst (λ d. Fine next k.class d seen) (sym own.0) (rec deep (n - 1) later.0 is.1 later.1 next k.class ranges.1)))

pub fine : (text rest : List ℕ) (at depth past : ℕ) (ts : List Token) → rest ≡ drop at text → depth ≤ 64 → tokens_from at depth past rest ≡ Ok ts → AreFine text depth ts
unfolding tokens_from
fine text [] at depth past ts e high h = let same : [] ≡ ts = cc in subst (AreFine text depth) same (λ inside last r. high)
fine text (b ∷ bs) at depth (suc past) ts e high h = fine text bs (at + 1) depth past ts (ap (drop 1) e ∙ drop-drop 1 at text) high h
fine text (b ∷ bs) at depth zero ts e high h =
    piece_fine text (b ∷ bs) at depth (piece_of (b ∷ bs)) (λ deep past. tokens_from (at + 1) deep past bs) ts e (piece_of_fits (b ∷ bs)) high
    (λ deep past others high. fine text bs (at + 1) deep past others (ap (drop 1) e ∙ drop-drop 1 at text) high) h

fine_depth : (inside : Bool) (last d : ℕ) (w : List Lexeme) → Fine inside last d w → d ≤ 64
fine_depth inside last d [] h = h
fine_depth inside last d (t ∷ ts) h = h.0

fine_split : (inside : Bool) (last d : ℕ) (w u v rest : List Lexeme) → w ≡ u ++ v → Fine inside last d (w ++ rest) → Fine inside last d (u ++ (v ++ rest))
fine_split inside last d w u v rest e = subst (Fine inside last d) (ap (λ y. y ++ rest) e ∙ append_assoc u v rest)

-- The trees of the grammar's texts, with such tokens, are such as P says. What K says is known of what stands before them, and d open
-- parentheses; J and e are what is known after them.
pub record Sure (I : StemTree → List Lexeme → Type 0) (K : Bool → ℕ → Type 0) (d : ℕ) (J : Bool → ℕ → Type 0) (e : ℕ) {A : Type 0} (g : Grammar A) (P : A → Type 0) : Type 0 where
  pub sure : (i : Bool) (c : ℕ) (a : A) (w rest : List Lexeme) → K i c → Fine i c d (w ++ rest) → written I g a w → P a × (j : Bool) × (b : ℕ) × J j b × Fine j b e rest

-- anything may come next, or a count
abbrev pub Any : Bool → ℕ → Type 0
Any i c = Unit {0}

abbrev pub Counting : Bool → ℕ → Type 0
Counting i c = is_count i c ≡ true

module _ {I : StemTree → List Lexeme → Type 0} where
  pub s_action : {A B : Type 0} {g : Grammar A} {f : A → B} {P : A → Type 0} {Q : B → Type 0} {K J : Bool → ℕ → Type 0} {d e : ℕ} → Sure I K d J e g P → ((a : A) → P a → Q (f a)) → Sure I K d J e (action g f) Q
  s_action {Q = Q} one h = record { sure = λ i c b w rest known fine x. (let y = one.sure i c x.0 w rest known fine x.2 in (subst Q (sym x.1) (h x.0 y.0), y.1, y.2, y.3, y.4)) }

  pub s_both : {A B : Type 0} {g : Grammar A} {h : Grammar B} {P : A → Type 0} {Q : B → Type 0} {K L J : Bool → ℕ → Type 0} {d k e : ℕ}
      → Sure I K d L k g P → Sure I L k J e h Q → Sure I K d J e (both g h) (λ x. P x.0 × Q x.1)
  s_both {d = d} one two = record {
    sure = λ i c x w rest known fine y.
        let a = one.sure i c x.0 y.0 (y.1 ++ rest) known (fine_split i c d w y.0 y.1 rest y.2 fine) y.3 in
        let b = two.sure a.1 a.2 x.1 y.1 rest a.3 a.4 y.4 in
        ((a.0, b.0), b.1, b.2, b.3, b.4);
  }

  -- what is made of a token
  s_token : {A : Type 0} {f : Lexeme → A} {P : A → Type 0} {K J : Bool → ℕ → Type 0} {d class : ℕ} → ((i : Bool) (c : ℕ) → K i c → J (inside_after program_ranges i class) class)
      → ((i : Bool) (c : ℕ) (t : Lexeme) → K i c → t.class ≡ class → is_fault program_ranges i c t ≡ false → (t.class ≡ 0 → IsOwnName t.name) → P (f t)) → Sure I K d J (deeper d class) (action (token class) f) P
  s_token {f = f} {P = P} {d = d} {class = class} next h = record {
    sure = λ i c b w rest known fine x.
        let t = x.0 in
        let g = subst (Fine i c d) (ap (λ y. y ++ rest) x.2.whole) fine in
        let later = subst (λ k. Fine (inside_after program_ranges i k) k (deeper d k) rest) x.2.is g.3 in
        (subst P (sym x.1) (h i c t known x.2.is g.1 g.2), inside_after program_ranges i class, class, next i c known, later);
  }

  pub s_either : {A : Type 0} {g h : Grammar A} {P : A → Type 0} {K J : Bool → ℕ → Type 0} {d e : ℕ} → Sure I K d J e g P → Sure I K d J e h P → Sure I K d J e (either g h) P
  s_either one two = record { sure = λ i c a w rest known fine. ⊎_elim (one.sure i c a w rest known fine) (two.sure i c a w rest known fine) }

  pub s_give : {A : Type 0} {x : A} {P : A → Type 0} {K : Bool → ℕ → Type 0} {d : ℕ} → P x → Sure I K d K d (give x) P
  s_give {P = P} {d = d} h = record { sure = λ i c a w rest known fine y. (subst P (sym y.is) h, i, c, known, subst (λ u. Fine i c d (u ++ rest)) y.whole fine) }

  pub s_many : {A : Type 0} {g : Grammar A} {P : A → Type 0} {K : Bool → ℕ → Type 0} {d : ℕ} → Sure I K d K d g P → Sure I K d K d (many g) (AllByRecursion P)
  s_many {A} {g} {P} {K} {d} one = record { sure = all }
    where
      all : (i : Bool) (c : ℕ) (xs : List A) (w rest : List Lexeme) → K i c → Fine i c d (w ++ rest) → written I (many g) xs w → AllByRecursion P xs × (j : Bool) × (b : ℕ) × K j b × Fine j b d rest
      all i c [] w rest known fine e = (tt, i, c, known, subst (λ u. Fine i c d (u ++ rest)) e fine)
      all i c (x ∷ xs) w rest known fine y =
          let a = one.sure i c x y.0 (y.1 ++ rest) known (fine_split i c d w y.0 y.1 rest y.2 fine) y.3 in
          let b = all a.1 a.2 xs y.1 rest a.3 a.4 y.4 in
          ((a.0, b.0), b.1, b.2, b.3, b.4)

  pub s_placed : {A : Type 0} {g : Grammar A} {P : A → Type 0} {K J : Bool → ℕ → Type 0} {d e : ℕ} → Sure I K d J e g P → Sure I K d J e (placed g) (λ x. P x.1)
  s_placed one = record { sure = λ i c x w rest known fine y. one.sure i c x.1 w rest known fine y.1 }

  -- with the depth, which is within its limit
  pub s_deep : {A : Type 0} {g : Grammar A} {P : A → Type 0} {K J : Bool → ℕ → Type 0} {d e : ℕ} → Sure I K d J e g P → Sure I K d J e g (λ a. (d ≤ 64) × P a)
  s_deep {d = d} one = record { sure = λ i c a w rest known fine y. (let x = one.sure i c a w rest known fine y in ((fine_depth i c d (w ++ rest) fine, x.0), x.1, x.2, x.3, x.4)) }

  pub s_at : {K J : Bool → ℕ → Type 0} {d class : ℕ} → ((i : Bool) (c : ℕ) → K i c → J (inside_after program_ranges i class) class) → Sure I K d J (deeper d class) (place class) (λ p. Unit {0})
  s_at next = s_token next (λ i c t known is fits name. tt)

  pub s_place : {K : Bool → ℕ → Type 0} {d class : ℕ} → Sure I K d Any (deeper d class) (place class) (λ p. Unit {0})
  s_place = s_at (λ i c known. tt)

  pub s_close : {K : Bool → ℕ → Type 0} {d : ℕ} → Sure I K (d + 1) Any d (place 20) (λ p. Unit {0})
  s_close {K} {d} = subst (λ k. Sure I K (d + 1) Any k (place 20) (λ p. Unit {0})) (omega arith) s_place

  pub s_named : {K : Bool → ℕ → Type 0} {d : ℕ} → Sure I K d Any d named (λ n. IsOwnName n.0)
  s_named = s_token (λ i c known. tt) (λ i c t known is fits name. name is)

  pub s_number : {K : Bool → ℕ → Type 0} {d : ℕ} → Sure I K d Any d number (λ n. Unit {0})
  s_number = s_token (λ i c known. tt) (λ i c t known is fits name. tt)

  pub s_count : {d : ℕ} → Sure I Counting d Any d number (λ n. IsCount (small n))
  s_count = s_token (λ i c known. tt) (λ i c t known is fits name. (let low : 1 ≤ t.number = grind (arith, nat_tests) in (omega (arith, low), omega arith)))

  pub s_second : {A S : Type 0} {s : Grammar S} {g : Grammar A} {T : S → Type 0} {P : A → Type 0} {K L J : Bool → ℕ → Type 0} {d k e : ℕ} → Sure I K d L k s T → Sure I L k J e g P → Sure I K d J e (s ⊳ g) P
  s_second one two = s_action (s_both one two) (λ x h. h.1)

  pub s_first : {A S : Type 0} {s : Grammar S} {g : Grammar A} {T : S → Type 0} {P : A → Type 0} {K L J : Bool → ℕ → Type 0} {d k e : ℕ} → Sure I K d L k g P → Sure I L k J e s T → Sure I K d J e (g ⊲ s) P
  s_first one two = s_action (s_both one two) (λ x h. h.0)

  pub s_maybe : {A : Type 0} {g : Grammar A} {P : A → Type 0} {K : Bool → ℕ → Type 0} {d : ℕ} → Sure I K d K d g P → Sure I K d K d (maybe g) (IfThere P)
  s_maybe one = s_either (s_action one (λ a h. h)) (s_give tt)

  pub s_list : {A B S : Type 0} {s : Grammar S} {g : Grammar A} {f : List A → B} {T : S → Type 0} {P : A → Type 0} {Q : B → Type 0} {d : ℕ}
      → Sure I Any d Any d s T → Sure I Any d Any d g P → ((x : A) (xs : List A) → P x → AllByRecursion P xs → Q (f (x ∷ xs))) → Sure I Any d Any d (action (list_of s g) f) Q
  s_list {f = f} {Q = Q} between one h = s_action {P = λ xs. Q (f xs)} (s_action (s_both one (s_many (s_second between one))) (λ x y. h x.0 x.1 y.0 y.1)) (λ xs y. y)

  pub s_parens : {A : Type 0} {g : Grammar A} {P : A → Type 0} {d : ℕ} → Sure I Any (d + 1) Any (d + 1) g P → Sure I Any d Any d (in_parens g) P
  s_parens one = s_second s_place (s_first one s_close)

  -- in parentheses, which may stand alone
  pub s_perhaps : {A : Type 0} {g : Grammar A} {P Q : A → Type 0} {d : ℕ} {x : A} → Q x → ((a : A) → P a → Q a) → Sure I Any (d + 1) Any (d + 1) g P → Sure I Any d Any d (maybe_in_parens x g) (λ a. (d + 1 ≤ 64) × Q a)
  s_perhaps h f one = s_second s_place (s_deep (s_either (s_action s_close (λ p _. h)) (s_action (s_both one s_close) (λ a y. f a.0 y.0))))

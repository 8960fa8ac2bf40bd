-- Parts of a printed text, which are texts of the grammar wherever they stand in it.
use Rattle.prl_base.proofs.Standard.{◌≡◌, ◌==◌, ◌<◌, ◌≤◌, ◌+◌, ◌^◌, ◌&&◌, ℕ, Bool, true, false, leb, not, codes, decimal, List, [], ◌∷◌, ◌++◌, map, length, drop, Some, refl, sym, ap, ◌∙◌, subst, inl}
use Rattle.prl_base.proofs.Standard.{inr, arith, append_assoc, length-append, cond-true, and_from, le-leb, or_parts, nat_tests, decimal_is_IsNumeral, append-nil, drop-drop, flat_map-map}
use Rattle.prl_base.proofs.Standard.{drop-append_seam, is_ascii_digit, flat_map, AllByRecursion}
use Rattle.prl_base.specs.Names.{is_word}
use Rattle.prl_base.specs.declared.decimals.TheConstants.{MAX_NEGATIVE}
use Rattle.prl_lex.specs.Vocabulary.{is_blank, is_one_byte_symbol, is_two_byte_symbol, depth_after}
use Rattle.prl_lex.specs.declared.tokens.Kind.{Kind}
use Rattle.prl_lex.specs.Vocabulary.{Lexeme, first_place, Text, word_lexeme, token, give, action, both, either, many, placed, inner, ◌⊳◌, ◌⊲◌, named, number}
use Rattle.prl_lex.proofs.Growing.{to_nested}
use Rattle.prl_syntax.specs.Vocabulary.{class_of, keyword_of, symbol_of, Grammar, the, programs, Stem, StemTree}
use Rattle.prl_syntax.specs.declared.words.Fixed.{Fixed}
use Rattle.prl_syntax.specs.declared.words.Fixed.TheVariants as fixed
use Rattle.prl_print.proofs.Tokens.{constant, part, loud, wordy, State, state, state_after, Scan, scan_loud, scan_blank, a_lexeme, IsToken, scan_token, word_token, digits_token, goes_on, symbol_token, one_byte}
use Rattle.prl_print.proofs.Own.{IsOwnName}
use Rattle.prl_print.specs.Printing.{separated}

-- the text at the place has these tokens, whatever follows it
abbrev Lexes : ℕ → State → State → List ℕ → List Lexeme → Type 0
Lexes at from to text w = (whole rest : List ℕ) (v : List Lexeme) → drop at whole ≡ text ++ rest → Scan to (at + length text) whole rest v → Scan from at whole (text ++ rest) (w ++ v)

none_lex : (at : ℕ) (s : State) → Lexes at s s [] []
none_lex at s whole rest v here scan = let P : ℕ → Type 0 = λ n. Scan s n whole rest v in let same : at + 0 ≡ at = omega arith in subst P same scan

both_lex : {at : ℕ} {s t u : State} (a c : List ℕ) (w x : List Lexeme) → Lexes at s t a w → Lexes (at + length a) t u c x → Lexes at s u (a ++ c) (w ++ x)
both_lex {at} {s} {u} a c w x one two whole rest v here scan =
    let there : drop at whole ≡ a ++ (c ++ rest) = here ∙ append_assoc a c rest in
    let past : drop (at + length a) whole ≡ c ++ rest = sym (drop-drop (length a) at whole) ∙ ap (drop (length a)) there ∙ drop-append_seam a (c ++ rest) in
    let len : at + length (a ++ c) ≡ at + length a + length c = omega (arith, length-append a c) in
    let P : ℕ → Type 0 = λ n. Scan u n whole rest v in
    let Q : List ℕ → Type 0 = λ text. Scan s at whole text ((w ++ x) ++ v) in
    let R : List Lexeme → Type 0 = λ ls. Scan s at whole (a ++ (c ++ rest)) ls in
    subst Q (sym (append_assoc a c rest)) (subst R (sym (append_assoc w x v)) (one whole (c ++ rest) (x ++ v) there (two whole rest v past (subst P len scan))))

pub record Printed (at : ℕ) {A : Type 0} (g : Grammar A) (E : A → Type 0) (from to : State) (text : List ℕ) : Type 0 where
  pub tree : A
  pub same : E tree
  pub words : List Lexeme
  pub is : Text programs g tree words
  pub lexes : Lexes at from to text words

-- The text is one of the grammar, of a tree such as E says, wherever it stands.
abbrev pub Prints : {A : Type 0} → Grammar A → (A → Type 0) → State → State → List ℕ → Type 0
Prints g E from to text = (at : ℕ) → Printed at g E from to text

module _ {A B : Type 0} {g : Grammar A} {h : Grammar B} {E : A → Type 0} {F : B → Type 0} where
  -- the same tokens, as another text of a grammar
  p_as : {s t : State} {a : List ℕ} (f : A → List Lexeme → B) → ((x : A) (w : List Lexeme) → E x → F (f x w)) → ((x : A) (w : List Lexeme) → Text programs g x w → Text programs h (f x w) w) → Prints g E s t a → Prints h F s t a
  p_as f same is one at = let x = one at in record { tree = f x.tree x.words; same = same x.tree x.words x.same; words = x.words; is = is x.tree x.words x.is; lexes = x.lexes }

  pub p_both : {s t u : State} {a c : List ℕ} → Prints g E s t a → Prints h F t u c → Prints (both g h) (λ x. E x.0 × F x.1) s u (a ++ c)
  p_both {a} {c} one two at =
      let x = one at in
      let y = two (at + length a) in
      record { tree = (x.tree, y.tree); same = (x.same, y.same); words = x.words ++ y.words; is = (x.words, y.words, refl, x.is, y.is); lexes = both_lex a c x.words y.words x.lexes y.lexes }

pub p_left : {A : Type 0} {g h : Grammar A} {E : A → Type 0} {s t : State} {a : List ℕ} → Prints g E s t a → Prints (either g h) E s t a
p_left one = p_as (λ x w. x) (λ x w e. e) (λ x w i. inl i) one

pub p_right : {A : Type 0} {g h : Grammar A} {E : A → Type 0} {s t : State} {a : List ℕ} → Prints h E s t a → Prints (either g h) E s t a
p_right one = p_as (λ x w. x) (λ x w e. e) (λ x w i. inr i) one

pub p_placed : {A : Type 0} {g : Grammar A} {E : A → Type 0} {s t : State} {a : List ℕ} → Prints g E s t a → Prints (placed g) (λ x. E x.1) s t a
p_placed one = p_as (λ x w. (first_place w, x)) (λ x w e. e) (λ x w i. (refl, i)) one

pub p_inner : {E : StemTree → Type 0} {s t : State} {a : List ℕ} → Prints Stem E s t a → Prints inner E s t a
unfolding programs
p_inner one = p_as (λ x w. x) (λ x w e. e) (to_nested programs) one

pub p_action : {A B : Type 0} {g : Grammar A} {f : A → B} {E : A → Type 0} {F : B → Type 0} {s t : State} {a : List ℕ} → Prints g E s t a → ((x : A) → E x → F (f x)) → Prints (action g f) F s t a
p_action {f} one h = p_as (λ x w. f x) (λ x w. h x) (λ x w i. (x, refl, i)) one

module _ {A B : Type 0} {g : Grammar A} {h : Grammar B} {E : A → Type 0} {F : B → Type 0} {s t u : State} {a c : List ℕ} where
  pub p_skip : Prints g E s t a → Prints h F t u c → Prints (g ⊳ h) F s u (a ++ c)
  p_skip one two = p_action (p_both one two) (λ x e. e.1)

  pub p_drop : Prints g E s t a → Prints h F t u c → Prints (g ⊲ h) E s u (a ++ c)
  p_drop one two = p_action (p_both one two) (λ x e. e.0)

pub p_give : {A : Type 0} {F : A → Type 0} {s : State} {x : A} → F x → Prints (give x) F s s []
p_give {s} {x} f at = record { tree = x; same = f; words = []; is = record { is = refl; whole = refl }; lexes = none_lex at s }

-- the bytes in another grouping
pub p_bytes : {A : Type 0} {g : Grammar A} {E : A → Type 0} {s t : State} {a c : List ℕ} → a ≡ c → Prints g E s t a → Prints g E s t c
p_bytes {g} {E} {s} {t} same one = let P : List ℕ → Type 0 = Prints g E s t in subst P same one

-- any number of texts
pub p_none : {A : Type 0} {g : Grammar A} {F : List A → Type 0} {s : State} → F [] → Prints (many g) F s s []
p_none {s} f at = record { tree = []; same = f; words = []; is = refl; lexes = none_lex at s }

pub p_cons : {A : Type 0} {g : Grammar A} {E : A → Type 0} {F G : List A → Type 0} {s t u : State} {a c : List ℕ} → ((x : A) (xs : List A) → E x → F xs → G (x ∷ xs)) → Prints g E s t a → Prints (many g) F t u c → Prints (many g) G s u (a ++ c)
p_cons h one others = p_as (λ x w. x.0 ∷ x.1) (λ x w e. h x.0 x.1 e.0 e.1) (λ x w i. i) (p_both one others)

module _ {A X : Type 0} (P : X → Type 0) (E : X → A → Type 0) (F : List X → List A → Type 0) (more : (x : X) (xs : List X) (a : A) (ys : List A) → E x a → F xs ys → F (x ∷ xs) (a ∷ ys)) where
  -- one for each of a list, and a rest
  pub p_rest : {g : Grammar A} {s t : State} {rest : List ℕ} (text : X → List ℕ) → ((x : X) → P x → Prints g (E x) s s (text x)) → (xs : List X) → AllByRecursion P xs → Prints (many g) (F []) s t rest → Prints (many g) (F xs) s t (flat_map text xs ++ rest)
  p_rest text each [] all end = end
  p_rest text each (x ∷ xs) all end = p_bytes (sym (append_assoc (text x) (flat_map text xs) _)) (p_cons (more x xs) (each x all.0) (p_rest text each xs all.1 end))

  -- one, and others with a text between
  pub p_row : {g h : Grammar A} {s t : State} (between : List ℕ) (text : X → List ℕ) → F [] [] → ((x : X) → P x → Prints g (E x) s t (text x)) → ((x : X) → P x → Prints h (E x) t t (between ++ text x)) → (x : X) (xs : List X) → AllByRecursion P (x ∷ xs)
      → Prints (both g (many h)) (λ r. F (x ∷ xs) (r.0 ∷ r.1)) s t (separated between (map text (x ∷ xs)))
  p_row between text nil first later x xs all =
      p_bytes (ap (λ t. text x ++ t) (append-nil _ ∙ sym (flat_map-map (λ other. between ++ other) text xs)))
      (p_as (λ r w. r) (λ r w e. more x xs r.0 r.1 e.0 e.1) (λ r w i. i) (p_both (first x all.0) (p_rest (λ x. between ++ text x) later xs all.1 (p_none nil))))

-- trees that mean the same
pub p_many : {A B X : Type 0} {g : Grammar A} {s : State} (P : X → Type 0) (of : A → B) (at : X → B) (text : X → List ℕ) → ((x : X) → P x → Prints g (λ a. of a ≡ at x) s s (text x)) → (xs : List X) → AllByRecursion P xs
    → Prints (many g) (λ trees. map of trees ≡ map at xs) s s (flat_map text xs)
p_many P of at text each xs all = p_bytes (append-nil (flat_map text xs)) (p_rest P (λ x a. of a ≡ at x) (λ xs ys. map of ys ≡ map at xs) (λ x xs a ys e f. cc) text each xs all (p_none refl))

-- the same tokens, in other surroundings
moved : {A : Type 0} {g : Grammar A} {E : A → Type 0} {s t u v : State} {a c : List ℕ} (begin : ℕ → ℕ) → ((at : ℕ) (w : List Lexeme) → Lexes (begin at) s t a w → Lexes at u v c w) → Prints g E s t a → Prints g E u v c
moved begin lex one at = let x = one (begin at) in record { tree = x.tree; same = x.same; words = x.words; is = x.is; lexes = lex at x.words x.lexes }

module _ {A : Type 0} {g : Grammar A} {E : A → Type 0} {inside : Bool} {r : ℕ → Bool} {d : ℕ} {s : State} {a : List ℕ} where
  pub p_any : Prints g E (state inside r wordy d) s a → Prints g E (state inside r loud d) s a
  p_any one = moved (λ at. at) (λ at w lex whole rest v here scan. scan_loud (lex whole rest v here scan)) one

  pub p_word : Prints g E s (state inside r loud d) a → Prints g E s (state inside r wordy d) a
  p_word one = moved (λ at. at) (λ at w lex whole rest v here scan. lex whole rest v here (scan_loud scan)) one

  -- after a blank, and before a line feed
  pub p_blank : {p q : ℕ → Bool} (b : ℕ) → (b < 256) × (is_blank b ≡ true) × (q b ≡ false) → Prints g E (state inside r p d) s a → Prints g E (state inside r q d) s (b ∷ a)
  p_blank b is one = moved (λ at. at + 1) (λ at w lex. both_lex (b ∷ []) a [] w (λ whole rest v here scan. scan_blank b is scan) lex) one

  pub p_pad : {p q : ℕ → Bool} → q 32 ≡ false → Prints g E (state inside r p d) s a → Prints g E (state inside r q d) s (32 ∷ a)
  p_pad calm one = p_blank 32 (omega arith, refl, calm) one

  pub p_line : {q : ℕ → Bool} → q 10 ≡ false → Prints g E s (state inside r q d) a → Prints g E s (state inside r loud d) (a ++ 10 ∷ [])
  p_line calm one = moved (λ at. at) (λ at w lex.
      let P : List Lexeme → Type 0 = Lexes at s (state inside r loud d) (a ++ 10 ∷ []) in
      subst P (append-nil w) (both_lex a (10 ∷ []) w [] lex (λ whole rest v here scan. scan_blank 10 (omega arith, refl, calm) scan))) one

-- tokens

p_token : {inside : Bool} {r before after : ℕ → Bool} {d e class n : ℕ} {kind : Kind} {p name : List ℕ} → IsToken before after d e kind p class name n → ((class == 1) && not (r n)) ≡ false
    → Prints (token class) (λ t. (t.name ≡ name) × (t.number ≡ n)) (state inside r before d) (state_after inside class after e) p
p_token {class} {n} {p} {name} t range at =
    record { tree = a_lexeme class name n at p; same = (refl, refl); words = a_lexeme class name n at p ∷ []; is = record { is = refl; whole = refl }; lexes = λ whole rest v here scan. scan_token t range here scan }

pub p_name : {inside : Bool} {r : ℕ → Bool} {d : ℕ} (name : List ℕ) → IsOwnName name → Prints named (λ n. n.0 ≡ name) (state inside r loud d) (state_after inside 0 wordy d) name
p_name name h = p_action (p_token (word_token name h.0 (λ at. ap (λ o. word_lexeme o name (record { at = at; len = length name })) h.1)) refl) (λ t e. e.0)

pub p_keyword : {inside : Bool} {r : ℕ → Bool} {d : ℕ} (f : Fixed) (text : List ℕ) → (is_word text && leb (length text) 64 && not (class_of f == 1)) ≡ true → keyword_of text ≡ Some (class_of f)
    → Prints (the f) (λ p. Unit {0}) (state inside r loud d) (state_after inside (class_of f) wordy d) text
p_keyword {r} f text is key =
    let other : (class_of f == 1) ≡ false = grind (arith, nat_tests, is) in
    p_action (p_token (word_token text (grind (arith, nat_tests, is), grind (arith, nat_tests, is)) (λ at. ap (λ o. word_lexeme o text (record { at = at; len = length text })) key)) (ap (λ t. t && not (r 0)) other)) (λ t e. tt)

pub p_number : {inside : Bool} {r before : ℕ → Bool} {d : ℕ} (n : ℕ) → n < 2 ^ 64 → r n ≡ true → ((b : ℕ) → is_ascii_digit b ≡ true → before b ≡ false) → Prints number (λ m. m ≡ n) (state inside r before d) (state_after inside 1 wordy d) (decimal n)
p_number n small fit calm = let is = decimal_is_IsNumeral n small in p_action (p_token (digits_token n (decimal n) is.0.1 is.0.0 is.1 small calm) (ap not fit)) (λ t e. e.1)

pub p_part : {inside : Bool} {d : ℕ} (n : ℕ) → n ≤ 2147483647 → Prints number (λ m. m ≡ n) (state inside part loud d) (state_after inside 1 wordy d) (decimal n)
p_part n le = p_number n (omega arith) (le-leb n 2147483647 le) (λ b h. grind (arith, nat_tests, h))

pub p_count : {inside : Bool} {d : ℕ} (n : ℕ) → (1 ≤ n) × (n ≤ 2147483647) → Prints number (λ m. m ≡ n) (state inside (λ n. leb 1 n && leb n 2147483647) loud d) (state_after inside 1 wordy d) (decimal n)
p_count n h = p_number n (omega (arith, h.1)) (and_from (leb 1 n) (leb n 2147483647) (le-leb 1 n h.0) (le-leb n 2147483647 h.1)) (λ b h. grind (arith, nat_tests, h))

pub p_open : {inside : Bool} {r : ℕ → Bool} {d : ℕ} → Prints (the fixed.Open) (λ p. Unit {0}) (state inside r wordy d) (state_after inside 19 loud (d + 1)) (codes "(")
p_open = p_action (p_token (symbol_token 40 [] refl tt refl (one_byte 40 refl (λ b h. (or_parts (b == 42) (b == 94) h).0)) refl refl (λ le. omega (arith, le))) refl) (λ t e. tt)

pub p_close : {inside : Bool} {r : ℕ → Bool} {d : ℕ} → d + 1 ≤ 64 → Prints (the fixed.Close) (λ p. Unit {0}) (state inside r wordy (d + 1)) (state_after inside 20 loud d) (codes ")")
p_close le = p_action (p_token (symbol_token 41 [] refl tt refl (one_byte 41 refl (λ b h. refl)) refl (omega arith) (λ h. le)) refl) (λ t e. tt)

-- another byte that is a symbol, where no such byte comes before it or after it
pub p_sign : {inside : Bool} {r before after : ℕ → Bool} {d : ℕ} (f : Fixed) (a : ℕ) → (before a ≡ false) × (is_one_byte_symbol a ≡ true) × (symbol_of (a ∷ []) ≡ Some (class_of f)) × ((class_of f == 1) ≡ false) × (depth_after d (a ∷ []) ≡ d)
    → ((b : ℕ) → after b ≡ false → goes_on a b ≡ false) → Prints (the f) (λ p. Unit {0}) (state inside r before d) (state_after inside (class_of f) after d) (a ∷ [])
p_sign {r} f a is after = p_action (p_token (symbol_token a [] is.1 tt is.0 (one_byte a is.1 after) is.2 is.4 (λ le. le)) (ap (λ t. t && not (r 0)) is.3)) (λ t e. tt)

pub p_comma : {inside : Bool} {r : ℕ → Bool} {d : ℕ} → Prints (the fixed.Comma) (λ p. Unit {0}) (state inside r wordy d) (state_after inside 21 loud d) (codes ",")
p_comma = p_sign fixed.Comma 44 (refl, refl, refl, refl, refl) (λ b h. refl)

pub p_semicolon : {inside : Bool} {r : ℕ → Bool} {d : ℕ} → Prints (the fixed.Semicolon) (λ p. Unit {0}) (state inside r wordy d) (state_after inside 22 loud d) (codes ";")
p_semicolon = p_sign fixed.Semicolon 59 (refl, refl, refl, refl, refl) (λ b h. refl)

pub p_colon : {inside : Bool} {r : ℕ → Bool} {d : ℕ} → Prints (the fixed.Colon) (λ p. Unit {0}) (state inside r wordy d) (state_after inside 23 (goes_on 58) d) (codes ":")
p_colon = p_sign fixed.Colon 58 (refl, refl, refl, refl, refl) (λ b h. h)

pub p_minus : {d : ℕ} (n : ℕ) → n ≤ MAX_NEGATIVE → Prints (the fixed.Minus ⊳ number) (λ m. m ≡ n) (state false constant loud d) (state false constant wordy d) (codes "-" ++ decimal n)
p_minus n le = p_skip (p_sign {after = goes_on 45} fixed.Minus 45 (refl, refl, refl, refl, refl) (λ b h. h)) (p_number n (omega arith) (le-leb n MAX_NEGATIVE le) (λ b h. grind (arith, nat_tests, h)))

-- a symbol of two bytes
pub p_operator : {inside : Bool} {r : ℕ → Bool} {d : ℕ} (f : Fixed) (a b : ℕ) → (is_two_byte_symbol a b ≡ true) × (symbol_of (a ∷ b ∷ []) ≡ Some (class_of f)) × ((class_of f == 1) ≡ false)
    → Prints (the f) (λ p. Unit {0}) (state inside r (λ b. false) d) (state_after inside (class_of f) loud d) (a ∷ b ∷ [])
p_operator {r} f a b is =
    p_action (p_token (symbol_token a (b ∷ []) is.0 (grind (arith, nat_tests, is.0), tt) refl (λ rest stops. (grind (arith, nat_tests, is.0), grind (arith, nat_tests, is.0), cond-true (is_two_byte_symbol a b) _ _ is.0)) is.1 refl (λ le. le))
    (ap (λ t. t && not (r 0)) is.2)) (λ t e. tt)

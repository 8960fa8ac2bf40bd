-- The tokens of a text, one after another from its end on.
use Rattle.prl_base.proofs.Standard.{◌≡◌, ◌==◌, ◌<◌, ◌≤◌, ◌+◌, ◌&&◌, ◌||◌, ℕ, zero, suc, Bool, true, false, leb, List, [], ◌∷◌, ◌++◌, length, take, drop, get_or, None, Some, Ok, refl, sym, ap, ◌∙◌}
use Rattle.prl_base.proofs.Standard.{subst, arith, length-append, ◌^◌, not, ltb, take-append_seam, drop-append_seam, cond-true, cond-false, and_from, le-leb, and_parts, or_parts, lt-ltb, false≢true}
use Rattle.prl_base.proofs.Standard.{nat_tests, numerals_by_value, tells_all_ascii_digits, is_ascii_digit, list_all, prefix_len, AllDigits, digits_value}
use Rattle.prl_base.specs.Names.{is_word_start, is_word_byte, IsName}
use Rattle.prl_base.specs.declared.decimals.TheConstants.{MAX_POSITIVE}
use Rattle.prl_lex.specs.Vocabulary.{is_blank, begins, piece_of, FitsPiece, is_one_byte_symbol, is_two_byte_symbol, is_symbol, token_by_first, symbol_by_bytes, token_text}
use Rattle.prl_lex.specs.declared.tokens.Kind.TheVariants.{Word, Number, Symbol}
use Rattle.prl_lex.specs.Vocabulary.{depth_after, checked, tokens_from}
use Rattle.prl_lex.specs.declared.tokens.Kind.{Kind}
use Rattle.prl_lex.specs.declared.tokens.Token.{Token}
use Rattle.prl_lex.specs.declared.pieces.Piece.TheVariants as pieces
use Rattle.prl_lex.proofs.Fits.{piece_of_fits}
use Rattle.prl_lex.proofs.Longest.{token_by_first_longest}
use Rattle.prl_lex.proofs.Steps.{step}
use Rattle.prl_lex.specs.Vocabulary.{Lexeme, word_lexeme, symbol_class, kind_lexeme, lexemes_of, inside_after, is_fault, out_of_range}
use Rattle.prl_syntax.specs.Vocabulary.{in_range, program_ranges, keyword_of, symbol_of, program_vocabulary}

-- the numbers that may come next: constants, parts of ratios and dues, or counts
abbrev pub constant : ℕ → Bool
constant n = leb n MAX_POSITIVE

abbrev pub part : ℕ → Bool
part n = leb n 2147483647

-- the bytes that may not come next: those that make a comment of a parenthesis or another symbol of a slash, and after a word those of words too
abbrev pub loud : ℕ → Bool
loud b = (b == 42) || (b == 94)

abbrev pub wordy : ℕ → Bool
wordy b = is_word_byte b || loud b

-- whether a rate is being read, which numbers may come next, which bytes may not, and how many parentheses are open
pub data State : Type 0 where
  state : Bool → (ℕ → Bool) → (ℕ → Bool) → ℕ → State

-- after a token of the class
abbrev pub state_after : Bool → ℕ → (ℕ → Bool) → ℕ → State
state_after inside class stop deep = state (inside_after program_ranges inside class) (in_range (inside_after program_ranges inside class) class) stop deep

-- the next byte, if there is one, does not pass
abbrev pub Stops : (ℕ → Bool) → List ℕ → Type 0
Stops p [] = Unit {0}
Stops p (b ∷ bs) = p b ≡ false

stops_as : (p q : ℕ → Bool) → ((b : ℕ) → p b ≡ false → q b ≡ false) → (text : List ℕ) → Stops p text → Stops q text
stops_as p q less [] h = tt
stops_as p q less (b ∷ bs) h = less b h

abbrev pub AreBytes : List ℕ → Type 0
AreBytes [] = Unit {0}
AreBytes (b ∷ bs) = (b < 256) × AreBytes bs

byte_at : (text : List ℕ) → AreBytes text → (k : ℕ) → get_or text k 0 < 256
byte_at [] h k = omega arith
byte_at (b ∷ bs) h zero = h.0
byte_at (b ∷ bs) h (suc k) = byte_at bs h.1 k

bytes_append : (xs ys : List ℕ) → AreBytes xs → AreBytes ys → AreBytes (xs ++ ys)
bytes_append [] ys h g = g
bytes_append (x ∷ xs) ys h g = (h.0, bytes_append xs ys h.1 g)

-- the text at the place has these tokens, within the limit of open parentheses and in range
abbrev pub Reads : State → ℕ → List ℕ → List Lexeme → List Token → Type 0
Reads (state inside r stop depth) at text w tokens =
    Stops stop text × (depth ≤ 64) × (tokens_from at depth 0 text ≡ Ok tokens) × ((last : ℕ) → ((n : ℕ) → in_range inside last n ≡ r n) → out_of_range program_ranges inside last w ≡ None)

-- The text that stands at the place in the whole one has these tokens, from the state on.
pub record Scan (from : State) (at : ℕ) (whole text : List ℕ) (w : List Lexeme) : Type 0 where
  pub bytes : AreBytes text
  pub tokens : List Token
  pub seen : lexemes_of program_vocabulary whole tokens ≡ w
  pub reads : Reads from at text w tokens

pub scan_end : {inside : Bool} {r stop : ℕ → Bool} {depth : ℕ} (at : ℕ) (whole : List ℕ) → depth ≤ 64 → Scan (state inside r stop depth) at whole [] []
unfolding out_of_range tokens_from
scan_end at whole h = record { bytes = tt; tokens = []; seen = refl; reads = (tt, h, refl, λ last e. refl) }

-- fewer bytes may not come next
pub scan_loud : {inside : Bool} {r : ℕ → Bool} {depth at : ℕ} {whole text : List ℕ} {w : List Lexeme} → Scan (state inside r wordy depth) at whole text w → Scan (state inside r loud depth) at whole text w
scan_loud {text} s = record { bytes = s.bytes; tokens = s.tokens; seen = s.seen; reads = (stops_as wordy loud (λ b h. (or_parts (is_word_byte b) (loud b) h).1) text s.reads.0, s.reads.1, s.reads.2, s.reads.3) }

-- white space
pub scan_blank : {inside : Bool} {r p q : ℕ → Bool} {depth at : ℕ} {whole rest : List ℕ} {w : List Lexeme} (b : ℕ) → (b < 256) × (is_blank b ≡ true) × (q b ≡ false)
    → Scan (state inside r p depth) (at + 1) whole rest w → Scan (state inside r q depth) at whole (b ∷ rest) w
scan_blank {depth} {at} {rest} b is s =
    let first = step at depth (b ∷ rest) (pieces.Gap 1) (omega arith) (sym (cond-true (is_blank b) _ _ is.1)) (omega arith, omega arith) in
    record { bytes = (is.0, s.bytes); tokens = s.tokens; seen = s.seen; reads = (is.2, s.reads.1, first ∙ s.reads.2, s.reads.3) }

-- tokens

abbrev a_token : ℕ → Kind → List ℕ → ℕ → Token
a_token at kind p n = record { kind = kind; span = record { at = at; len = length p }; number = n }

abbrev pub a_lexeme : ℕ → List ℕ → ℕ → ℕ → List ℕ → Lexeme
a_lexeme class name n at p = record { class = class; name = name; number = n; at = record { at = at; len = length p } }

-- The bytes are a token, and this one to the grammar: d parentheses are open before it and e after it, its first byte is none of those that
-- may not come next before it, and the next one none of those after it.
pub record IsToken (before after : ℕ → Bool) (d e : ℕ) (kind : Kind) (p : List ℕ) (class : ℕ) (name : List ℕ) (n : ℕ) : Type 0 where
  pub bytes : AreBytes p
  pub some : 0 < length p
  pub calm : (rest : List ℕ) → Stops before (p ++ rest)
  pub piece : (rest : List ℕ) → AreBytes rest → Stops after rest → piece_of (p ++ rest) ≡ pieces.Token kind (length p)
  pub down : depth_after d p ≡ e
  pub low : e ≤ 64 → d ≤ 64
  pub fits : (at : ℕ) → e ≤ 64 → checked at e kind p ≡ Ok (a_token at kind p n)
  pub is : (at : ℕ) → kind_lexeme program_vocabulary kind p (a_token at kind p n) ≡ a_lexeme class name n at p

-- one token, and what follows it
pub scan_token : {inside : Bool} {r before after : ℕ → Bool} {at d e class n : ℕ} {kind : Kind} {whole p rest name : List ℕ} {w : List Lexeme} → IsToken before after d e kind p class name n → ((class == 1) && not (r n)) ≡ false → drop at whole ≡ p ++ rest
    → Scan (state_after inside class after e) (at + length p) whole rest w → Scan (state inside r before d) at whole (p ++ rest) (a_lexeme class name n at p ∷ w)
unfolding out_of_range
scan_token {inside} {r} {at} {d} {e} {class} {n} {kind} {whole} {p} {rest} {name} t range here s =
    let token : Token = a_token at kind p n in
    let k : Lexeme = a_lexeme class name n at p in
    let text : List ℕ = p ++ rest in
    let piece = t.piece rest s.bytes s.reads.0 in
    let own : token_text whole token ≡ p = ap (take (length p)) here ∙ take-append_seam p rest in
    let seen = ap (λ q. kind_lexeme program_vocabulary kind q token ∷ lexemes_of program_vocabulary whole s.tokens) own ∙ ap (λ l. l ∷ lexemes_of program_vocabulary whole s.tokens) (t.is at) ∙ ap (λ ls. k ∷ ls) s.seen in
    let read = step at d text (pieces.Token kind (length p)) (omega (arith, length-append p rest, t.some)) (sym piece) (subst (FitsPiece text) piece (piece_of_fits text)) ∙ simp (take-append_seam p rest, drop-append_seam p rest, t.down, t.fits at s.reads.1, s.reads.2) in
    let fine : (last : ℕ) → ((m : ℕ) → in_range inside last m ≡ r m) → is_fault program_ranges inside last k ≡ false = λ last e. ap (λ b. (class == 1) && not b) (e n) ∙ range in
    record { bytes = bytes_append p rest t.bytes s.bytes; tokens = token ∷ s.tokens; seen = seen; reads = (t.calm rest, t.low s.reads.1, read, λ last e. cond-false (is_fault program_ranges inside last k) _ _ (fine last e) ∙ s.reads.3 class (λ m. refl)) }

-- what stands at the front is the token that its first byte tells
first_piece : (b : ℕ) (bs : List ℕ) → AreBytes (b ∷ bs) → is_blank b ≡ false → (begins 45 45 (b ∷ bs) ≡ false) × (begins 40 42 (b ∷ bs) ≡ false) → piece_of (b ∷ bs) ≡ token_by_first (b ∷ bs)
first_piece b bs small blank comment =
    cond-false (is_blank b) _ _ blank ∙ cond-false (begins 45 45 (b ∷ bs)) _ _ comment.0 ∙ cond-false (begins 40 42 (b ∷ bs)) _ _ comment.1 ∙ sym (token_by_first_longest (b ∷ bs) (byte_at (b ∷ bs) small))

-- words and numbers: bytes that pass, after a first one
run : (p : ℕ → Bool) (cs rest : List ℕ) → list_all p cs ≡ true → Stops p rest → prefix_len p (cs ++ rest) ≡ length cs
run p [] [] h stops = refl
run p [] (b ∷ rest) h stops = cond-false (p b) _ _ stops
run p (c ∷ cs) rest h stops =
    let parts = and_parts (p c) (list_all p cs) h in
    cond-true (p c) _ _ parts.0 ∙ omega (arith, run p cs rest parts.1 stops)

all_small : (p : ℕ → Bool) → ((b : ℕ) → p b ≡ true → is_word_byte b ≡ true) → (cs : List ℕ) → list_all p cs ≡ true → AreBytes cs
all_small p within [] h = tt
all_small p within (c ∷ cs) h = let parts = and_parts (p c) (list_all p cs) h in (grind (arith, nat_tests, within c parts.0), all_small p within cs parts.1)

no_other : (d c : ℕ) (bs : List ℕ) → is_word_byte c ≡ true → (depth_after d (c ∷ bs) ≡ d) × (begins 45 45 (c ∷ bs) ≡ false) × (begins 40 42 (c ∷ bs) ≡ false)
no_other d c [] h = (cond-false (c == 40) _ _ (grind (arith, nat_tests, h)) ∙ cond-false (c == 41) _ _ (grind (arith, nat_tests, h)), refl, refl)
no_other d c (b ∷ bs) h = (refl, grind (arith, nat_tests, h), grind (arith, nat_tests, h))

run_token : {before : ℕ → Bool} {d class n : ℕ} {kind : Kind} {name : List ℕ} (p : ℕ → Bool) (c : ℕ) (cs : List ℕ) → ((b : ℕ) → p b ≡ true → is_word_byte b ≡ true) → ((b : ℕ) → wordy b ≡ false → p b ≡ false) → list_all p (c ∷ cs) ≡ true → before c ≡ false
    → ((bs : List ℕ) → token_by_first (c ∷ bs) ≡ pieces.Token kind (prefix_len p bs + 1)) → ((at : ℕ) → checked at d kind (c ∷ cs) ≡ Ok (a_token at kind (c ∷ cs) n))
    → ((at : ℕ) → kind_lexeme program_vocabulary kind (c ∷ cs) (a_token at kind (c ∷ cs) n) ≡ a_lexeme class name n at (c ∷ cs)) → IsToken before wordy d d kind (c ∷ cs) class name n
run_token {kind} p c cs within out all calm first fits is =
    record { bytes = small; some = omega arith; calm = λ rest. calm; piece = piece; down = (no_other _ c cs own).0; low = λ le. le; fits = λ at le. fits at; is = is }
  where
    own : is_word_byte c ≡ true
    own = within c (and_parts (p c) (list_all p cs) all).0

    small : AreBytes (c ∷ cs)
    small = all_small p within (c ∷ cs) all

    piece : (rest : List ℕ) → AreBytes rest → Stops wordy rest → piece_of (c ∷ (cs ++ rest)) ≡ pieces.Token kind (length (c ∷ cs))
    piece rest bytes stops =
        let many : prefix_len p (cs ++ rest) + 1 ≡ length (c ∷ cs) = omega (arith, run p cs rest (and_parts (p c) (list_all p cs) all).1 (stops_as wordy p out rest stops)) in
        let no = no_other 0 c (cs ++ rest) own in
        first_piece c (cs ++ rest) (small.0, bytes_append cs rest small.1 bytes) (grind (arith, nat_tests, own)) (no.1, no.2) ∙ first (cs ++ rest) ∙ ap (λ n. pieces.Token kind n) many

-- a word, which is a keyword or not
pub word_token : {d class : ℕ} {name : List ℕ} (w : List ℕ) → IsName w → ((at : ℕ) → word_lexeme (keyword_of w) w (record { at = at; len = length w }) ≡ a_lexeme class name 0 at w) → IsToken loud wordy d d Word w class name 0
word_token [] own is = absurd (false≢true own.0)
word_token (c ∷ cs) own is =
    let parts = and_parts (is_word_start c) (list_all is_word_byte cs) own.0 in
    run_token is_word_byte c cs (λ b h. h) (λ b h. (or_parts (is_word_byte b) (loud b) h).0) (and_from (is_word_byte c) (list_all is_word_byte cs) (grind (arith, nat_tests, parts.0)) parts.1) (grind (arith, nat_tests, parts.0))
    (λ bs. cond-true (is_word_start c) _ _ parts.0) (λ at. cond-true (leb (length (c ∷ cs)) 64) _ _ (le-leb (length (c ∷ cs)) 64 own.1)) is

pub digits_token : {before : ℕ → Bool} {d : ℕ} (n : ℕ) (p : List ℕ) → AllDigits 10 p → 0 < length p → digits_value 10 p ≡ n → n < 2 ^ 64 → ((b : ℕ) → is_ascii_digit b ≡ true → before b ≡ false) → IsToken before wordy d d Number p 1 [] n
digits_token n [] digits some value fits other = absurd (omega arith)
digits_token n (c ∷ cs) digits some value fits other =
    let all : list_all is_ascii_digit (c ∷ cs) ≡ true = (numerals_by_value (λ ds. list_all is_ascii_digit ds ≡ true) tells_all_ascii_digits).from (c ∷ cs) digits in
    let first : is_ascii_digit c ≡ true = (and_parts (is_ascii_digit c) (list_all is_ascii_digit cs) all).0 in
    run_token is_ascii_digit c cs (λ b h. grind (arith, nat_tests, h)) (λ b h. grind (arith, nat_tests, h)) all (other c first) (λ bs. cond-false (is_word_start c) _ _ (grind (arith, nat_tests, first)) ∙ cond-true (is_ascii_digit c) _ _ first)
    (λ at. cond-true (ltb (digits_value 10 (c ∷ cs)) (2 ^ 64)) _ _ (lt-ltb (digits_value 10 (c ∷ cs)) (2 ^ 64) (omega (arith, value, fits))) ∙ ap (λ m. Ok (a_token at Number (c ∷ cs) m)) value) (λ at. refl)

-- symbols

-- the bytes that would go on from the byte to a comment or another symbol
abbrev pub goes_on : ℕ → ℕ → Bool
goes_on a b = is_two_byte_symbol a b || ((a == 45) && (b == 45)) || ((a == 40) && (b == 42))

-- it begins neither white space nor a word nor a number
mark : (a : ℕ) (bs : List ℕ) → is_symbol (a ∷ bs) ≡ true → (is_blank a ≡ false) × (is_word_start a ≡ false) × (is_ascii_digit a ≡ false) × (a < 256)
mark a [] h = (grind (arith, nat_tests, h), grind (arith, nat_tests, h), grind (arith, nat_tests, h), grind (arith, nat_tests, h))
mark a (b ∷ []) h = (grind (arith, nat_tests, h), grind (arith, nat_tests, h), grind (arith, nat_tests, h), grind (arith, nat_tests, h))
mark a (b ∷ c ∷ bs) h = absurd (false≢true h)

pub symbol_token : {before after : ℕ → Bool} {d e class : ℕ} (a : ℕ) (bs : List ℕ) → is_symbol (a ∷ bs) ≡ true → AreBytes bs → before a ≡ false
    → ((rest : List ℕ) → Stops after rest → (begins 45 45 (a ∷ (bs ++ rest)) ≡ false) × (begins 40 42 (a ∷ (bs ++ rest)) ≡ false) × (symbol_by_bytes a (bs ++ rest) ≡ pieces.Token Symbol (length (a ∷ bs))))
    → symbol_of (a ∷ bs) ≡ Some class → depth_after d (a ∷ bs) ≡ e → (e ≤ 64 → d ≤ 64) → IsToken before after d e Symbol (a ∷ bs) class [] 0
symbol_token {after} {e} a bs symbol small calm front is down low =
    record { bytes = ((mark a bs symbol).3, small); some = omega arith; calm = λ rest. calm; piece = piece; down = down; low = low; fits = λ at le. cond-true (leb e 64) _ _ (le-leb e 64 le); is = λ at. ap (λ o. a_lexeme (symbol_class o) [] 0 at (a ∷ bs)) is }
  where
    piece : (rest : List ℕ) → AreBytes rest → Stops after rest → piece_of (a ∷ (bs ++ rest)) ≡ pieces.Token Symbol (length (a ∷ bs))
    piece rest bytes stops =
        let m = mark a bs symbol in
        let at = front rest stops in
        first_piece a (bs ++ rest) (m.3, bytes_append bs rest small bytes) m.0 (at.0, at.1) ∙ cond-false (is_word_start a) _ _ m.1 ∙ cond-false (is_ascii_digit a) _ _ m.2 ∙ at.2

-- a symbol of one byte
pub one_byte : {after : ℕ → Bool} (a : ℕ) → is_one_byte_symbol a ≡ true → ((b : ℕ) → after b ≡ false → goes_on a b ≡ false) → (rest : List ℕ) → Stops after rest
    → (begins 45 45 (a ∷ rest) ≡ false) × (begins 40 42 (a ∷ rest) ≡ false) × (symbol_by_bytes a rest ≡ pieces.Token Symbol 1)
one_byte a one other [] stops = (refl, refl, cond-true (is_one_byte_symbol a) _ _ one)
one_byte a one other (b ∷ rest) stops =
    let parts = or_parts (is_two_byte_symbol a b || ((a == 45) && (b == 45))) ((a == 40) && (b == 42)) (other b stops) in
    let two = or_parts (is_two_byte_symbol a b) ((a == 45) && (b == 45)) parts.0 in
    (two.1, parts.1, cond-false (is_two_byte_symbol a b) _ _ two.0 ∙ cond-true (is_one_byte_symbol a) _ _ one)

-- Bytes that numbers, values and names do not have.
use Rattle.prl_base.proofs.Standard.{◌≡◌, ◌==◌, ◌++◌, ◌+◌, ◌<◌, ◌/◌, ◌%◌, ◌&&◌, ℕ, zero, suc, ℤ, pos, negsuc, Bool, true, false, not, List, [], ◌∷◌, cond, length, nat_lt, refl, ap, ◌∙◌, arith}
use Rattle.prl_base.proofs.Standard.{decimal, is_ascii_digit, list_all, digit_glyph, digits, digits_onto, signed_decimal, and_parts, nat_tests, list_all-append, mod_below}
use Rattle.prl_base.specs.Names.{is_word_byte}

-- the text has no such byte
abbrev pub Lacks : ℕ → List ℕ → Type 0
Lacks end text = list_all (λ b. not (b == end)) text ≡ true

and_true : (a b : Bool) → a ≡ true → b ≡ true → (a && b) ≡ true
and_true a b e f = ap (λ t. t && b) e ∙ f

pub lacks_cons : (end b : ℕ) (bs : List ℕ) → (b == end) ≡ false → Lacks end bs → Lacks end (b ∷ bs)
lacks_cons end b bs e rest = and_true (not (b == end)) (list_all (λ b. not (b == end)) bs) (ap not e) rest

pub lacks_append : (end : ℕ) (xs ys : List ℕ) → Lacks end xs → Lacks end ys → Lacks end (xs ++ ys)
lacks_append end xs ys first second =
    list_all-append (λ b. not (b == end)) xs ys ∙ and_true (list_all (λ b. not (b == end)) xs) (list_all (λ b. not (b == end)) ys) first second

-- the byte is no digit
abbrev pub NoDigit : ℕ → Type 0
NoDigit end = is_ascii_digit end ≡ false

glyph_by : (end d : ℕ) (t : Bool) → nat_lt d 10 ≡ t → d < 10 → NoDigit end → (cond t (48 + d) (cond false (55 + d) (87 + d)) == end) ≡ false
glyph_by end d true e small none = grind (arith, nat_tests, small, none)
glyph_by end d false e small none = grind (arith, nat_tests)

glyph_is_none : (end n : ℕ) → NoDigit end → (digit_glyph false (n % 10) == end) ≡ false
glyph_is_none end n none = let small = mod_below n 10 (omega arith) in glyph_by end (n % 10) (nat_lt (n % 10) 10) refl small none

onto_by : (t : Bool) (end k n : ℕ) (acc : List ℕ) → Lacks end (digit_glyph false (n % 10) ∷ acc) →
    Lacks end (digits_onto k 10 false (n / 10) (digit_glyph false (n % 10) ∷ acc)) →
    Lacks end (cond t (digit_glyph false (n % 10) ∷ acc) (digits_onto k 10 false (n / 10) (digit_glyph false (n % 10) ∷ acc)))
onto_by true end k n acc here later = here
onto_by false end k n acc here later = later

onto_lacks : (end k n : ℕ) (acc : List ℕ) → NoDigit end → Lacks end acc → Lacks end (digits_onto k 10 false n acc)
onto_lacks end zero n acc none lacks = lacks
onto_lacks end (suc k) n acc none lacks =
    let here = lacks_cons end (digit_glyph false (n % 10)) acc (glyph_is_none end n none) lacks in
    onto_by (n / 10 == 0) end k n acc here (onto_lacks end k (n / 10) (digit_glyph false (n % 10) ∷ acc) none here)

pub decimal_lacks : (end n : ℕ) → NoDigit end → Lacks end (decimal n)
unfolding digits
decimal_lacks end n none = onto_lacks end 64 n [] none refl

pub signed_lacks : (end : ℕ) (z : ℤ) → NoDigit end → (45 == end) ≡ false → Lacks end (signed_decimal z)
signed_lacks end (pos n) none minus = decimal_lacks end n none
signed_lacks end (negsuc n) none minus = lacks_cons end 45 (decimal (suc n)) minus (decimal_lacks end (suc n) none)

some_by : (t : Bool) (k n : ℕ) (acc : List ℕ) → 0 < length (digits_onto k 10 false (n / 10) (digit_glyph false (n % 10) ∷ acc)) →
    0 < length (cond t (digit_glyph false (n % 10) ∷ acc) (digits_onto k 10 false (n / 10) (digit_glyph false (n % 10) ∷ acc)))
some_by true k n acc later = omega arith
some_by false k n acc later = later

onto_some : (k n : ℕ) (acc : List ℕ) → 0 < length acc → 0 < length (digits_onto k 10 false n acc)
onto_some zero n acc some = some
onto_some (suc k) n acc some =
    some_by (n / 10 == 0) k n acc (onto_some k (n / 10) (digit_glyph false (n % 10) ∷ acc) (omega arith))

pub decimal_some : (n : ℕ) → 0 < length (decimal n)
unfolding digits
decimal_some n = some_by (n / 10 == 0) 63 n [] (onto_some 63 (n / 10) (digit_glyph false (n % 10) ∷ []) (omega arith))

pub signed_some : (z : ℤ) → 0 < length (signed_decimal z)
signed_some (pos n) = decimal_some n
signed_some (negsuc n) = omega arith

-- the byte is none of a word
abbrev pub NoWordByte : ℕ → Type 0
NoWordByte end = (b : ℕ) → is_word_byte b ≡ true → (b == end) ≡ false

pub word_bytes_lack : (end : ℕ) (bs : List ℕ) → NoWordByte end → list_all is_word_byte bs ≡ true → Lacks end bs
word_bytes_lack end [] none all = refl
word_bytes_lack end (b ∷ bs) none all =
    let both = and_parts (is_word_byte b) (list_all is_word_byte bs) all in
    lacks_cons end b bs (none b both.0) (word_bytes_lack end bs none both.1)

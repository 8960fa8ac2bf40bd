-- Numbers, values and ratios are read back as they are printed.
use Rattle.prl_base.proofs.Standard.{◌≡◌, ◌==◌, ◌<◌, ◌≤◌, ◌^◌, ◌&&◌, ℕ, suc, ℤ, pos, negsuc, Bool, true, false, not, List, [], ◌∷◌, Some, None, cond, length, nat_lt, nat_le, refl, ap, sym, ◌∙◌, arith}
use Rattle.prl_base.proofs.Standard.{decimal, codes, FitsSigned, list_all, digit_value, is_ascii_digit, signed_decimal, option_and_then, bytes_eq, AllDigits, digits_value, false≢true, nat_tests}
use Rattle.prl_base.proofs.Standard.{decimal_is_IsNumeral, bytes_eq-Decides}
use Rattle.std.specs.Int.{w64}
use Rattle.std.specs.Option.{unwrap_or}
use Rattle.prl_base.specs.Vocabulary.{are_digits, decimal_of, integer_of, negative, positive, type_text, value_text, FitsValue}
use Rattle.prl_base.specs.declared.decimals.TheConstants.{MAX_NEGATIVE, MAX_POSITIVE}
use Rattle.prl_base.specs.declared.values.Ty.{Ty}
use Rattle.prl_base.specs.declared.values.Value.{Value}
use Rattle.prl_base.specs.declared.values.Ty.TheVariants as types
use Rattle.prl_base.specs.declared.values.Value.TheVariants as values
use Rattle.prl_plantext.specs.code.Graphs.{number_in, or_small, small_in, type_in, value_in}
use Rattle.prl_plantext.proofs.Bytes.{Lacks, decimal_lacks, decimal_some, signed_lacks}
use Rattle.prl_plantext.proofs.Cuts.{head_lacks}

digit_by_value : (c : ℕ) → digit_value c < 10 → is_ascii_digit c ≡ true
digit_by_value c small = grind (arith, nat_tests)

all_digits : (ds : List ℕ) → AllDigits 10 ds → list_all is_ascii_digit ds ≡ true
all_digits [] all = refl
all_digits (d ∷ ds) all = ap (λ t. t && list_all is_ascii_digit ds) (digit_by_value d all.0) ∙ all_digits ds all.1

are_digits_of : (ds : List ℕ) → 0 < length ds → AllDigits 10 ds → are_digits ds ≡ true
are_digits_of [] some all = absurd (omega (arith, some))
are_digits_of (d ∷ ds) some all = all_digits (d ∷ ds) all

number_by : (a b : Bool) (n : ℕ) → a ≡ true → b ≡ true → cond (a && b) (Some n) None ≡ Some n
number_by a b n e f = ap (λ t. cond (t && b) (Some n) None) e ∙ ap (λ t. cond t (Some n) None) f

pub decimal_of_decimal : (n : ℕ) → n < 2 ^ 64 → decimal_of (decimal n) ≡ Some n
decimal_of_decimal n small =
    let is = decimal_is_IsNumeral n small in
    let value = is.1 in
    number_by (are_digits (decimal n)) (nat_lt (digits_value 10 (decimal n)) (2 ^ 64)) (digits_value 10 (decimal n))
    (are_digits_of (decimal n) is.0.0 is.0.1) (grind (arith, nat_tests, value, small))
    ∙ ap Some value

pub number_of_decimal : (n : ℕ) → n < 2 ^ 64 → number_in (decimal n) ≡ n
number_of_decimal n small = ap (λ o. unwrap_or o 0) (decimal_of_decimal n small)

or_small_is : (n : ℕ) → n < 2 ^ 32 → or_small n ≡ n
or_small_is n small = grind (arith, nat_tests, small)

pub small_of_decimal : (n : ℕ) → n < 2 ^ 32 → small_in (decimal n) ≡ n
small_of_decimal n small = ap or_small (number_of_decimal n (omega (arith, small))) ∙ or_small_is n small

bytes_same : (xs ys : List ℕ) → bytes_eq xs ys ≡ true → xs ≡ ys
bytes_same xs ys e = grind (arith, bytes_eq-Decides, e)

-- integers

positive_by : (t : Bool) (n : ℕ) → t ≡ true → cond t (Some (pos n)) None ≡ Some (pos n)
positive_by t n e = ap (λ b. cond b (Some (pos n)) None) e

positive_is : (n : ℕ) → n ≤ MAX_POSITIVE → positive n ≡ Some (pos n)
positive_is n small = positive_by (nat_le n MAX_POSITIVE) n (grind (arith, nat_tests, small))

negative_by : (t : Bool) (n : ℕ) → t ≡ true → cond t (Some (negsuc n)) None ≡ Some (negsuc n)
negative_by t n e = ap (λ b. cond b (Some (negsuc n)) None) e

negative_is : (n : ℕ) → n < MAX_NEGATIVE → negative (suc n) ≡ Some (negsuc n)
negative_is n small = negative_by (nat_lt n MAX_NEGATIVE) n (grind (arith, nat_tests, small))

no_minus : (b : ℕ) (bs : List ℕ) → Lacks 45 (b ∷ bs) → integer_of (b ∷ bs) ≡ option_and_then positive (decimal_of (b ∷ bs))
no_minus b bs lacks =
    ap (λ t. cond t (option_and_then negative (decimal_of bs)) (option_and_then positive (decimal_of (b ∷ bs)))) (head_lacks 45 b bs lacks).0

unsigned_integer : (text : List ℕ) → 0 < length text → Lacks 45 text → integer_of text ≡ option_and_then positive (decimal_of text)
unsigned_integer [] some lacks = absurd (omega (arith, some))
unsigned_integer (b ∷ bs) some lacks = no_minus b bs lacks

pub integer_of_signed : (z : ℤ) → FitsSigned w64 z → integer_of (signed_decimal z) ≡ Some z
integer_of_signed (pos n) fits =
    let f = fits.sfits in
    unsigned_integer (decimal n) (decimal_some n) (decimal_lacks 45 n refl)
    ∙ ap (option_and_then positive) (decimal_of_decimal n (omega (arith, f))) ∙ positive_is n (omega (arith, f))
integer_of_signed (negsuc n) fits =
    let f = fits.sfits in
    ap (option_and_then negative) (decimal_of_decimal (suc n) (omega (arith, f))) ∙ negative_is n (omega (arith, f))

-- values

pub is_not : (end : ℕ) (text keyword : List ℕ) → Lacks end text → list_all (λ b. not (b == end)) keyword ≡ false → bytes_eq text keyword ≡ false
is_not end text keyword lacks has = by_test (bytes_eq text keyword) refl
  where
    by_test : (t : Bool) → bytes_eq text keyword ≡ t → t ≡ false
    by_test false e = refl
    by_test true e =
        let same : text ≡ keyword = bytes_same text keyword e in
        absurd (false≢true (sym has ∙ ap (list_all (λ b. not (b == end))) (sym same) ∙ lacks))

integer_by : (a b : Bool) (v : Value) → a ≡ false → b ≡ false → cond a (values.Bool true) (cond b (values.Bool false) v) ≡ v
integer_by a b v e f = ap (λ t. cond t (values.Bool true) (cond b (values.Bool false) v)) e ∙ ap (λ t. cond t (values.Bool false) v) f

pub value_of_text : (value : Value) → FitsValue value → value_in (value_text value) ≡ value
value_of_text (values.Bool true) fits = refl
value_of_text (values.Bool false) fits = refl
value_of_text (values.Int n) fits =
    integer_by (bytes_eq (signed_decimal n) (codes "true")) (bytes_eq (signed_decimal n) (codes "false")) (values.Int (unwrap_or (integer_of (signed_decimal n)) (pos 0)))
    (is_not 116 (signed_decimal n) (codes "true") (signed_lacks 116 n refl refl) refl)
    (is_not 102 (signed_decimal n) (codes "false") (signed_lacks 102 n refl refl) refl)
    ∙ ap (λ o. values.Int (unwrap_or o (pos 0))) (integer_of_signed n fits)

pub type_of_text : (ty : Ty) → type_in (type_text ty) ≡ ty
type_of_text types.Int = refl
type_of_text types.Bool = refl

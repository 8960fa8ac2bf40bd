-- A table's text is read back.
use Rattle.prl_base.proofs.Standard.{◌≡◌, ◌==◌, ◌<◌, ◌+◌, ◌^◌, ◌&&◌, not, get_or, ℕ, suc, Bool, true, false, List, [], ◌∷◌, ◌++◌, Option, Some, None, Ok, Err, All, cond, length, take, drop, nat_lt}
use Rattle.prl_base.proofs.Standard.{refl, ap, sym, ◌∙◌, arith, append_assoc, decimal, codes, list_all, before_first, after_first, flat_map, position_or_len, digit_value, is_ascii_digit}
use Rattle.prl_base.proofs.Standard.{option_and_then, bytes_eq, AllDigits, digits_value, take-append_seam, drop-append_seam, drop-append-add, nat_tests, decimal_is_IsNumeral, All-append}
use Rattle.prl_base.proofs.Standard.{slice_split_at, AllPass-from_list_all, bytes_eq-Decides}
use Rattle.prl_base.specs.Vocabulary.{are_digits, decimal_of, is_line_feed, lines_of, ◌>>=◌}
use Rattle.prl_tables.specs.Vocabulary.{Entry, after_line, after_words, cut_number, entries_from, entries_of, entry_if, entry_line, entry_of, entry_text, field, is_blank, is_header, is_number}
use Rattle.prl_tables.specs.Vocabulary.{keeps_order, last_field, next_entry, number_if, number_of, or_line, tells_hyper, text_of, AreOrdered, FitsEntry}
use Rattle.prl_tables.proofs.TextLines.{after_more, from_more, then_entries}
use Rattle.prl_base.proofs.LineCuts.{length_lines_of}
use Rattle.prl_tables.specs.declared.reading.TableFault.TheVariants as faults

-- decimal digits are no line feeds and no blanks
digit_by_value : (c : ℕ) → digit_value c < 10 → is_ascii_digit c ≡ true
digit_by_value c small = grind (arith, nat_tests)

all_digits : (ds : List ℕ) → AllDigits 10 ds → list_all is_ascii_digit ds ≡ true
all_digits [] all = refl
all_digits (d ∷ ds) all = ap (λ t. t && list_all is_ascii_digit ds) (digit_by_value d all.0) ∙ all_digits ds all.1

are_digits_of : (ds : List ℕ) → 0 < length ds → AllDigits 10 ds → are_digits ds ≡ true
are_digits_of [] some all = absurd (omega (arith, some))
are_digits_of (d ∷ ds) some all = all_digits (d ∷ ds) all

number_by : (a b : Bool) (n : ℕ) → a ≡ true → b ≡ true → cond (a && b) (Some n) None ≡ Some n
number_by a b n e f = ap (λ t. cond (t && b) (Some n) None) e ∙ ap (λ t. cond t (Some n) None) f

decimal_of_decimal : (n : ℕ) → n < 2 ^ 64 → decimal_of (decimal n) ≡ Some n
decimal_of_decimal n small =
    let is = decimal_is_IsNumeral n small in
    let value = is.1 in
    number_by (are_digits (decimal n)) (nat_lt (digits_value 10 (decimal n)) (2 ^ 64)) (digits_value 10 (decimal n))
    (are_digits_of (decimal n) is.0.0 is.0.1) (grind (arith, nat_tests, value, small))
    ∙ ap Some value

abbrev Lacks : ℕ → List ℕ → Type 0
Lacks b bs = All (λ x. (x == b) ≡ false) bs

abbrev lacks : ℕ → List ℕ → Bool
lacks b bs = list_all (λ x. not (x == b)) bs

is_false : (t : Bool) → not t ≡ true → t ≡ false
is_false true e = sym e
is_false false e = refl

by_test : (b : ℕ) (bs : List ℕ) → lacks b bs ≡ true → Lacks b bs
by_test b bs all = λ k d inside. is_false (get_or bs k d == b) (AllPass-from_list_all (λ x. not (x == b)) bs all k d inside)

digit_lacks : (b d : ℕ) → b < 48 → digit_value d < 10 → not (d == b) ≡ true
digit_lacks b d low v = grind (arith, nat_tests, v, low)

digits_lack : (b : ℕ) → b < 48 → (ds : List ℕ) → AllDigits 10 ds → lacks b ds ≡ true
digits_lack b low [] all = refl
digits_lack b low (d ∷ ds) all = ap (λ t. t && lacks b ds) (digit_lacks b d low all.0) ∙ digits_lack b low ds all.1

pub decimal_lacks : (b n : ℕ) → b < 48 → n < 2 ^ 64 → Lacks b (decimal n)
decimal_lacks b n low small = by_test b (decimal n) (digits_lack b low (decimal n) (decimal_is_IsNumeral n small).0.1)

bytes_same : (xs ys : List ℕ) → xs ≡ ys → bytes_eq xs ys ≡ true
bytes_same xs ys same = grind (arith, bytes_eq-Decides xs ys, same)

-- the number of its decimal
number_back : (n : ℕ) → n < 2 ^ 64 → number_of (decimal n) ≡ Some n
number_back n small =
    ap (option_and_then (number_if (decimal n))) (decimal_of_decimal n small)
    ∙ ap (λ t. cond t (Some n) None) (bytes_same (decimal n) (decimal n) refl)

-- what stands after some words
words_back : (words rest : List ℕ) → after_words words (words ++ rest) ≡ Some rest
words_back words rest =
    ap (λ t. cond t (Some (drop (length words) (words ++ rest))) None) (bytes_same (take (length words) (words ++ rest)) words (take-append_seam words rest))
    ∙ ap Some (drop-append_seam words rest)

-- the first blank ends a word
pub word_length : (p : ℕ → Bool) (xs : List ℕ) (y : ℕ) (ys : List ℕ) → list_all (λ x. not (p x)) xs ≡ true → p y ≡ true →
    position_or_len p (xs ++ y ∷ ys) ≡ length xs
word_length p [] y ys all is = ap (λ b. cond (not b) (1 + position_or_len p ys) 0) is
word_length p (x ∷ xs) y ys all is = go (p x) all refl (λ more. word_length p xs y ys more is) ∙ (let e : 1 + length xs ≡ length (x ∷ xs) = omega arith in e)
  where
    go : (t : Bool) → (not t && list_all (λ x. not (p x)) xs) ≡ true → p x ≡ t →
        (list_all (λ x. not (p x)) xs ≡ true → position_or_len p (xs ++ y ∷ ys) ≡ length xs) → position_or_len p (x ∷ (xs ++ y ∷ ys)) ≡ 1 + length xs
    go true both at rest = (let e : ◌≡◌ {A = Bool} false true = both in cc)
    go false both at rest = ap (λ b. cond (not b) (1 + position_or_len p (xs ++ y ∷ ys)) 0) at ∙ ap (λ (n : ℕ). 1 + n) (rest both)

-- the number up to a blank
pub cut_back : (n : ℕ) (rest : List ℕ) → n < 2 ^ 64 → cut_number (decimal n ++ 32 ∷ rest) ≡ Some (n, rest)
cut_back n rest small =
    let len = word_length is_blank (decimal n) 32 rest (digits_lack 32 (omega arith) (decimal n) (decimal_is_IsNumeral n small).0.1) refl in
    let front : before_first is_blank (decimal n ++ 32 ∷ rest) ≡ decimal n =
    ap (λ (k : ℕ). take k (decimal n ++ 32 ∷ rest)) len ∙ take-append_seam (decimal n) (32 ∷ rest) in
    let back : after_first is_blank (decimal n ++ 32 ∷ rest) ≡ rest =
    ap (λ (k : ℕ). drop (k + 1) (decimal n ++ 32 ∷ rest)) len ∙ drop-append-add (decimal n) (32 ∷ rest) 1 in
    ap (λ (word : List ℕ). option_and_then (λ (m : ℕ). Some (m, after_first is_blank (decimal n ++ 32 ∷ rest))) (number_of word)) front
    ∙ ap (option_and_then (λ (m : ℕ). Some (m, after_first is_blank (decimal n ++ 32 ∷ rest)))) (number_back n small)
    ∙ ap (λ (after : List ℕ). Some (n, after)) back

field_back : (words : List ℕ) (n : ℕ) (rest : List ℕ) → n < 2 ^ 64 → field words (words ++ (decimal n ++ 32 ∷ rest)) ≡ Some (n, rest)
field_back words n rest small = ap (option_and_then cut_number) (words_back words (decimal n ++ 32 ∷ rest)) ∙ cut_back n rest small

last_back : (words : List ℕ) (n : ℕ) → n < 2 ^ 64 → last_field words (words ++ decimal n) ≡ Some n
last_back words n small = ap (option_and_then number_of) (words_back words (decimal n)) ∙ number_back n small

below : (n m : ℕ) → n < m → nat_lt n m ≡ true
below n m less = grind (arith, nat_tests, less)

-- the entry of its line
abbrev by_units : ℕ → ℕ → ℕ × List ℕ → Option Entry
by_units at task job = option_and_then (λ units. entry_if at task job.0 units) (last_field (codes "units ") job.1)

abbrev by_job : ℕ → ℕ × List ℕ → Option Entry
by_job at task = option_and_then (by_units at task.0) (field (codes "job ") task.1)

abbrev by_task : ℕ × List ℕ → Option Entry
by_task at = option_and_then (by_job at.0) (field (codes "task ") at.1)

entry_back : (e : Entry) → FitsEntry e → entry_of (entry_line e) ≡ Some e
entry_back e fits =
    let units : List ℕ = codes "units " ++ decimal e.units in
    let job : List ℕ = codes "job " ++ (decimal e.job ++ 32 ∷ units) in
    ap (option_and_then by_task) (field_back (codes "at ") e.at (codes "task " ++ (decimal e.task.0 ++ 32 ∷ (codes "job " ++ (decimal e.job ++ 32 ∷ (codes "units " ++ decimal e.units))))) fits.at)
    ∙ ap (option_and_then (by_job e.at)) (field_back (codes "task ") e.task.0 (codes "job " ++ (decimal e.job ++ 32 ∷ (codes "units " ++ decimal e.units))) (let t = fits.task in omega (arith, t)))
    ∙ ap (option_and_then (by_units e.at e.task.0)) (field_back (codes "job ") e.job (codes "units " ++ decimal e.units) fits.job)
    ∙ ap (option_and_then (λ n. entry_if e.at e.task.0 e.job n)) (last_back (codes "units ") e.units fits.units)
    ∙ ap (λ t. cond t (Some e) None) (below e.task.0 (2 ^ 32) fits.task)

line_lacks : (e : Entry) → FitsEntry e → Lacks 10 (entry_line e)
line_lacks e fits =
    let digits : (n : ℕ) → n < 2 ^ 64 → Lacks 10 (decimal n) = λ n small. decimal_lacks 10 n (omega arith) small in
    let P : ℕ → Type 0 = λ x. (x == 10) ≡ false in
    All-append P (codes "at ") (decimal e.at ++ (codes " task " ++ (decimal e.task.0 ++ (codes " job " ++ (decimal e.job ++ (codes " units " ++ decimal e.units)))))) (by_test 10 (codes "at ") refl)
    (All-append P (decimal e.at) (codes " task " ++ (decimal e.task.0 ++ (codes " job " ++ (decimal e.job ++ (codes " units " ++ decimal e.units))))) (digits e.at fits.at)
    (All-append P (codes " task ") (decimal e.task.0 ++ (codes " job " ++ (decimal e.job ++ (codes " units " ++ decimal e.units)))) (by_test 10 (codes " task ") refl)
    (All-append P (decimal e.task.0) (codes " job " ++ (decimal e.job ++ (codes " units " ++ decimal e.units))) (digits e.task.0 (let t = fits.task in omega (arith, t)))
    (All-append P (codes " job ") (decimal e.job ++ (codes " units " ++ decimal e.units)) (by_test 10 (codes " job ") refl)
    (All-append P (decimal e.job) (codes " units " ++ decimal e.units) (digits e.job fits.job)
    (All-append P (codes " units ") (decimal e.units) (by_test 10 (codes " units ") refl) (digits e.units fits.units)))))))

entries_back : (k : ℕ) (last : Option Entry) (entries : List Entry) → All FitsEntry entries → AreOrdered last entries →
    entries_from k last (lines_of (flat_map entry_text entries)) ≡ Ok entries
entries_back k last [] fits ordered = refl
entries_back k last (e ∷ es) fits ordered =
    let e_fits : FitsEntry e = fits 0 e (omega arith) in
    let lines : lines_of (flat_map entry_text (e ∷ es)) ≡ entry_line e ∷ lines_of (flat_map entry_text es) =
    ap lines_of (append_assoc (entry_line e) (codes "\n") (flat_map entry_text es)) ∙ slice_split_at is_line_feed (entry_line e) 10 (flat_map entry_text es) (line_lacks e e_fits) refl in
    let next : next_entry last (entry_line e) ≡ Some e =
    ap (option_and_then (λ entry. cond (keeps_order last entry) (Some entry) None)) (entry_back e e_fits) ∙ ap (λ t. cond t (Some e) None) ordered.0 in
    let later = entries_back (k + 1) (Some e) es (λ j d inside. fits (suc j) d (omega (arith, inside))) ordered.1 in
    ap (entries_from k last) lines ∙ from_more k last (entry_line e) (lines_of (flat_map entry_text es)) (length_lines_of (flat_map entry_text es))
    ∙ ap (λ o. or_line k o >>= then_entries (k + 1) (lines_of (flat_map entry_text es))) next
    ∙ ap (λ r. r >>= λ entries. Ok (e ∷ entries)) later

pub text_back : (hyper : ℕ) (entries : List Entry) → hyper < 2 ^ 64 → All FitsEntry entries → AreOrdered None entries →
    entries_of hyper (text_of hyper entries) ≡ Ok entries
text_back hyper entries small fits ordered =
    let first_line : lines_of (text_of hyper entries) ≡ codes "table 1" ∷ lines_of (codes "hyperperiod " ++ (decimal hyper ++ 10 ∷ flat_map entry_text entries)) =
    slice_split_at is_line_feed (codes "table 1") 10 (codes "hyperperiod " ++ (decimal hyper ++ 10 ∷ flat_map entry_text entries)) (by_test 10 (codes "table 1") refl) refl in
    let second_lacks : Lacks 10 (codes "hyperperiod " ++ decimal hyper) =
    All-append (λ x. (x == 10) ≡ false) (codes "hyperperiod ") (decimal hyper) (by_test 10 (codes "hyperperiod ") refl) (decimal_lacks 10 hyper (omega arith) small) in
    let second_line : lines_of (codes "hyperperiod " ++ (decimal hyper ++ 10 ∷ flat_map entry_text entries)) ≡ (codes "hyperperiod " ++ decimal hyper) ∷ lines_of (flat_map entry_text entries) =
    ap lines_of (sym (append_assoc (codes "hyperperiod ") (decimal hyper) (10 ∷ flat_map entry_text entries)))
    ∙ slice_split_at is_line_feed (codes "hyperperiod " ++ decimal hyper) 10 (flat_map entry_text entries) second_lacks refl in
    let told : tells_hyper hyper (codes "hyperperiod " ++ decimal hyper) ≡ true =
    ap (is_number hyper) (last_back (codes "hyperperiod ") hyper small) ∙ same hyper in
    let first_step : after_line 1 is_header (lines_of (text_of hyper entries)) ≡ Ok (lines_of (codes "hyperperiod " ++ (decimal hyper ++ 10 ∷ flat_map entry_text entries))) =
    ap (after_line 1 is_header) first_line ∙ after_more 1 is_header (codes "table 1") (lines_of (codes "hyperperiod " ++ (decimal hyper ++ 10 ∷ flat_map entry_text entries)))
    (length_lines_of (codes "hyperperiod " ++ (decimal hyper ++ 10 ∷ flat_map entry_text entries))) in
    let second_step : after_line 2 (tells_hyper hyper) (lines_of (codes "hyperperiod " ++ (decimal hyper ++ 10 ∷ flat_map entry_text entries))) ≡ Ok (lines_of (flat_map entry_text entries)) =
    ap (after_line 2 (tells_hyper hyper)) second_line ∙ after_more 2 (tells_hyper hyper) (codes "hyperperiod " ++ decimal hyper) (lines_of (flat_map entry_text entries))
    (length_lines_of (flat_map entry_text entries))
    ∙ ap (λ t. cond t (Ok (lines_of (flat_map entry_text entries))) (Err (faults.Syntax 2))) told in
    ap (λ r. r >>= λ after. (after_line 2 (tells_hyper hyper) after >>= λ lines. entries_from 3 None lines)) first_step
    ∙ ap (λ r. r >>= λ lines. entries_from 3 None lines) second_step
    ∙ entries_back 3 None entries fits ordered
  where
    same : (n : ℕ) → (n == n) ≡ true
    same n = grind (arith, nat_tests)

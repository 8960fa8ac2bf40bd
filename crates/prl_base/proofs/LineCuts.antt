-- A text's lines, one cut after another.
use Rattle.std.proofs.Common.{◌≡◌, ℕ, ◌+◌, ◌<◌, ◌≤◌, Bool, true, false, not, cond, nat_lt, List, [], ◌∷◌, length, length-drop, Option, Some, None, refl, sym, ap, ◌∙◌, arith}
use borrow.Author.Tests.{ltb-true, ltb-false}
use Rattle.std.specs.Option.{option_map}
use Rattle.std.specs.List.{position_or_len, slice_split, before_first, after_first, onto_first}
use Rattle.std.proofs.lemmas.List.Splits.{slice_split_first, length-slice_split}
use Rattle.prl_base.specs.Lines.{is_line_feed, cut_line, lines_of}

cut_cases : (small : Bool) (p q : List ℕ × List ℕ) → Some p ≡ (cond small (Some q) None) → (small ≡ true) × (p ≡ q)
cut_cases true p q e = (refl, cc)
cut_cases false p q e = cc

none_cases : (small : Bool) (p : List ℕ × List ℕ) → None ≡ (cond small (Some p) None) → small ≡ false
none_cases true p e = cc
none_cases false p e = refl

-- a text that has a line feed has its first line in front of those of the rest
pub lines_of_cut : (text line after : List ℕ) → cut_line text ≡ Some (line, after) → lines_of text ≡ line ∷ lines_of after
lines_of_cut text line after e =
    let cut = cut_cases (nat_lt (position_or_len is_line_feed text) (length text)) (line, after) (before_first is_line_feed text, after_first is_line_feed text) (sym e) in
    let first = ap (λ (p : List ℕ × List ℕ). p.0) cut.1 in
    let second = ap (λ (p : List ℕ × List ℕ). p.1) cut.1 in
    let small : position_or_len is_line_feed text < length text = ltb-true _ _ cut.0 in
    slice_split_first is_line_feed text 0 small
    ∙ ap (λ (l : List ℕ). l ∷ lines_of (after_first is_line_feed text)) (sym first)
    ∙ ap (λ (b : List ℕ). line ∷ lines_of b) (sym second)

-- what stands after a line is shorter than the text
pub length_cut : (text line after : List ℕ) → cut_line text ≡ Some (line, after) → length after < length text
length_cut text line after e =
    let cut = cut_cases (nat_lt (position_or_len is_line_feed text) (length text)) (line, after) (before_first is_line_feed text, after_first is_line_feed text) (sym e) in
    let same = ap (λ (p : List ℕ × List ℕ). length p.1) cut.1 in
    let small : position_or_len is_line_feed text < length text = ltb-true _ _ cut.0 in
    omega (arith, same, small, length-drop (position_or_len is_line_feed text + 1) text)

one_more : (feed : Bool) (x : ℕ) (xs : List ℕ) → length (x ∷ xs) ≤ cond (not feed) (1 + position_or_len is_line_feed xs) 0
    → (length xs ≤ position_or_len is_line_feed xs → slice_split is_line_feed xs ≡ xs ∷ [])
    → cond feed ([] ∷ slice_split is_line_feed xs) (onto_first x (slice_split is_line_feed xs)) ≡ (x ∷ xs) ∷ []
one_more true x xs h ih = absurd (omega arith)
one_more false x xs h ih = ap (onto_first x) (ih (omega arith))

lines_of_no_feed : (text : List ℕ) → length text ≤ position_or_len is_line_feed text → lines_of text ≡ text ∷ []
lines_of_no_feed [] h = refl
lines_of_no_feed (x ∷ xs) h = one_more (is_line_feed x) x xs h (lines_of_no_feed xs)

-- a text without a line feed is the one thing after the last
pub lines_of_end : (text : List ℕ) → cut_line text ≡ None → lines_of text ≡ text ∷ []
lines_of_end text e =
    lines_of_no_feed text (ltb-false _ _ (none_cases (nat_lt (position_or_len is_line_feed text) (length text)) _ (sym e)))

-- there is always something
pub length_lines_of : (text : List ℕ) → 0 < length (lines_of text)
length_lines_of text = omega (arith, length-slice_split is_line_feed text)

-- what is no `Some` is seen as None
pub option_map_none : {A B : Type 0} (f : A → B) (r : Option A) (m : Option B) → option_map f r ≡ m → ((x : A) → r ≡ Some x → ⊥) → m ≡ None
option_map_none f None m e other = sym e
option_map_none f (Some x) m e other = absurd (other x refl)

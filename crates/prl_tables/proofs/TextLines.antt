-- The lines of a table's text, one cut after another.
use Rattle.std.proofs.Common.{◌≡◌, ℕ, ◌+◌, ◌<◌, Bool, true, false, cond, List, [], ◌∷◌, ◌++◌, length, Option, Some, None, Result, Ok, Err, refl, sym, ap, ◌∙◌, arith, append_assoc}
use Rattle.prl_base.specs.Vocabulary.{cut_line, lines_of, ◌>>=◌}
use Rattle.prl_base.proofs.LineCuts.{lines_of_cut, lines_of_end, length_lines_of}
use Rattle.prl_tables.specs.Vocabulary.{TableFault, Entry, after_line, entries_from, next_entry, or_line}
use Rattle.prl_tables.specs.declared.reading.TableFault.TheVariants as faults

pub after_more : (k : ℕ) (test : List ℕ → Bool) (line : List ℕ) (lines : List (List ℕ)) → 0 < length lines →
    after_line k test (line ∷ lines) ≡ cond (test line) (Ok lines) (Err (faults.Syntax k))
after_more k test line [] some = absurd (omega arith)
after_more k test line (next ∷ lines) some = refl

-- the line passes the test, or not, or is not there
pub after_yes : (k : ℕ) (test : List ℕ → Bool) (text line after : List ℕ) → cut_line text ≡ Some (line, after) → test line ≡ true →
    after_line k test (lines_of text) ≡ Ok (lines_of after)
after_yes k test text line after cut yes_it =
    ap (after_line k test) (lines_of_cut text line after cut) ∙ after_more k test line (lines_of after) (length_lines_of after)
    ∙ ap (λ b. cond b (Ok (lines_of after)) (Err (faults.Syntax k))) yes_it

pub after_no : (k : ℕ) (test : List ℕ → Bool) (text line after : List ℕ) → cut_line text ≡ Some (line, after) → test line ≡ false →
    after_line k test (lines_of text) ≡ Err (faults.Syntax k)
after_no k test text line after cut no_it =
    ap (after_line k test) (lines_of_cut text line after cut) ∙ after_more k test line (lines_of after) (length_lines_of after)
    ∙ ap (λ b. cond b (Ok (lines_of after)) (Err (faults.Syntax k))) no_it

pub after_none : (k : ℕ) (test : List ℕ → Bool) (text : List ℕ) → cut_line text ≡ None → after_line k test (lines_of text) ≡ Err (faults.Syntax k)
after_none k test text cut = ap (after_line k test) (lines_of_end text cut)

-- entries with more entries in front of them
abbrev pub with_front : List Entry → Result (List Entry) TableFault → Result (List Entry) TableFault
with_front front read = read >>= λ entries. Ok (front ++ entries)

-- one entry in front
abbrev pub then_entries : ℕ → List (List ℕ) → Entry → Result (List Entry) TableFault
then_entries k lines entry = entries_from k (Some entry) lines >>= λ entries. Ok (entry ∷ entries)

pub from_more : (k : ℕ) (last : Option Entry) (line : List ℕ) (lines : List (List ℕ)) → 0 < length lines →
    entries_from k last (line ∷ lines) ≡ (or_line k (next_entry last line) >>= then_entries (k + 1) lines)
from_more k last line [] some = absurd (omega arith)
from_more k last line (next ∷ lines) some = refl

regroup : (front : List Entry) (entry : Entry) (read : Result (List Entry) TableFault) →
    with_front (front ++ entry ∷ []) read ≡ with_front front (read >>= λ entries. Ok (entry ∷ entries))
regroup front entry (Err fault) = refl
regroup front entry (Ok entries) = ap Ok (append_assoc front (entry ∷ []) entries)

from_cut : (k : ℕ) (last : Option Entry) (text line after : List ℕ) → cut_line text ≡ Some (line, after) →
    entries_from k last (lines_of text) ≡ (or_line k (next_entry last line) >>= then_entries (k + 1) (lines_of after))
from_cut k last text line after cut =
    ap (entries_from k last) (lines_of_cut text line after cut) ∙ from_more k last line (lines_of after) (length_lines_of after)

-- a line that is an entry puts it after those in front
pub front_entry : (k : ℕ) (last : Option Entry) (front : List Entry) (text line after : List ℕ) (entry : Entry) → cut_line text ≡ Some (line, after) →
    or_line k (next_entry last line) ≡ Ok entry →
    with_front (front ++ entry ∷ []) (entries_from (k + 1) (Some entry) (lines_of after)) ≡ with_front front (entries_from k last (lines_of text))
front_entry k last front text line after entry cut read =
    regroup front entry (entries_from (k + 1) (Some entry) (lines_of after))
    ∙ ap (λ r. with_front front (r >>= then_entries (k + 1) (lines_of after))) (sym read)
    ∙ ap (with_front front) (sym (from_cut k last text line after cut))

-- a line that is none is the fault
pub front_fault : (k : ℕ) (last : Option Entry) (front : List Entry) (text line after : List ℕ) (fault : TableFault) → cut_line text ≡ Some (line, after) →
    or_line k (next_entry last line) ≡ Err fault → with_front front (entries_from k last (lines_of text)) ≡ Err fault
front_fault k last front text line after fault cut read =
    ap (with_front front) (from_cut k last text line after cut ∙ ap (λ r. r >>= then_entries (k + 1) (lines_of after)) read)

-- where more is left, its line lacks its end
pub front_more : (k : ℕ) (last : Option Entry) (front : List Entry) (text : List ℕ) → cut_line text ≡ None → (length text ≡ 0 → ⊥) →
    with_front front (entries_from k last (lines_of text)) ≡ Err (faults.Syntax k)
front_more k last front [] cut some = absurd (some refl)
front_more k last front (b ∷ bs) cut some = ap (λ l. with_front front (entries_from k last l)) (lines_of_end (b ∷ bs) cut)

-- Tasks placed line by line.
use Rattle.std.proofs.Common.{◌≡◌, ℕ, ◌+◌, ◌<◌, List, [], ◌∷◌, ◌++◌, length, Option, Some, None, Result, Ok, Err, refl, sym, ap, ◌∙◌, arith, append_assoc}
use Rattle.prl_base.specs.Vocabulary.{cut_line, lines_of, ◌>>=◌}
use Rattle.prl_base.proofs.LineCuts.{lines_of_cut, lines_of_end, length_lines_of}
use Rattle.prl_schedules.specs.Schedules.{without_return}
use Rattle.prl_cores.specs.declared.texts.CoresFault.{CoresFault}
use Rattle.prl_cores.specs.Processors.{or_line, placing_of, placed_in, placed_from, all_placed}

-- the lines after a line, from the table that it leaves
abbrev pub then_lines : List (List ℕ) → ℕ → List (List ℕ) → List (Option ℕ) → Result (List (Option ℕ)) CoresFault
then_lines names k lines table = placed_from names k table lines

placed_cons : (names : List (List ℕ)) (k : ℕ) (table : List (Option ℕ)) (line : List ℕ) (lines : List (List ℕ)) → 0 < length lines →
    placed_from names k table (line ∷ lines) ≡ (or_line k (placed_in table (placing_of names (without_return line))) >>= then_lines names (k + 1) lines)
placed_cons names k table line [] h = absurd (omega arith)
placed_cons names k table line (next ∷ lines) h = refl

pub placed_cut : (names : List (List ℕ)) (k : ℕ) (table : List (Option ℕ)) (text line after : List ℕ) → cut_line text ≡ Some (line, after) →
    placed_from names k table (lines_of text) ≡ (or_line k (placed_in table (placing_of names (without_return line))) >>= then_lines names (k + 1) (lines_of after))
placed_cut names k table text line after cut =
    ap (placed_from names k table) (lines_of_cut text line after cut) ∙ placed_cons names k table line (lines_of after) (length_lines_of after)

-- a line that places a task goes on to the lines after it
pub placed_more : (names : List (List ℕ)) (k : ℕ) (table later : List (Option ℕ)) (text line after : List ℕ) → cut_line text ≡ Some (line, after) →
    or_line k (placed_in table (placing_of names (without_return line))) ≡ Ok later →
    placed_from names (k + 1) later (lines_of after) ≡ placed_from names k table (lines_of text)
placed_more names k table later text line after cut read =
    sym (placed_cut names k table text line after cut ∙ ap (λ r. r >>= then_lines names (k + 1) (lines_of after)) read)

-- one that does not is the fault
pub placed_fault : (names : List (List ℕ)) (k : ℕ) (table : List (Option ℕ)) (text line after : List ℕ) (fault : CoresFault) → cut_line text ≡ Some (line, after) →
    or_line k (placed_in table (placing_of names (without_return line))) ≡ Err fault → placed_from names k table (lines_of text) ≡ Err fault
placed_fault names k table text line after fault cut read =
    placed_cut names k table text line after cut ∙ ap (λ r. r >>= then_lines names (k + 1) (lines_of after)) read

-- where more is left, it is a line
pub placed_last : (names : List (List ℕ)) (k : ℕ) (table : List (Option ℕ)) (text : List ℕ) → cut_line text ≡ None → (length text ≡ 0 → ⊥) →
    placed_from names k table (lines_of text) ≡ or_line k (placed_in table (placing_of names text))
placed_last names k table [] e some = absurd (some refl)
placed_last names k table (b ∷ bs) e some = ap (placed_from names k table) (lines_of_end (b ∷ bs) e)

-- processors with more of them in front
abbrev pub with_front : List ℕ → Result (List ℕ) CoresFault → Result (List ℕ) CoresFault
with_front front read = read >>= λ processors. Ok (front ++ processors)

pub front_more : (front : List ℕ) (i processor : ℕ) (table : List (Option ℕ)) →
    with_front front (all_placed i (Some processor ∷ table)) ≡ with_front (front ++ processor ∷ []) (all_placed (i + 1) table)
front_more front i processor table = go (all_placed (i + 1) table)
  where
    go : (read : Result (List ℕ) CoresFault) → with_front front (read >>= λ processors. Ok (processor ∷ processors)) ≡ with_front (front ++ processor ∷ []) read
    go (Ok processors) = ap Ok (sym (append_assoc front (processor ∷ []) processors))
    go (Err fault) = refl

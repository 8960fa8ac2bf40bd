-- How a call ends where something may not fit.
use Rattle.std.specs.Prelude.{◌≡◌, ℕ, false, List, [], ◌∷◌, Option, Result, Ok, Err, IfOk, codes, decimal}
use Rattle.std.specs.Bool.{OnFalse}
use Rattle.std.specs.List.{concat}
use Rattle.prl_shown.specs.Shown.{shown}
use Rattle.prl_io.specs.Views.{FolderView, SinkView}
use Rattle.prl_io.specs.Endings.{Ends, IsTold}
use Rattle.prl_io.specs.Pairs.{asks_help}
use Rattle.prl_io.specs.declared.endings.Stop.TheVariants as stops
use Rattle.prl_io.specs.declared.faults.Fault.{Fault}
use Rattle.prl_io.specs.declared.faults.Fault.TheVariants as faults
use Rattle.prl_io.specs.declared.faults.Piece.{Piece}
use Rattle.prl_io.specs.declared.faults.Piece.TheVariants as pieces

-- the line that tells what does not fit, and why
abbrev pub unfit_line : List ℕ → List ℕ → List ℕ
unfit_line name why = concat (codes "refused: " ∷ name ∷ codes ": " ∷ why ∷ codes "\n" ∷ [])

-- a piece of a line as it is written
abbrev pub piece_text : Piece → List ℕ
piece_text (pieces.Text text) = text.now
piece_text (pieces.Number number) = decimal number

-- what a name stands for does not fit, for this reason, both as a terminal may show them; or memory ran out
abbrev pub IsUnfit : List ℕ → List ℕ → Fault → Type 0
IsUnfit name why (faults.Stop stop) = stop ≡ stops.Memory
IsUnfit name why (faults.Unfit label line) = (label ≡ shown false name) × (line.items ≡ shown false why)

-- The text is in out, or a front of it; or nothing, at the status of the stop, or at status 1 where something does not fit. A text is
-- seen by `view`.
abbrev pub EndsSo : {A : Type 0} → (A → List ℕ) → Result A Fault → SinkView → SinkView → SinkView → SinkView → ℕ → Type 0
EndsSo view (Ok text) out out' err err' code = Ends view (Ok text) out out' err err' code
EndsSo view (Err (faults.Stop stop)) out out' err err' code = Ends view (Err stop) out out' err err' code
EndsSo view (Err (faults.Unfit name why)) out out' err err' code = (code ≡ 1) × (out' ≡ out) × IsTold err err' (unfit_line name why.items)

-- the files that a call may read, by their names
abbrev pub Folder : Type 0
Folder = Option (List ℕ → Option (List ℕ))

-- what a call answers whose text is to be so, unless the words ask for what the options mean: its outcome, and how it ends
pub record AnswersBy (IsText : Folder → List (List ℕ) → List ℕ → Type 0) (words : List (List ℕ)) (files : FolderView) (out out' err err' : SinkView) (code : ℕ) : Type 0 where
  pub outcome : Result (List ℕ) Fault
  pub ends : EndsSo (λ text. text) outcome out out' err err' code
  pub text : OnFalse (asks_help words) (IfOk outcome (IsText files.folder words))

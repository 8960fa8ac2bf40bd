-- Outcomes with their texts as lists of bytes.
use Rattle.prl_base.proofs.Standard.{◌≡◌, ℕ, List, Result, Ok, Err, subst, IfOk, OnFalse, OnFalse_at, OnFalse_from}
use Rattle.std.specs.Result.{result_map_both}
use Rattle.prl_io.specs.Views.{FolderView, SinkView}
use Rattle.prl_io.specs.declared.faults.Fault.{Fault}
use Rattle.prl_io.specs.declared.faults.Fault.TheVariants as faults
use Rattle.prl_io.specs.Faults.{AnswersBy, EndsSo, Folder}
use Rattle.prl_io.specs.Pairs.{asks_help}

ends_so : {A : Type 0} (view : A → List ℕ) (r : Result A Fault) (out out' err err' : SinkView) (code : ℕ)
    → EndsSo view r out out' err err' code → EndsSo (λ text. text) (result_map_both view (λ e. e) r) out out' err err' code
ends_so view (Ok text) out out' err err' code h = h
ends_so view (Err (faults.Stop stop)) out out' err err' code h = h
ends_so view (Err (faults.Unfit name why)) out out' err err' code h = h

text_so : {A : Type 0} (view : A → List ℕ) (r : Result A Fault) (P : List ℕ → Type 0)
    → IfOk r (λ text. P (view text)) → IfOk (result_map_both view (λ e. e) r) P
text_so view (Ok text) P h = h
text_so view (Err fault) P h = h

-- what a call answers, by the words after the program's own name, however these are written
pub answers : {A : Type 0} (IsText : Folder → List (List ℕ) → List ℕ → Type 0) (view : A → List ℕ) (r : Result A Fault)
    (read words : List (List ℕ)) (files : FolderView) (out out' err err' : SinkView) (code : ℕ) → read ≡ words
    → EndsSo view r out out' err err' code → OnFalse (asks_help read) (IfOk r (λ text. IsText files.folder read (view text)))
    → AnswersBy IsText words files out out' err err' code
answers IsText view r read words files out out' err err' code same ends told = record {
  outcome = result_map_both view (λ e. e) r;
  ends = ends_so view r out out' err err' code ends;
  text = subst (λ (ws : List (List ℕ)). OnFalse (asks_help ws) (IfOk (result_map_both view (λ e. e) r) (IsText files.folder ws))) same
      (OnFalse_from (asks_help read) _ (λ no. text_so view r _ (OnFalse_at no told)));
}

-- Why nothing is told, from what private calls say.
use Rattle.prl_base.proofs.Standard.{◌≡◌, ◌&&◌, and_parts, false≢true, codes, is_some, ℕ, true, List, Option, Some, None, Result, Ok, Err, IfErr, IfOk, OnFalse, OnTrue, refl, subst}
use Rattle.prl_io.specs.Faults.{EndsSo}
use Rattle.prl_io.specs.Pairs.{are_pairs, asks_help, value_of}
use Rattle.prl_io.specs.Views.{FolderView, SinkView}
use Rattle.prl_io.specs.declared.endings.Stop.TheVariants as stops
use Rattle.prl_io.specs.declared.faults.Fault.{Fault}
use Rattle.prl_io.specs.declared.faults.Fault.TheVariants as faults
use Rattle.prl_frame.specs.Answers.{Answers}
use Rattle.prl_frame.specs.Options.{file_of, has, is_command, options, other_words, some_or_none}
use Rattle.prl_frame.specs.Refused.{IsRefused}
use Rattle.prl_frame.specs.Told.{IsTold}

-- the same of an outcome
pub outcome_refused : {X : Type 0} (r : Result X Fault) (P Q : Fault → Type 0) → IfErr r P → ((fault : Fault) → P fault → Q fault) → IfErr r Q
outcome_refused (Ok x) P Q is weaker = tt
outcome_refused (Err fault) P Q is weaker = weaker fault is

-- what a call answers, however its text is held
answers_with : {A : Type 0} (view : A → List ℕ) (r : Result A Fault) (words : List (List ℕ)) (files files' : FolderView) (out out' err err' : SinkView) (code : ℕ) →
    EndsSo view r out out' err err' code → OnFalse (asks_help words) (IfOk r (λ text. IsTold files.folder words (view text))) →
    OnFalse (asks_help words) (IfErr r (IsRefused files files' (other_words words))) → OnTrue (asks_help words) (IfErr r (λ fault. fault ≡ faults.Stop stops.Memory)) →
    Answers words files files' out out' err err' code
answers_with view (Ok text) words files files' out out' err err' code ends told refused helped =
    record { outcome = Ok (view text); ends = ends; told = told; refused = refused; helped = helped }
answers_with view (Err (faults.Stop stop)) words files files' out out' err err' code ends told refused helped =
    record { outcome = Err (faults.Stop stop); ends = ends; told = told; refused = refused; helped = helped }
answers_with view (Err (faults.Unfit label line)) words files files' out out' err err' code ends told refused helped =
    record { outcome = Err (faults.Unfit label line); ends = ends; told = told; refused = refused; helped = helped }

-- by the words after the program's own name, however these are written
pub answers_by : {A : Type 0} (view : A → List ℕ) (r : Result A Fault) (read words : List (List ℕ)) (files files' : FolderView) (out out' err err' : SinkView) (code : ℕ) → read ≡ words →
    EndsSo view r out out' err err' code → OnFalse (asks_help read) (IfOk r (λ text. IsTold files.folder read (view text))) →
    OnFalse (asks_help read) (IfErr r (IsRefused files files' (other_words read))) → OnTrue (asks_help read) (IfErr r (λ fault. fault ≡ faults.Stop stops.Memory)) →
    Answers words files files' out out' err err' code
answers_by view r read words files files' out out' err err' code same ends told refused helped =
    subst (λ (ws : List (List ℕ)). Answers ws files files' out out' err err' code) same (answers_with view r read files files' out out' err err' code ends told refused helped)

-- the words of a command name the files of a plan and of a table
some_of : (o : Option (List ℕ)) → is_some o ≡ true → o ≡ Some (some_or_none o)
some_of None is = absurd (false≢true is)
some_of (Some name) is = refl

both_named : (words : List (List ℕ)) → is_command words ≡ true → (has (codes "--plan") words ≡ true) × (has (codes "--table") words ≡ true)
both_named words is = and_parts (has (codes "--plan") words) (has (codes "--table") words) (and_parts (are_pairs options words) (has (codes "--plan") words && has (codes "--table") words) is).1

pub plan_named : (words : List (List ℕ)) → is_command words ≡ true → value_of (codes "--plan") words ≡ Some (file_of (codes "--plan") words)
plan_named words is = some_of (value_of (codes "--plan") words) (both_named words is).0

pub table_named : (words : List (List ℕ)) → is_command words ≡ true → value_of (codes "--table") words ≡ Some (file_of (codes "--table") words)
table_named words is = some_of (value_of (codes "--table") words) (both_named words is).1

-- Why nothing is told, from what private calls say.
use Rattle.prl_base.proofs.Standard.{◌≡◌, ◌≢◌, ◌&&◌, ◌⊎◌, inl, inr, and_parts, ap, false≢true, codes, is_some, length, ℕ, true, false, List, Option, Some, None, Result, Ok, Err, IfErr, IfNone, IfOk, MatchOption, OnFalse, OnTrue, refl, subst, sym}
use Rattle.prl_io.specs.Faults.{EndsSo, IsUnfit}
use Rattle.prl_base.specs.declared.numbers.TaskNo.{TaskNo}
use Rattle.prl_io.specs.Pairs.{are_pairs, asks_help, value_of}
use Rattle.prl_io.specs.Views.{FolderView, SinkView}
use Rattle.prl_io.specs.declared.endings.Stop.{Stop}
use Rattle.prl_io.specs.declared.endings.Stop.TheVariants as stops
use Rattle.prl_io.specs.declared.faults.Fault.{Fault}
use Rattle.prl_io.specs.declared.faults.Fault.TheVariants as faults
use Rattle.prl_plan.specs.Plans.{PlanView}
use Rattle.prl_times.specs.Answers.{Answers}
use Rattle.prl_times.specs.Options.{are_apart, file_of, has, is_command, options, pairs_of, some_or_none}
use Rattle.prl_times.specs.Refused.{AskWrongly, IsEverLong, IsLongWhere, IsMisfit, IsRefused, IsRefusedOf, IsUnfitWhere, IsUsageWhere}
use Rattle.prl_times.specs.Told.{IsActuatorAsked, IsTold}

-- what holds where there is nothing
pub at_none : {X P : Type 0} (o : Option X) → IfNone o P → ((x : X) → o ≡ Some x → ⊥) → P
at_none None is other = is
at_none (Some x) is other = absurd (other x refl)

pub match_none : {X P : Type 0} (o : Option X) (Q : X → Type 0) → MatchOption o P Q → ((x : X) → o ≡ Some x → ⊥) → P
match_none None Q is other = is
match_none (Some x) Q is other = absurd (other x refl)

-- a reason of which something holds
pub unfit_where : (name why : List ℕ) (holds : List ℕ → Type 0) (fault : Fault) → IsUnfit name why fault → holds why → IsUnfitWhere name holds fault
unfit_where name why holds (faults.Stop stop) is so = is
unfit_where name why holds (faults.Unfit label line) is so = (why, is, so)

-- what does not fit is a misfit
pub refused_by_unfit : (plan : PlanView) (words : List (List ℕ)) (holds : List ℕ → Type 0) (fault : Fault) →
    IsUnfitWhere (file_of words) holds fault → ((why : List ℕ) → holds why → IsMisfit plan words why) → IsRefusedOf plan words fault
refused_by_unfit plan words holds (faults.Stop stop) is weaker = subst (λ (s : Stop). IsRefusedOf plan words (faults.Stop s)) (sym is) tt
refused_by_unfit plan words holds (faults.Unfit label line) is weaker = (is.0, is.1, weaker is.0 is.2)

-- words that are told to be none ask wrongly
pub refused_by_usage : (plan : PlanView) (words : List (List ℕ)) (holds : Type 0) (fault : Fault) → IsUsageWhere holds fault → (holds → AskWrongly plan words) → IsRefusedOf plan words fault
refused_by_usage plan words holds (faults.Stop stops.Memory) is weaker = tt
refused_by_usage plan words holds (faults.Stop (stops.Words form)) is weaker = weaker is
refused_by_usage plan words holds (faults.Stop (stops.Refused what)) is weaker = absurd is
refused_by_usage plan words holds (faults.Stop (stops.Absent name)) is weaker = absurd is
refused_by_usage plan words holds (faults.Stop (stops.TooLong name)) is weaker = absurd is
refused_by_usage plan words holds (faults.Stop (stops.Unread name)) is weaker = absurd is
refused_by_usage plan words holds (faults.Unfit label line) is weaker = absurd is

-- the same of an outcome
pub outcome_refused : {X : Type 0} (r : Result X Fault) (P Q : Fault → Type 0) → IfErr r P → ((fault : Fault) → P fault → Q fault) → IfErr r Q
outcome_refused (Ok x) P Q is weaker = tt
outcome_refused (Err fault) P Q is weaker = weaker fault is

-- what a call answers, however its text is held
answers_with : {A : Type 0} (view : A → List ℕ) (r : Result A Fault) (words : List (List ℕ)) (files files' : FolderView) (out out' err err' : SinkView) (code : ℕ) →
    EndsSo view r out out' err err' code → OnFalse (asks_help words) (IfOk r (λ text. IsTold files.folder words (view text))) →
    OnFalse (asks_help words) (IfErr r (IsRefused files files' (pairs_of words))) → OnTrue (asks_help words) (IfErr r (λ fault. fault ≡ faults.Stop stops.Memory)) →
    Answers words files files' out out' err err' code
answers_with view (Ok text) words files files' out out' err err' code ends told refused helped =
    record { outcome = Ok (view text); ends = ends; told = told; refused = refused; helped = helped }
answers_with view (Err (faults.Stop stop)) words files files' out out' err err' code ends told refused helped =
    record { outcome = Err (faults.Stop stop); ends = ends; told = told; refused = refused; helped = helped }
answers_with view (Err (faults.Unfit label line)) words files files' out out' err err' code ends told refused helped =
    record { outcome = Err (faults.Unfit label line); ends = ends; told = told; refused = refused; helped = helped }

-- by the words after the program's own name, however these are written
pub answers_by : {A : Type 0} (view : A → List ℕ) (r : Result A Fault) (read words : List (List ℕ)) (files files' : FolderView) (out out' err err' : SinkView) (code : ℕ) → read ≡ words →
    EndsSo view r out out' err err' code → OnFalse (asks_help read) (IfOk r (λ text. IsTold files.folder read (view text))) →
    OnFalse (asks_help read) (IfErr r (IsRefused files files' (pairs_of read))) → OnTrue (asks_help read) (IfErr r (λ fault. fault ≡ faults.Stop stops.Memory)) →
    Answers words files files' out out' err err' code
answers_by view r read words files files' out out' err err' code same ends told refused helped =
    subst (λ (ws : List (List ℕ)). Answers ws files files' out out' err err' code) same (answers_with view r read files files' out out' err err' code ends told refused helped)

-- what does not fit for such a reason
pub unfit_misfit : (plan : PlanView) (words : List (List ℕ)) (why : List ℕ) (fault : Fault) → IsUnfit (file_of words) why fault → IsMisfit plan words why → IsRefusedOf plan words fault
unfit_misfit plan words why fault is so = refused_by_unfit plan words (IsMisfit plan words) fault (unfit_where (file_of words) why (IsMisfit plan words) fault is so) (λ line holds. holds)

-- what is no skew of two sensors at an actuator
pub other_skew : (plan : PlanView) (words : List (List ℕ)) (tasks sensors : List TaskNo) (actuator : Option TaskNo) → sensors ≡ tasks → IsActuatorAsked plan words actuator →
    (length sensors ≢ 2) ⊎ (actuator ≡ None) → (length tasks ≢ 2) ⊎ (has (codes "--actuator") words ≡ false)
other_skew plan words tasks sensors actuator same asked (inl other) = inl (subst (λ (xs : List TaskNo). length xs ≢ 2) same other)
other_skew plan words tasks sensors actuator same asked (inr none) = inr (ap is_some (subst (λ (o : Option TaskNo). IsActuatorAsked plan words o) none asked))

-- the words of a command name the file of a plan
some_of : (o : Option (List ℕ)) → is_some o ≡ true → o ≡ Some (some_or_none o)
some_of None is = absurd (false≢true is)
some_of (Some name) is = refl

pub file_named : (words : List (List ℕ)) → is_command words ≡ true → value_of (codes "--plan") words ≡ Some (file_of words)
file_named words is = some_of (value_of (codes "--plan") words) (and_parts (are_pairs options words && are_apart words) (has (codes "--plan") words) is).1

-- a limit that is told of what the words ask for ever
pub refused_by_long : (plan : PlanView) (words : List (List ℕ)) (fault : Fault) → has (codes "--for-ever") words ≡ true → IsLongWhere (IsEverLong plan) fault → IsRefusedOf plan words fault
refused_by_long plan words (faults.Stop stops.Memory) asked is = tt
refused_by_long plan words (faults.Stop (stops.Words form)) asked is = absurd is
refused_by_long plan words (faults.Stop (stops.Refused what)) asked is = inr (asked, is)
refused_by_long plan words (faults.Stop (stops.Absent name)) asked is = absurd is
refused_by_long plan words (faults.Stop (stops.TooLong name)) asked is = absurd is
refused_by_long plan words (faults.Stop (stops.Unread name)) asked is = absurd is
refused_by_long plan words (faults.Unfit label line) asked is = absurd is

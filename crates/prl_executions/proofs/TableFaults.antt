-- What reading and checking the text of a table tell.
use Rattle.std.proofs.Common.{◌≡◌, ◌≢◌, ◌+◌, if◌then◌else◌, ℕ, Bool, true, false, List, [], ◌∷◌, length, Option, Some, None, Result, Ok, Err, refl, subst, inl, inr}
use Rattle.prl_base.specs.Vocabulary.{lines_of, ◌>>=◌}
use Rattle.prl_plan.specs.Plans.{PlanView}
use Rattle.prl_stages.specs.declared.faults.Fault.TheVariants as faults
use Rattle.prl_stages.specs.declared.faults.InputFile.TheVariants as files
use Rattle.prl_stages.specs.Vocabulary.{Given, text_of, HasPlan, IsTableFault, table_refusal}
use Rattle.prl_stages.specs.declared.faults.TableRefusal.{TableRefusal}
use Rattle.prl_stages.specs.declared.stages.Stage.TheVariants as stages
use Rattle.prl_stages.specs.declared.stages.Stop.TheVariants as stops
use Rattle.prl_tables.specs.TableTexts.{after_line, entries_from, entries_of, is_header, next_entry, no_more, or_line, tells_hyper}
use Rattle.prl_tables.specs.declared.reading.TableFault.{TableFault}
use Rattle.prl_overlaps.specs.declared.entries.Entry.{Entry}
use Rattle.prl_tables.specs.declared.reading.TableFault.TheVariants as checking
use Rattle.prl_executions.specs.code.Faults.{AreOfTask}
use Rattle.prl_calls.specs.Stops.{StopsAt}

-- a line that is not of the text
abbrev IsSyntax : TableFault → Type 0
IsSyntax (checking.Syntax line) = Unit {0}
IsSyntax (checking.Piece line) = ⊥
IsSyntax (checking.Units task job) = ⊥
IsSyntax (checking.Clash first second) = ⊥
IsSyntax (checking.Order edge job) = ⊥
IsSyntax checking.Memory = ⊥

ok_err : {X : Type 0} (x : X) (fault : TableFault) → Ok x ≡ Err fault → ⊥
ok_err x fault e = cc

same_err : (X : Type 0) (r : Result X TableFault) (a b : TableFault) → r ≡ Err a → r ≡ Err b → a ≡ b
same_err X r a b h k = cc

syntax_at : (X : Type 0) (r : Result X TableFault) (k : ℕ) (fault : TableFault) → r ≡ Err (checking.Syntax k) → r ≡ Err fault → IsSyntax fault
syntax_at X r k fault h e = subst IsSyntax (same_err X r (checking.Syntax k) fault h e) tt

-- one reading after another
then_err : {A B : Type 0} (r : Result A TableFault) (f : A → Result B TableFault) (fault : TableFault) → ((x : TableFault) → r ≡ Err x → IsSyntax x)
    → ((a : A) (x : TableFault) → f a ≡ Err x → IsSyntax x) → r >>= f ≡ Err fault → IsSyntax fault
then_err (Ok a) f fault first next e = next a fault e
then_err {A = A} {B = B} (Err x) f fault first next e = subst IsSyntax (same_err B (Err x) x fault refl e) (first x refl)

line_err : (k : ℕ) (entry : Option Entry) (fault : TableFault) → or_line k entry ≡ Err fault → IsSyntax fault
line_err k None fault e = syntax_at Entry (or_line k None) k fault refl e
line_err k (Some entry) fault e = absurd (ok_err entry fault e)

end_err : (k : ℕ) (line : List ℕ) (fault : TableFault) → no_more k line ≡ Err fault → IsSyntax fault
end_err k [] fault e = absurd (ok_err [] fault e)
end_err k (b ∷ bs) fault e = syntax_at (List Entry) (no_more k (b ∷ bs)) k fault refl e

entries_err : (lines : List (List ℕ)) (k : ℕ) (last : Option Entry) (fault : TableFault) → entries_from k last lines ≡ Err fault → IsSyntax fault
entries_err [] k last fault e = absurd (ok_err [] fault e)
entries_err (line ∷ []) k last fault e = end_err k line fault e
entries_err (line ∷ next ∷ lines) k last fault e =
    then_err (or_line k (next_entry last line)) (λ entry. entries_from (k + 1) (Some entry) (next ∷ lines) >>= (λ entries. Ok (entry ∷ entries))) fault
    (line_err k (next_entry last line))
    (λ entry x h. then_err (entries_from (k + 1) (Some entry) (next ∷ lines)) (λ entries. Ok (entry ∷ entries)) x (entries_err (next ∷ lines) (k + 1) (Some entry))
    (λ entries y g. absurd (ok_err (entry ∷ entries) y g)) h) e

test_err : (k : ℕ) (yes : Bool) (rest : List (List ℕ)) (fault : TableFault) → (if yes then Ok rest else Err (checking.Syntax k)) ≡ Err fault → IsSyntax fault
test_err k true rest fault e = absurd (ok_err rest fault e)
test_err k false rest fault e = syntax_at (List (List ℕ)) (Err (checking.Syntax k)) k fault refl e

after_err : (k : ℕ) (test : List ℕ → Bool) (lines : List (List ℕ)) (fault : TableFault) → after_line k test lines ≡ Err fault → IsSyntax fault
after_err k test [] fault e = syntax_at (List (List ℕ)) (after_line k test []) k fault refl e
after_err k test (line ∷ []) fault e = syntax_at (List (List ℕ)) (after_line k test (line ∷ [])) k fault refl e
after_err k test (line ∷ next ∷ lines) fault e = test_err k (test line) (next ∷ lines) fault e

-- a text that is not read has a line that is not of it
text_err : (hyper : ℕ) (text : List ℕ) (fault : TableFault) → entries_of hyper text ≡ Err fault → IsSyntax fault
text_err hyper text fault e =
    then_err (after_line 1 is_header (lines_of text)) (λ after. after_line 2 (tells_hyper hyper) after >>= (λ lines. entries_from 3 None lines)) fault
    (after_err 1 is_header (lines_of text))
    (λ after x h. then_err (after_line 2 (tells_hyper hyper) after) (λ lines. entries_from 3 None lines) x (after_err 2 (tells_hyper hyper) after)
    (λ lines y g. entries_err lines 3 None y g) h) e

-- units that are told are of a task
pub of_task : (plan : PlanView) (text : List ℕ) (fault : TableFault) → (fault ≢ checking.Memory → IsTableFault plan text fault) → AreOfTask (length plan.graph.tasks) fault
of_task plan text (checking.Syntax line) h = tt
of_task plan text (checking.Piece line) h = tt
of_task plan text (checking.Units task job) h = elim (h (λ e. cc)) [
  | inl unread ↦ absurd (text_err plan.graph.hyper text (checking.Units task job) unread)
  | inr bad ↦ bad.2.1.task
]
of_task plan text (checking.Clash first second) h = tt
of_task plan text (checking.Order edge job) h = tt
of_task plan text checking.Memory h = tt

none_some : (x : TableRefusal) → None ≡ Some x → ⊥
none_some x e = cc

-- what is told stops at the table
pub table_stops : (g : Given) (plan : PlanView) (fault : TableFault) (refusal : TableRefusal) → HasPlan g plan
    → (fault ≢ checking.Memory → IsTableFault plan (text_of g files.Table) fault) → table_refusal plan.graph fault ≡ Some refusal
    → StopsAt g stages.Table (stops.Refused stages.Table (faults.Table refusal))
table_stops g plan fault refusal has cause told = (
  refl,
  (
    plan,
    has,
    fault,
    cause (λ is. none_some refusal (subst (λ (x : TableFault). table_refusal plan.graph x ≡ Some refusal) is told)),
    refusal,
    told,
    refl,
  ),
)

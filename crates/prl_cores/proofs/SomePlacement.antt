-- Each text of processors gives a plan a spread, or has a fault.
use Rattle.std.proofs.Common.{◌≡◌, ◌≢◌, ◌+◌, ◌⊎◌, ℕ, suc, Bool, true, false, List, [], ◌∷◌, Option, Some, None, Result, Ok, Err, length, replicate, inl, inr, refl, ◌∙◌, ap, subst}
use Rattle.std.specs.Prelude.{set, is_some, slice_index_or, if◌then◌else◌}
use Rattle.std.proofs.lemmas.List.{length-map, length-replicate, length-set}
use Rattle.prl_base.specs.Vocabulary.{lines_of, ◌>>=◌}
use Rattle.prl_base.specs.declared.numbers.TaskNo.{TaskNo}
use Rattle.prl_plan.specs.Vocabulary.{Placement, PlanView, IsSpread}
use Rattle.prl_plan.specs.declared.graphs.Task.{Task}
use Rattle.prl_plan.specs.declared.tables.Window.{Window}
use Rattle.prl_schedules.specs.Vocabulary.{without_return, task_names}
use Rattle.prl_cores.specs.declared.texts.CoresFault.{CoresFault}
use Rattle.prl_cores.specs.declared.texts.CoresFault.TheVariants as faults
use Rattle.prl_cores.specs.Processors.{placing_of, placed_in, or_line, last_line, placed_from, all_placed, processors_of}

-- so many elements, or a fault of the text
abbrev IsLong : {A : Type 0} → ℕ → Result (List A) CoresFault → Type 0
IsLong n (Ok items) = length items ≡ n
IsLong n (Err fault) = fault ≢ faults.Memory

then_long : {A B : Type 0} (n m : ℕ) (read : Result (List A) CoresFault) (next : List A → Result (List B) CoresFault) → IsLong n read →
    ((items : List A) → length items ≡ n → IsLong m (next items)) → IsLong m (read >>= next)
then_long n m (Ok items) next long each = each items long
then_long n m (Err fault) next long each = long

line_long : (k : ℕ) (table : List (Option ℕ)) (placing : Option (TaskNo × ℕ)) → IsLong (length table) (or_line k (placed_in table placing))
line_long k table None = λ same. cc
line_long k table (Some placing) = go (is_some (slice_index_or table placing.0.0 None))
  where
    go : (taken : Bool) → IsLong (length table) (or_line k (if taken then None else Some (set table placing.0.0 (Some placing.1))))
    go true = λ same. cc
    go false = length-set table placing.0.0 (Some placing.1)

last_long : (names : List (List ℕ)) (k : ℕ) (table : List (Option ℕ)) (line : List ℕ) → IsLong (length table) (last_line names k table line)
last_long names k table [] = refl
last_long names k table (b ∷ bs) = line_long k table (placing_of names (b ∷ bs))

lines_long : (names : List (List ℕ)) (k : ℕ) (table : List (Option ℕ)) (lines : List (List ℕ)) → IsLong (length table) (placed_from names k table lines)
lines_long names k table [] = refl
lines_long names k table (line ∷ []) = last_long names k table line
lines_long names k table (line ∷ next ∷ lines) =
    then_long (length table) (length table) (or_line k (placed_in table (placing_of names (without_return line)))) (λ after. placed_from names (k + 1) after (next ∷ lines))
    (line_long k table (placing_of names (without_return line)))
    (λ after long. subst (λ (n : ℕ). IsLong n (placed_from names (k + 1) after (next ∷ lines))) long (lines_long names (k + 1) after (next ∷ lines)))

all_long : (i : ℕ) (table : List (Option ℕ)) → IsLong (length table) (all_placed i table)
all_long i [] = refl
all_long i (None ∷ table) = λ same. cc
all_long i (Some processor ∷ table) =
    then_long (length table) (suc (length table)) (all_placed (i + 1) table) (λ processors. Ok (processor ∷ processors)) (all_long (i + 1) table) (λ processors long. ap suc long)

text_long : (names : List (List ℕ)) (text : List ℕ) → IsLong (length names) (processors_of names text)
text_long names text =
    then_long (length names) (length names) (placed_from names 1 (replicate (length names) None) (lines_of text)) (all_placed 0)
    (subst (λ (n : ℕ). IsLong n (placed_from names 1 (replicate (length names) None) (lines_of text))) (length-replicate (length names) None)
    (lines_long names 1 (replicate (length names) None) (lines_of text)))
    (λ table long. subst (λ (n : ℕ). IsLong n (all_placed 0 table)) long (all_long 0 table))

abbrev pub IsPlacedOrFault : PlanView → List ℕ → Type 0
IsPlacedOrFault plan text =
    ((placement : Placement) × (processors_of (task_names plan) text ≡ Ok placement.processors) × IsSpread plan placement)
    ⊎ ((fault : CoresFault) × (fault ≢ faults.Memory) × (processors_of (task_names plan) text ≡ Err fault))

pub placed_or_fault : (plan : PlanView) (text : List ℕ) →
    ((processors : List ℕ) → length processors ≡ length plan.graph.tasks → (windows : List (List Window)) × IsSpread plan (record { processors = processors; windows = windows })) →
    IsPlacedOrFault plan text
placed_or_fault plan text spreads = go (processors_of (task_names plan) text) refl (text_long (task_names plan) text)
  where
    go : (read : Result (List ℕ) CoresFault) → processors_of (task_names plan) text ≡ read → IsLong (length (task_names plan)) read → IsPlacedOrFault plan text
    go (Ok processors) is long =
        (let spread = spreads processors (long ∙ length-map plan.graph.tasks (λ (task : Task). task.name)) in
        inl (record { processors = processors; windows = spread.0 }, is, spread.1))
    go (Err fault) is real = inr (fault, real, is)

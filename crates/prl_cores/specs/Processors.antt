-- Texts of processors: a line a task, with the processor that it runs on.
use Rattle.std.specs.Prelude.{◌==◌, ◌&&◌, ◌+◌, ◌-◌, ◌<◌, ℕ, Bool, List, [], ◌∷◌, length, replicate, set, Option, Some, None, Result, Ok, Err, is_some, nat_le, nat_lt, slice_index_or, if◌then◌else◌}
use Rattle.std.specs.List.{position_or_len, before_first, after_first}
use Rattle.prl_base.specs.Lines.{lines_of}
use Rattle.prl_base.specs.Reading.{◌>>=◌}
use Rattle.prl_base.specs.declared.numbers.TaskNo.{TaskNo}
use Rattle.prl_cores.specs.declared.texts.CoresFault.{CoresFault}
use Rattle.prl_cores.specs.declared.texts.CoresFault.TheVariants as faults
use Rattle.prl_schedules.specs.Schedules.{task_of, without_return}

abbrev pub is_blank : ℕ → Bool
is_blank b = b == 32

-- the number of a processor, 0 to 15, without leading zeros
abbrev pub processor_in : List ℕ → Option ℕ
processor_in (d ∷ []) = if nat_le 48 d && nat_le d 57 then Some (d - 48) else None
processor_in (t ∷ d ∷ []) = if (t == 49) && (nat_le 48 d && nat_le d 53) then Some (10 + (d - 48)) else None
processor_in _ = None

abbrev pub both : Option TaskNo → Option ℕ → Option (TaskNo × ℕ)
both (Some task) (Some processor) = Some (task, processor)
both _ _ = None

-- a line `NAME P`: the first task of this name, and its processor
abbrev pub placing_of : List (List ℕ) → List ℕ → Option (TaskNo × ℕ)
placing_of names line =
    if nat_lt (position_or_len is_blank line) (length line) then
    both (task_of names (before_first is_blank line)) (processor_in (after_first is_blank line))
    else None

-- the table with a task's processor, where it has none yet
abbrev pub placed_in : List (Option ℕ) → Option (TaskNo × ℕ) → Option (List (Option ℕ))
placed_in table None = None
placed_in table (Some placing) = if is_some (slice_index_or table placing.0.0 None) then None else Some (set table placing.0.0 (Some placing.1))

abbrev pub or_line : ℕ → Option (List (Option ℕ)) → Result (List (Option ℕ)) CoresFault
or_line line None = Err (faults.Syntax line)
or_line line (Some table) = Ok table

-- what stands after the last line feed: nothing, or a line
abbrev pub last_line : List (List ℕ) → ℕ → List (Option ℕ) → List ℕ → Result (List (Option ℕ)) CoresFault
last_line names k table [] = Ok table
last_line names k table (b ∷ bs) = or_line k (placed_in table (placing_of names (b ∷ bs)))

-- by task, the processor that the lines from line k on give it, or that it had before
abbrev pub placed_from : List (List ℕ) → ℕ → List (Option ℕ) → List (List ℕ) → Result (List (Option ℕ)) CoresFault
placed_from names k table [] = Ok table
placed_from names k table (line ∷ []) = last_line names k table line
placed_from names k table (line ∷ next ∷ lines) = do
  after ← or_line k (placed_in table (placing_of names (without_return line)))
  placed_from names (k + 1) after (next ∷ lines)

-- the processors of the tasks from number i on, or the first that has none
abbrev pub all_placed : ℕ → List (Option ℕ) → Result (List ℕ) CoresFault
all_placed i [] = Ok []
all_placed i (None ∷ table) = Err (faults.Missing (record { 0 = i }))
all_placed i (Some processor ∷ table) = all_placed (i + 1) table >>= λ processors. Ok (processor ∷ processors)

-- a task without a line is one of so many
abbrev pub IsOfTasks : ℕ → CoresFault → Type 0
IsOfTasks tasks (faults.Syntax line) = Unit {0}
IsOfTasks tasks (faults.Missing task) = task.0 < tasks
IsOfTasks tasks faults.Memory = Unit {0}

-- By task, its processor, where each line gives one of these tasks a processor that it did not have yet; else the first line that
-- does not, or else the lowest task without a line. Lines end as in a schedule.
abbrev pub processors_of : List (List ℕ) → List ℕ → Result (List ℕ) CoresFault
processors_of names text = placed_from names 1 (replicate (length names) None) (lines_of text) >>= all_placed 0

-- The lines that tell what the jobs of a run read.
use Rattle.std.specs.Prelude.{◌++◌, ◌<◌, ℕ, List, [], slice_index_or, codes}
use Rattle.std.specs.Fmt.{decimal}
use Rattle.std.specs.List.{flat_map}
use Rattle.prl_base.specs.Texts.{value_text}
use Rattle.prl_track.specs.declared.seen.Seen.{Seen}
use Rattle.prl_track.specs.declared.seen.Seen.TheVariants as sights

-- a blank and a number
abbrev pub field : ℕ → List ℕ
field number = codes " " ++ decimal number

-- `read TASK JOB PORT INSTANCE CELL VALUE` for an instance whose high half was read, and `const TASK JOB PORT VALUE` for a constant.
-- What else is seen has no line.
abbrev pub read_line : List (List ℕ) → Seen → List ℕ
read_line names (sights.Read task job port edge instance cell value) =
    codes "read " ++ slice_index_or names task.0 [] ++ field job ++ field port ++ field instance ++ field cell.0 ++ codes " " ++ value_text value ++ codes "\n"
read_line names (sights.ReadConst task job port value) =
    codes "const " ++ slice_index_or names task.0 [] ++ field job ++ field port ++ codes " " ++ value_text value ++ codes "\n"
read_line names (sights.Ticked tick) = []
read_line names (sights.Half task job edge cell) = []
read_line names (sights.Wrote task job edge cell) = []
read_line names (sights.Ended task job) = []

-- the lines of what was seen, in order
abbrev pub text_of_reads : List (List ℕ) → List Seen → List ℕ
text_of_reads names seens = flat_map (read_line names) seens

-- what is seen is of a task of so many, if it reads
abbrev pub ReadsOfTasks : ℕ → Seen → Type 0
ReadsOfTasks tasks (sights.Read task job port edge instance cell value) = task.0 < tasks
ReadsOfTasks tasks (sights.ReadConst task job port value) = task.0 < tasks
ReadsOfTasks tasks (sights.Ticked tick) = Unit {0}
ReadsOfTasks tasks (sights.Half task job edge cell) = Unit {0}
ReadsOfTasks tasks (sights.Wrote task job edge cell) = Unit {0}
ReadsOfTasks tasks (sights.Ended task job) = Unit {0}

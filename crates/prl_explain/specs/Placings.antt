-- What is told of the tasks of a plan, and of a line of a text of processors that places none.
use Rattle.std.specs.Prelude.{◌++◌, ℕ, List, length, Option, Some, None, nat_lt, codes, if◌then◌else◌}
use Rattle.std.specs.List.{after_first, before_first, flat_map, position_or_len}
use Rattle.prl_base.specs.declared.numbers.TaskNo.{TaskNo}
use Rattle.prl_cores.specs.Processors.{is_blank, processor_in}
use Rattle.prl_schedules.specs.Schedules.{task_of}

abbrev pub name_text : List ℕ → List ℕ
name_text name = codes " " ++ name

-- the names of the tasks
unfoldable pub tasks_text : List (List ℕ) → List ℕ
tasks_text names = codes "The tasks are" ++ flat_map name_text names ++ codes ".\n"

-- a word between others
unfoldable pub worded : List ℕ → List ℕ → List ℕ → List ℕ
worded front word end = front ++ word ++ end

unfoldable pub unnamed_text : List ℕ → List ℕ
unnamed_text name = worded (codes "No task is named `") name (codes "`. ")

unfoldable pub no_number_text : List ℕ → List ℕ
no_number_text number = worded (codes "`") number (codes "` is no number from 0 to 15.\n")

unfoldable pub again_text : List ℕ → List ℕ
again_text name = worded (codes "An earlier line places `") name (codes "` already.\n")

unfoldable pub no_blank_text : List ℕ
no_blank_text = codes "No blank stands in it.\n"

-- which of the two marks of a line is wrong, by the task and the processor that they are
abbrev pub marks_text : List (List ℕ) → List ℕ → List ℕ → Option TaskNo → Option ℕ → List ℕ
marks_text names name number None processor = unnamed_text name ++ tasks_text names
marks_text names name number (Some task) None = no_number_text number
marks_text names name number (Some task) (Some processor) = again_text name

abbrev pub placing_text : List (List ℕ) → List ℕ → List ℕ
placing_text names line =
    if nat_lt (position_or_len is_blank line) (length line) then
    marks_text names (before_first is_blank line) (after_first is_blank line) (task_of names (before_first is_blank line)) (processor_in (after_first is_blank line))
    else no_blank_text

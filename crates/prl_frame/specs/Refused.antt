-- When nothing is told, and why.
use Rattle.std.specs.Prelude.{◌≡◌, ◌≢◌, ◌++◌, ◌⊎◌, ℕ, false, List, [], ◌∷◌, Err, Ok, codes, decimal}
use Rattle.std.specs.List.{concat}
use Rattle.prl_io.specs.Faults.{Folder, IsUnfit}
use Rattle.prl_io.specs.Files.{IsFileStop}
use Rattle.prl_io.specs.Views.{FolderView}
use Rattle.prl_io.specs.declared.endings.Stop.TheVariants as stops
use Rattle.prl_io.specs.declared.faults.Fault.{Fault}
use Rattle.prl_io.specs.declared.faults.Fault.TheVariants as faults
use Rattle.prl_plan.specs.Plans.{PlanView}
use Rattle.prl_plan.specs.Vocabulary.{task_at}
use Rattle.prl_plan.specs.declared.graphs.TaskGraph.{TaskGraph}
use Rattle.prl_plantext.specs.ReadTexts.{IsTextOf}
use Rattle.prl_overlaps.specs.declared.entries.Entry.{Entry}
use Rattle.prl_tables.specs.Checks.{IsFault}
use Rattle.prl_tables.specs.TableTexts.{entries_of}
use Rattle.prl_tables.specs.declared.reading.TableFault.{TableFault}
use Rattle.prl_tables.specs.declared.reading.TableFault.TheVariants as tables
use Rattle.prl_frame.specs.Options.{file_of, is_command}
use Rattle.prl_frame.specs.Told.{HasText}
use Rattle.prl_frame.specs.declared.telling.TheConstants.{MAX_PLAN, MAX_TABLE}

-- the words are no command
abbrev pub IsNoCommand : List (List ℕ) → Fault → Type 0
IsNoCommand words (faults.Stop stops.Memory) = ⊥
IsNoCommand words (faults.Stop (stops.Words form)) = is_command words ≡ false
IsNoCommand words (faults.Stop (stops.Refused what)) = ⊥
IsNoCommand words (faults.Stop (stops.Absent name)) = ⊥
IsNoCommand words (faults.Stop (stops.TooLong name)) = ⊥
IsNoCommand words (faults.Stop (stops.Unread name)) = ⊥
IsNoCommand words (faults.Unfit label line) = ⊥

-- the file of an option was not read
abbrev pub IsUnread : FolderView → FolderView → List (List ℕ) → List ℕ → ℕ → Fault → Type 0
IsUnread old new words option most (faults.Stop stop) = IsFileStop old new (file_of option words) most stop
IsUnread old new words option most (faults.Unfit label line) = ⊥

-- the file of the plan has the text of no plan
abbrev pub IsNoPlan : Folder → List (List ℕ) → Fault → Type 0
IsNoPlan folder words fault =
    (source : List ℕ) × HasText folder words (codes "--plan") source × ((plan : PlanView) → IsTextOf plan source → ⊥)
    × IsUnfit (file_of (codes "--plan") words) (codes "not the text of a plan") fault

-- the line that tells why a table is not good
abbrev pub table_line : TaskGraph → TableFault → List ℕ
table_line graph (tables.Syntax line) = codes "93 table syntax line " ++ decimal line
table_line graph (tables.Piece line) = codes "94 piece " ++ decimal line
table_line graph (tables.Units task job) = concat (codes "95 units " ∷ (task_at graph task.0).name ∷ codes " " ∷ decimal job ∷ [])
table_line graph (tables.Clash first second) = concat (codes "96 clash " ∷ decimal first ∷ codes " " ∷ decimal second ∷ [])
table_line graph (tables.Order edge job) = concat (codes "97 order edge " ∷ decimal edge.0 ∷ codes " job " ∷ decimal job ∷ [])
table_line graph tables.Memory = []

-- a text tells no table of the plan, or one that is not good, and this is why
abbrev pub IsBadTable : PlanView → List ℕ → TableFault → Type 0
IsBadTable plan source cause =
    (cause ≢ tables.Memory)
    × ((entries_of plan.graph.hyper source ≡ Err cause) ⊎ ((entries : List Entry) × (entries_of plan.graph.hyper source ≡ Ok entries) × IsFault plan entries cause))

-- the line tells why a table is refused; or memory ran out
abbrev pub IsUnfitTable : TaskGraph → List ℕ → TableFault → Fault → Type 0
IsUnfitTable graph name cause fault = (fault ≡ faults.Stop stops.Memory) ⊎ ((cause ≢ tables.Memory) × IsUnfit name (table_line graph cause) fault)

-- such a text stands in the file of this name, and the line tells why it is refused; or memory ran out
abbrev pub IsTableRefused : PlanView → List ℕ → List ℕ → Fault → Type 0
IsTableRefused plan name source fault =
    (fault ≡ faults.Stop stops.Memory) ⊎ ((cause : TableFault) × IsBadTable plan source cause × IsUnfit name (table_line plan.graph cause) fault)

-- why nothing is told of a plan: the file of the table was not read, or its text is refused
abbrev pub IsRefusedOf : FolderView → FolderView → List (List ℕ) → PlanView → Fault → Type 0
IsRefusedOf old new words plan fault =
    IsUnread old new words (codes "--table") MAX_TABLE fault
    ⊎ ((source : List ℕ) × HasText old.folder words (codes "--table") source × IsTableRefused plan (file_of (codes "--table") words) source fault)

-- the file of the plan has the text of a plan of which nothing is told
abbrev pub IsPlanRefused : FolderView → FolderView → List (List ℕ) → Fault → Type 0
IsPlanRefused old new words fault =
    (source : List ℕ) × (plan : PlanView) × HasText old.folder words (codes "--plan") source × IsTextOf plan source
    × ((middle : FolderView) × (middle.folder ≡ old.folder) × (middle.failed ≡ old.failed) × IsRefusedOf middle new words plan fault)

-- why nothing is told, where the words without `--json` are these
abbrev pub IsRefused : FolderView → FolderView → List (List ℕ) → Fault → Type 0
IsRefused old new words fault =
    (fault ≡ faults.Stop stops.Memory) ⊎ (IsNoCommand words fault ⊎ (IsUnread old new words (codes "--plan") MAX_PLAN fault ⊎ (IsNoPlan old.folder words fault ⊎ IsPlanRefused old new words fault)))

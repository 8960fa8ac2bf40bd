-- When nothing is told of a plan, and why.
use Rattle.std.specs.Prelude.{◌≡◌, ◌≢◌, ◌<◌, ◌++◌, ◌-◌, ◌⊎◌, ◌^◌, ℕ, true, false, List, [], All, Some, IfSome, codes, decimal, length}
use Rattle.std.specs.List.{flat_map}
use Rattle.prl_base.specs.Decimals.{decimal_of}
use Rattle.prl_base.specs.declared.numbers.TaskNo.{TaskNo}
use Rattle.prl_io.specs.Faults.{Folder, IsUnfit}
use Rattle.prl_io.specs.Files.{IsFileStop}
use Rattle.prl_io.specs.Pairs.{value_of}
use Rattle.prl_io.specs.Views.{FolderView}
use Rattle.prl_io.specs.declared.endings.Stop.TheVariants as stops
use Rattle.prl_io.specs.declared.faults.Fault.{Fault}
use Rattle.prl_io.specs.declared.faults.Fault.TheVariants as faults
use Rattle.prl_forever.specs.Answers.{IsAnswerFault}
use Rattle.prl_forever.specs.Forever.{ServesForEver}
use Rattle.prl_forever.specs.declared.deciding.ForEverFault.TheVariants as no_answers
use Rattle.prl_plan.specs.Horizons.{IsPastLimit}
use Rattle.prl_plan.specs.Plans.{PlanView}
use Rattle.prl_plan.specs.Vocabulary.{is_actuator, is_sensor, task_at}
use Rattle.prl_plan.specs.declared.graphs.TaskGraph.{TaskGraph}
use Rattle.prl_base.specs.declared.limits.Limit.{Limit}
use Rattle.prl_plantext.specs.ReadTexts.{IsTextOf}
use Rattle.prl_steady.specs.Times.{IsTimesFault}
use Rattle.prl_steady.specs.declared.lasting.TimesFault.TheVariants as no_times
use Rattle.prl_timetext.specs.Texts.{row_words}
use Rattle.prl_timetext.specs.declared.rows.Row.{Row}
use Rattle.prl_times.specs.Limits.{rows_above}
use Rattle.prl_times.specs.Names.{has_twice}
use Rattle.prl_times.specs.Options.{file_of, has, is_command}
use Rattle.prl_times.specs.Told.{AreRowsAsked, AreTasksAsked}
use Rattle.prl_times.specs.declared.asked.TheConstants.{MAX_UNTIL}
use Rattle.prl_times.specs.declared.telling.TheConstants.{MAX_PLAN}

-- a word writes no number up to this one
abbrev pub IsNoNumberUpTo : ℕ → List ℕ → Type 0
IsNoNumberUpTo most word = (n : ℕ) → decimal_of word ≡ Some n → most < n

-- an option has a value that is no such number
abbrev pub HasNoNumber : ℕ → List ℕ → List (List ℕ) → Type 0
HasNoNumber most option words = (word : List ℕ) × (value_of option words ≡ Some word) × IsNoNumberUpTo most word

-- a chain of fewer than two tasks, or of one that it names twice
abbrev pub IsNoChain : PlanView → List (List ℕ) → Type 0
IsNoChain plan words =
    (tasks : List TaskNo) × AreTasksAsked plan words (codes "--chain") tasks × (has (codes "--chain") words ≡ true)
    × ((length tasks < 2) ⊎ (has_twice tasks ≡ true))

-- a skew of other than two tasks, or at no actuator
abbrev pub IsNoSkew : PlanView → List (List ℕ) → Type 0
IsNoSkew plan words =
    (tasks : List TaskNo) × AreTasksAsked plan words (codes "--skew") tasks × (has (codes "--skew") words ≡ true)
    × ((length tasks ≢ 2) ⊎ (has (codes "--actuator") words ≡ false))

-- what the words ask for is nothing that can be told
abbrev pub AskWrongly : PlanView → List (List ℕ) → Type 0
AskWrongly plan words =
    HasNoNumber MAX_UNTIL (codes "--until") words ⊎ (HasNoNumber (2 ^ 64 - 1) (codes "--limit") words ⊎ (IsNoChain plan words ⊎ IsNoSkew plan words))

-- the run up to the tick that the words name has more jobs or events than a horizon may have
abbrev pub IsRunTooLong : PlanView → List (List ℕ) → Type 0
IsRunTooLong plan words =
    (word : List ℕ) × (until : ℕ) × (limit : Limit) × (value_of (codes "--until") words ≡ Some word) × (decimal_of word ≡ Some until)
    × IsPastLimit plan until limit

-- what holds for ever is not found within the limits: whether one processor serves, or how soon the jobs end that it serves
abbrev pub IsEverLong : PlanView → Type 0
IsEverLong plan =
    ((limit : Limit) × IsAnswerFault plan (no_answers.Limit limit))
    ⊎ (ServesForEver plan × (((limit : Limit) × IsTimesFault plan (no_times.Limit limit)) ⊎ IsTimesFault plan no_times.TooFar))

-- and the words ask for it
abbrev pub IsEverTooLong : PlanView → List (List ℕ) → Type 0
IsEverTooLong plan words = (has (codes "--for-ever") words ≡ true) × IsEverLong plan

-- no task of the plan has this name; none that is a sensor; none that is an actuator
abbrev pub IsNoTask : TaskGraph → List ℕ → Type 0
IsNoTask graph name = (i : ℕ) → i < length graph.tasks → (task_at graph i).name ≢ name

abbrev pub IsNoSensor : TaskGraph → List ℕ → Type 0
IsNoSensor graph name = (i : ℕ) → i < length graph.tasks → is_sensor (task_at graph i).kind ≡ true → (task_at graph i).name ≢ name

abbrev pub IsNoActuator : TaskGraph → List ℕ → Type 0
IsNoActuator graph name = (i : ℕ) → i < length graph.tasks → is_actuator (task_at graph i).kind ≡ true → (task_at graph i).name ≢ name

-- between commas in a word, or a comma and its begin or end, stands what is the name of no task
pub record NamesNoTask (graph : TaskGraph) (word : List ℕ) : Type 0 where
  pub front : List ℕ
  pub part : List ℕ
  pub back : List ℕ
  pub parts : word ≡ front ++ (part ++ back)
  pub begins : (front ≡ []) ⊎ ((before : List ℕ) × (front ≡ before ++ codes ","))
  pub ends : (back ≡ []) ⊎ ((after : List ℕ) × (back ≡ codes "," ++ after))
  pub whole : All (λ b. b ≢ 44) part
  pub unknown : IsNoTask graph part

abbrev pub LacksTask : PlanView → List (List ℕ) → List ℕ → List ℕ → Type 0
LacksTask plan words option why =
    (word : List ℕ) × (value_of option words ≡ Some word) × NamesNoTask plan.graph word × (why ≡ codes "no such tasks " ++ word)

abbrev pub LacksSensor : PlanView → List (List ℕ) → List ℕ → Type 0
LacksSensor plan words why =
    (name : List ℕ) × (value_of (codes "--sensor") words ≡ Some name) × IsNoSensor plan.graph name × (why ≡ codes "no sensor " ++ name)

abbrev pub LacksActuator : PlanView → List (List ℕ) → List ℕ → Type 0
LacksActuator plan words why =
    (name : List ℕ) × (value_of (codes "--actuator") words ≡ Some name) × IsNoActuator plan.graph name × (why ≡ codes "no actuator " ++ name)

-- the line of the rows above a limit
abbrev pub above_line : TaskGraph → List TaskNo → ℕ → List Row → List ℕ
above_line graph tasks limit rows = (codes "above " ++ decimal limit) ++ flat_map (λ row. codes ": " ++ row_words graph tasks row) rows

-- some of the rows that the words ask for are above the limit that they name, and the line tells these
pub record AreAbove (plan : PlanView) (words : List (List ℕ)) (why : List ℕ) : Type 0 where
  pub tasks : List TaskNo
  pub rows : List Row
  pub asked : AreRowsAsked plan words tasks rows
  pub word : List ℕ
  pub named : value_of (codes "--limit") words ≡ Some word
  pub limit : ℕ
  pub written : decimal_of word ≡ Some limit
  pub some : rows_above limit rows ≢ []
  pub line : why ≡ above_line plan.graph tasks limit (rows_above limit rows)

-- a plan does not have what the words name, or not as the words want it
abbrev pub IsMisfit : PlanView → List (List ℕ) → List ℕ → Type 0
IsMisfit plan words why =
    LacksSensor plan words why ⊎ (LacksActuator plan words why
    ⊎ (LacksTask plan words (codes "--chain") why ⊎ (LacksTask plan words (codes "--skew") why ⊎ AreAbove plan words why)))

-- the words are told to be none where this holds; or memory ran out
abbrev pub IsUsageWhere : Type 0 → Fault → Type 0
IsUsageWhere holds (faults.Stop stops.Memory) = Unit {0}
IsUsageWhere holds (faults.Stop (stops.Words form)) = holds
IsUsageWhere holds (faults.Stop (stops.Refused what)) = ⊥
IsUsageWhere holds (faults.Stop (stops.Absent name)) = ⊥
IsUsageWhere holds (faults.Stop (stops.TooLong name)) = ⊥
IsUsageWhere holds (faults.Stop (stops.Unread name)) = ⊥
IsUsageWhere holds (faults.Unfit label line) = ⊥

-- a limit is told where this holds; or memory ran out
abbrev pub IsLongWhere : Type 0 → Fault → Type 0
IsLongWhere holds (faults.Stop stops.Memory) = Unit {0}
IsLongWhere holds (faults.Stop (stops.Words form)) = ⊥
IsLongWhere holds (faults.Stop (stops.Refused what)) = holds
IsLongWhere holds (faults.Stop (stops.Absent name)) = ⊥
IsLongWhere holds (faults.Stop (stops.TooLong name)) = ⊥
IsLongWhere holds (faults.Stop (stops.Unread name)) = ⊥
IsLongWhere holds (faults.Unfit label line) = ⊥

-- what this name stands for does not fit, for a reason of which this holds; or memory ran out
abbrev pub IsUnfitWhere : List ℕ → (List ℕ → Type 0) → Fault → Type 0
IsUnfitWhere name holds (faults.Stop stop) = stop ≡ stops.Memory
IsUnfitWhere name holds (faults.Unfit label line) = (why : List ℕ) × IsUnfit name why (faults.Unfit label line) × holds why

-- why nothing is told of a plan; memory may run out at any call
abbrev pub IsRefusedOf : PlanView → List (List ℕ) → Fault → Type 0
IsRefusedOf plan words (faults.Stop stops.Memory) = Unit {0}
IsRefusedOf plan words (faults.Stop (stops.Words form)) = AskWrongly plan words
IsRefusedOf plan words (faults.Stop (stops.Refused what)) = IsRunTooLong plan words ⊎ IsEverTooLong plan words
IsRefusedOf plan words (faults.Stop (stops.Absent name)) = ⊥
IsRefusedOf plan words (faults.Stop (stops.TooLong name)) = ⊥
IsRefusedOf plan words (faults.Stop (stops.Unread name)) = ⊥
IsRefusedOf plan words (faults.Unfit label line) = IsUnfitWhere (file_of words) (IsMisfit plan words) (faults.Unfit label line)

-- the words are no command
abbrev pub IsNoCommand : List (List ℕ) → Fault → Type 0
IsNoCommand words fault = IsUsageWhere (is_command words ≡ false) fault

-- the file of the plan was not read
abbrev pub IsUnread : FolderView → FolderView → List (List ℕ) → Fault → Type 0
IsUnread old new words (faults.Stop stop) = IsFileStop old new (file_of words) MAX_PLAN stop
IsUnread old new words (faults.Unfit label line) = ⊥

-- the file of the plan has this text
abbrev pub HasPlanText : Folder → List (List ℕ) → List ℕ → Type 0
HasPlanText folder words source = (value_of (codes "--plan") words ≡ Some (file_of words)) × IfSome folder (λ f. f (file_of words) ≡ Some source)

-- it is that of no plan
abbrev pub IsNoPlan : Folder → List (List ℕ) → Fault → Type 0
IsNoPlan folder words fault =
    (source : List ℕ) × HasPlanText folder words source × ((plan : PlanView) → IsTextOf plan source → ⊥)
    × IsUnfit (file_of words) (codes "not the text of a plan") fault

-- it is that of a plan of which nothing is told
abbrev pub IsPlanRefused : Folder → List (List ℕ) → Fault → Type 0
IsPlanRefused folder words fault =
    (source : List ℕ) × (plan : PlanView) × HasPlanText folder words source × IsTextOf plan source × IsRefusedOf plan words fault

-- why nothing is told, where the words as pairs are these
abbrev pub IsRefused : FolderView → FolderView → List (List ℕ) → Fault → Type 0
IsRefused old new words fault =
    (fault ≡ faults.Stop stops.Memory) ⊎ (IsNoCommand words fault ⊎ (IsUnread old new words fault ⊎ (IsNoPlan old.folder words fault ⊎ IsPlanRefused old.folder words fault)))

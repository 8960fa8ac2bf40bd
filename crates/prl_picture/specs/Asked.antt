-- What the words ask for beside the windows.
use Rattle.std.specs.Prelude.{◌≡◌, ℕ, List, [], Some, Ok, IfSome, MatchOption, codes}
use Rattle.prl_base.specs.Decimals.{decimal_of}
use Rattle.prl_io.specs.Faults.{Folder}
use Rattle.prl_io.specs.Pairs.{value_of}
use Rattle.prl_plan.specs.declared.events.Event.{Event}
use Rattle.prl_plan.specs.declared.horizons.Horizon.{Horizon}
use Rattle.prl_plan.specs.Horizons.{IsHorizon, Placement, constants_on}
use Rattle.prl_plan.specs.Plans.{PlanView}
use Rattle.prl_plan.specs.Runs.{opening}
use Rattle.prl_schedules.specs.Dispatches.{IsDispatched}
use Rattle.prl_schedules.specs.Schedules.{schedule_of}
use Rattle.prl_schedules.specs.ScheduleTexts.{task_names}
use Rattle.prl_cores.specs.Processors.{processors_of}
use Rattle.prl_tables.specs.TableTexts.{entries_of}
use Rattle.prl_shapes.specs.declared.kinds.Shown.{Shown}
use Rattle.prl_shapes.specs.declared.kinds.Shown.TheVariants as kinds

-- the file of this name has a text of which this holds
abbrev pub HasText : Folder → List ℕ → (List ℕ → Type 0) → Type 0
HasText folder name holds = IfSome folder (λ files. (source : List ℕ) × (files name ≡ Some source) × holds source)

-- the events are those of the schedule in a file
abbrev pub IsSchedule : Folder → PlanView → List Event → List ℕ → Type 0
IsSchedule folder plan events name = HasText folder name (λ source. schedule_of (task_names plan) source ≡ Ok events)

-- the processors of the tasks are those that a file tells
abbrev pub TellsProcessors : Folder → PlanView → List ℕ → List ℕ → Type 0
TellsProcessors folder plan processors name = HasText folder name (λ source. processors_of (task_names plan) source ≡ Ok processors)

-- the events are the dispatched list of the jobs that are released before a tick, so placed
abbrev pub IsDispatchedList : PlanView → Placement → ℕ → List Event → Type 0
IsDispatchedList plan placement until events =
    (horizon : Horizon) × IsHorizon plan horizon × (horizon.until ≡ until)
    × IsDispatched (constants_on plan placement horizon) (opening (constants_on plan placement horizon)) events

-- it is a schedule: of the file that the words name, or an empty one
abbrev pub IsListed : Folder → PlanView → List (List ℕ) → Shown → Type 0
IsListed folder plan words (kinds.Events events) = MatchOption (value_of (codes "--schedule") words) (events.items ≡ []) (IsSchedule folder plan events.items)
IsListed folder plan words (kinds.Verdict horizon verdict) = ⊥
IsListed folder plan words (kinds.Cores spread events) = ⊥
IsListed folder plan words (kinds.Table table) = ⊥

-- it is the verdict of the jobs up to the tick that a word writes
abbrev pub IsUpTo : List ℕ → Shown → Type 0
IsUpTo word (kinds.Events events) = ⊥
IsUpTo word (kinds.Verdict horizon verdict) = decimal_of word ≡ Some horizon.until
IsUpTo word (kinds.Cores spread events) = ⊥
IsUpTo word (kinds.Table table) = ⊥

-- it is the table that a file tells
abbrev pub IsTableOf : Folder → PlanView → Shown → List ℕ → Type 0
IsTableOf folder plan (kinds.Events events) name = ⊥
IsTableOf folder plan (kinds.Verdict horizon verdict) name = ⊥
IsTableOf folder plan (kinds.Cores spread events) name = ⊥
IsTableOf folder plan (kinds.Table table) name = HasText folder name (λ source. entries_of plan.graph.hyper source ≡ Ok table.entries)

-- what a run on processors does: the schedule of the file that the words name, or the dispatched list up to a tick
abbrev pub IsPlacedEvents : Folder → PlanView → List (List ℕ) → ℕ → Placement → List Event → Type 0
IsPlacedEvents folder plan words until placement events =
    MatchOption (value_of (codes "--schedule") words) (IsDispatchedList plan placement until events) (IsSchedule folder plan events)

-- it is a run on the processors that a file tells
abbrev pub IsPlacedRun : Folder → PlanView → List (List ℕ) → ℕ → Shown → List ℕ → Type 0
IsPlacedRun folder plan words until (kinds.Events events) name = ⊥
IsPlacedRun folder plan words until (kinds.Verdict horizon verdict) name = ⊥
IsPlacedRun folder plan words until (kinds.Table table) name = ⊥
IsPlacedRun folder plan words until (kinds.Cores spread events) name =
    TellsProcessors folder plan spread.placement.processors name
    × IsPlacedEvents folder plan words until spread.placement events.items

-- a run on processors exactly where the words name a file of these, else a schedule
abbrev pub IsPlacedOrListed : Folder → PlanView → List (List ℕ) → ℕ → Shown → Type 0
IsPlacedOrListed folder plan words until shown =
    MatchOption (value_of (codes "--cores") words) (IsListed folder plan words shown) (IsPlacedRun folder plan words until shown)

-- The words ask for it: for the verdict exactly where they name a tick for it, else for a table exactly where they name its file,
-- else for a run on processors or a schedule. The range ends at this tick.
abbrev pub IsAsked : Folder → PlanView → List (List ℕ) → ℕ → Shown → Type 0
IsAsked folder plan words until shown =
    MatchOption (value_of (codes "--edf") words)
    (MatchOption (value_of (codes "--table") words) (IsPlacedOrListed folder plan words until shown) (IsTableOf folder plan shown))
    (λ word. IsUpTo word shown)

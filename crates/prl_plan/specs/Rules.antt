-- The lists of events that an executive may do.
use Rattle.std.specs.Prelude.{◌≡◌, ◌+◌, ◌<◌, ◌≤◌, ◌⊎◌, ℕ, List, [], ◌∷◌, slice_index, codes}
use Rattle.prl_plan.specs.declared.events.Action.{Action}
use Rattle.prl_plan.specs.declared.events.Action.TheVariants as actions
use Rattle.prl_plan.specs.declared.events.Event.{Event}
use Rattle.prl_plan.specs.declared.events.Event.TheVariants as events
use Rattle.prl_plan.specs.declared.events.Rule.{Rule}
use Rattle.prl_plan.specs.declared.events.Rule.TheVariants as rules
use Rattle.prl_plan.specs.Runs.{RunConstants, ExecState, next_action, after_event}

-- the first job of task i that has not ended
abbrev pub first_unfinished : ExecState → ℕ → ℕ
first_unfinished s i = slice_index s.ended i

-- job n of task j is a horizon job that has not ended
pub record IsUnfinished (c : RunConstants) (s : ExecState) (j n : ℕ) : Type 0 where
  pub task : j < c.tasks
  pub job : n < c.jobs j
  pub unfinished : slice_index s.ended j ≤ n

-- the name of a rule, as it is written
abbrev pub rule_text : Rule → List ℕ
rule_text rules.L1 = codes "L1"
rule_text rules.L2 = codes "L2"
rule_text rules.L3 = codes "L3"
rule_text rules.L4 = codes "L4"

-- L1: the job that acts is released
abbrev pub ActsReleased : RunConstants → ExecState → ℕ → Type 0
ActsReleased c s i = c.release i (first_unfinished s i) ≤ s.now

-- L2: some job of the task is a horizon job that has not ended, and it is the first of these that acts
abbrev pub HasJob : RunConstants → ExecState → ℕ → Type 0
HasJob c s i = IsUnfinished c s i (first_unfinished s i)

-- L3: of the released horizon jobs on its processor that have not ended, none is due before the job that acts
abbrev pub ActsFirst : RunConstants → ExecState → ℕ → Type 0
ActsFirst c s i =
    (j n : ℕ) → c.processor j ≡ c.processor i → IsUnfinished c s j n → c.release j n ≤ s.now → c.deadline i (first_unfinished s i) ≤ c.deadline j n

-- L4: the tick is not after the end, and every horizon job that is due by then has ended
pub record MayTick (c : RunConstants) (s : ExecState) : Type 0 where
  pub within : s.now + 1 ≤ c.end
  pub ended : (j n : ℕ) → IsUnfinished c s j n → s.now + 1 < c.deadline j n

-- a read of an instance finds it in its cell
abbrev pub FindsTag : ExecState → Action → Type 0
FindsTag s (actions.ReadConst port value) = Unit {0}
FindsTag s (actions.Read port edge instance cell) = slice_index s.tags cell.0 ≡ instance + 1
FindsTag s (actions.Write edge instance cell) = Unit {0}
FindsTag s actions.End = Unit {0}

-- the event meets L1, L2, L3 and L4
abbrev pub KeepsLegal : RunConstants → ExecState → Event → Type 0
KeepsLegal c s events.Tick = MayTick c s
KeepsLegal c s (events.Act task) = HasJob c s task.0 × ActsReleased c s task.0 × ActsFirst c s task.0

-- the event meets L1, L2 and L4, and a read finds its tag
abbrev pub KeepsGated : RunConstants → ExecState → Event → Type 0
KeepsGated c s events.Tick = MayTick c s
KeepsGated c s (events.Act task) = HasJob c s task.0 × ActsReleased c s task.0 × FindsTag s (next_action c s task.0)

-- the event meets L1 and L2, a tick stays within the end, and a read finds its tag
abbrev pub KeepsFree : RunConstants → ExecState → Event → Type 0
KeepsFree c s events.Tick = s.now + 1 ≤ c.end
KeepsFree c s (events.Act task) = HasJob c s task.0 × ActsReleased c s task.0 × FindsTag s (next_action c s task.0)

-- each event of the list keeps the rules, in the state that the events before it lead to
abbrev pub IsLegal : RunConstants → ExecState → List Event → Type 0
IsLegal c s [] = Unit {0}
IsLegal c s (event ∷ events) = KeepsLegal c s event × IsLegal c (after_event c s event) events

abbrev pub IsGated : RunConstants → ExecState → List Event → Type 0
IsGated c s [] = Unit {0}
IsGated c s (event ∷ events) = KeepsGated c s event × IsGated c (after_event c s event) events

abbrev pub IsFree : RunConstants → ExecState → List Event → Type 0
IsFree c s [] = Unit {0}
IsFree c s (event ∷ events) = KeepsFree c s event × IsFree c (after_event c s event) events

-- every horizon job has ended
abbrev pub IsComplete : RunConstants → ExecState → Type 0
IsComplete c s = (j n : ℕ) → j < c.tasks → n < c.jobs j → n < slice_index s.ended j

-- some released horizon job on its processor that has not ended is due before the job that acts
abbrev pub IsOvertaken : RunConstants → ExecState → ℕ → Type 0
IsOvertaken c s i =
    (j : ℕ) × (n : ℕ) × (c.processor j ≡ c.processor i) × IsUnfinished c s j n × (c.release j n ≤ s.now) × (c.deadline j n < c.deadline i (first_unfinished s i))

-- some horizon job that has not ended is due by the next tick
abbrev pub IsDue : RunConstants → ExecState → Type 0
IsDue c s = (j : ℕ) × (n : ℕ) × IsUnfinished c s j n × (c.deadline j n ≤ s.now + 1)

-- The first rule that the event breaks: for an act in the order L2, L1, L3; for a tick L4 alone.
abbrev pub FirstBroken : RunConstants → ExecState → Event → Rule → Type 0
FirstBroken c s (events.Act task) rules.L2 = (c.tasks ≤ task.0) ⊎ (c.jobs task.0 ≤ first_unfinished s task.0)
FirstBroken c s (events.Act task) rules.L1 = HasJob c s task.0 × (s.now < c.release task.0 (first_unfinished s task.0))
FirstBroken c s (events.Act task) rules.L3 = HasJob c s task.0 × ActsReleased c s task.0 × IsOvertaken c s task.0
FirstBroken c s (events.Act task) rules.L4 = ⊥
FirstBroken c s events.Tick rules.L1 = ⊥
FirstBroken c s events.Tick rules.L2 = ⊥
FirstBroken c s events.Tick rules.L3 = ⊥
FirstBroken c s events.Tick rules.L4 = (c.end ≤ s.now) ⊎ IsDue c s

-- job n of task i is the first unfinished one of the lowest task that has one
pub record IsFirstUnfinished (c : RunConstants) (s : ExecState) (i n : ℕ) : Type 0 where
  pub task : i < c.tasks
  pub job : n < c.jobs i
  pub first : n ≡ first_unfinished s i
  pub lowest : (j : ℕ) → j < i → c.jobs j ≤ first_unfinished s j

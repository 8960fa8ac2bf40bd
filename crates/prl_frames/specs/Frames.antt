-- Frames: what a target runs in each hyperperiod, again and again.
use Rattle.std.specs.Prelude.{◌≡◌, ◌==◌, ◌+◌, ◌-◌, ◌*◌, ◌/◌, ◌%◌, ◌<◌, ◌≤◌, ◌&&◌, ℕ, Bool, false, List, [], ◌∷◌, All, Option, Some, None, nat_le, nat_lt, if◌then◌else◌}
use Rattle.std.specs.Bool.{OnFalse, OnTrue}
use Rattle.prl_plan.specs.declared.graphs.TaskGraph.{TaskGraph}
use Rattle.prl_tables.specs.Tables.{classes}
use Rattle.prl_frames.specs.declared.slots.Slot.{Slot}

-- the tick is in no hyperperiod before that from which the slot holds, and its place there is one of the slot's
abbrev pub has_tick : ℕ → Slot → ℕ → Bool
has_tick hyper slot t = nat_le slot.from (t / hyper) && (nat_le slot.at (t % hyper) && nat_lt (t % hyper) (slot.at + slot.units))

-- the job that the slot gives the tick to: its own, later by as many hyperperiods
abbrev pub job_at : TaskGraph → Slot → ℕ → ℕ × ℕ
job_at graph slot t = (slot.task.0, slot.job + (t / graph.hyper - slot.from) * classes graph slot.task.0)

-- what a tick goes to: the job of the slot that has it
abbrev pub goes_by : TaskGraph → List Slot → ℕ → Option (ℕ × ℕ)
goes_by graph [] t = None
goes_by graph (slot ∷ slots) t = if has_tick graph.hyper slot t then Some (job_at graph slot t) else goes_by graph slots t

-- from a place on, each slot has units, begins no earlier than the one before it ends, and ends within the hyperperiod
abbrev pub AreInOrder : ℕ → ℕ → List Slot → Type 0
AreInOrder hyper from [] = Unit {0}
AreInOrder hyper from (slot ∷ slots) =
    (from ≤ slot.at) × (1 ≤ slot.units) × (slot.at + slot.units ≤ hyper) × AreInOrder hyper (slot.at + slot.units) slots

-- the second slot goes on where the first ends, with the same job from the same hyperperiod on
abbrev pub goes_on : Slot → Slot → Bool
goes_on one next = (one.at + one.units == next.at) && ((one.task.0 == next.task.0) && ((one.job == next.job) && (one.from == next.from)))

-- no slot goes on where the one before it ends
abbrev pub AreJoined : List Slot → Type 0
AreJoined [] = Unit {0}
AreJoined (one ∷ []) = Unit {0}
AreJoined (one ∷ next ∷ slots) = (goes_on one next ≡ false) × AreJoined (next ∷ slots)

-- the first tick that the slot gives to its job
abbrev pub first_tick : ℕ → Slot → ℕ
first_tick hyper slot = slot.from * hyper + slot.at

-- by a run, no tick before this one goes to the job of the slot; and none from this one on
abbrev pub IsNotBegun : (ℕ → Option (ℕ × ℕ)) → Slot → ℕ → Type 0
IsNotBegun run slot tick = (t : ℕ) → t < tick → run t ≡ Some (slot.task.0, slot.job) → ⊥

abbrev pub IsOver : (ℕ → Option (ℕ × ℕ)) → Slot → ℕ → Type 0
IsOver run slot tick = (t : ℕ) → tick ≤ t → run t ≡ Some (slot.task.0, slot.job) → ⊥

-- the slot is told to be the first of its job exactly where it is, and to be the last
pub record IsMarked (run : ℕ → Option (ℕ × ℕ)) (hyper : ℕ) (slot : Slot) : Type 0 where
  pub first : OnTrue slot.first (IsNotBegun run slot (first_tick hyper slot))
  pub later : OnFalse slot.first (IsNotBegun run slot (first_tick hyper slot) → ⊥)
  pub last : OnTrue slot.last (IsOver run slot (first_tick hyper slot + slot.units))
  pub earlier : OnFalse slot.last (IsOver run slot (first_tick hyper slot + slot.units) → ⊥)

-- The slots are the frame of a run: each tick of each hyperperiod goes to the same job by both; the slots ascend, apart from one
-- another and within the hyperperiod; no two could be one; and each first and last one of a job is told.
pub record IsFrame (graph : TaskGraph) (run : ℕ → Option (ℕ × ℕ)) (slots : List Slot) : Type 0 where
  pub same : (t : ℕ) → goes_by graph slots t ≡ run t
  pub order : AreInOrder graph.hyper 0 slots
  pub joined : AreJoined slots
  pub marked : All (IsMarked run graph.hyper) slots

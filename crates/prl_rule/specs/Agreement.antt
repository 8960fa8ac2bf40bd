-- What the words show of a state, and what each part of a view says of it.
use Rattle.std.specs.Prelude.{◌≡◌, ◌+◌, ◌/◌, ◌^◌, ◌<◌, ◌≤◌, ◌⊎◌, ℕ, List, take, length, slice_index, nat_le, if◌then◌else◌, Bool, true, false, Some}
use mathlib.Core.Option.{some}
use lib.ListN.{get_elem?}
use Rattle.prl_base.specs.Values.{FitsValue}
use Rattle.prl_base.specs.declared.numbers.EdgeNo.{EdgeNo}
use Rattle.prl_plan.specs.declared.events.Action.TheVariants as actions
use Rattle.prl_plan.specs.Plans.{low, high, operands_before}
use Rattle.prl_plan.specs.Runs.{RunConstants, ExecState, action_at}
use Rattle.prl_rule.specs.declared.views.Constants.{Constants}
use Rattle.prl_rule.specs.declared.views.Standing.{Standing}
use Rattle.prl_rule.specs.declared.views.KeptHalf.{KeptHalf}
use Rattle.prl_rule.specs.declared.views.HeldValues.{HeldValues}
use Rattle.prl_rule.specs.declared.views.KeptStop.{KeptStop}
use Rattle.prl_rule.specs.declared.views.TaskPart.{TaskPart}
use Rattle.prl_rule.specs.declared.views.ClockPart.{ClockPart}
use Rattle.prl_rule.specs.declared.views.View.{View}
use Rattle.prl_rule.specs.RunValues.{RunValues, half_of, word_of, outputs_before}

-- the words of the table: first the word of `now`, and after it a done word for each task, two words for each cell, and the stop word
abbrev pub now_word : ℕ
now_word = 0

abbrev pub done_word : ℕ → ℕ
done_word i = 1 + i

abbrev pub slot_word : RunConstants → ℕ → ℕ
slot_word c slot = 1 + c.tasks + slot

abbrev pub stop_word : RunConstants → ℕ
stop_word c = 1 + c.tasks + c.slots

-- how many words there are
abbrev pub word_count : RunConstants → ℕ
word_count c = 2 + c.tasks + c.slots

-- the stop word: 0 where no task has raised, else the number after that of one that has
abbrev pub IsStop : ℕ → (ℕ → Bool) → ℕ → Type 0
IsStop tasks raised word = ((word ≡ 0) × ((j : ℕ) → j < tasks → raised j ≡ false)) ⊎ ((j : ℕ) × (j < tasks) × (word ≡ j + 1) × (raised j ≡ true))

-- a stop word that was loaded: 0, or the number after that of a task that has raised
abbrev pub IsToldStop : (ℕ → Bool) → ℕ → Type 0
IsToldStop raised word = (word ≡ 0) ⊎ ((j : ℕ) × (word ≡ j + 1) × (raised j ≡ true))

-- the words show the state
pub record Shows (c : RunConstants) (v : RunValues) (raised : ℕ → Bool) (s : ExecState) (words : List ℕ) : Type 0 where
  pub wide : length words ≡ word_count c
  pub now : slice_index words now_word ≡ s.now
  pub done : (i : ℕ) → i < c.tasks → slice_index words (done_word i) ≡ slice_index s.ended i
  -- the word of a half has its tag, with this half of the value of the instance
  pub slot : (h : ℕ) → h < c.slots → slice_index words (slot_word c h) ≡ word_of v h (slice_index s.tags h)
  -- and that is a value of 64 bits
  pub fits : (h m : ℕ) → h < c.slots → slice_index s.tags h ≡ m + 1 → FitsValue (v.stored (h / 2) m)
  pub stop : IsStop c.tasks raised (slice_index words (stop_word c))

-- a task stands so in the state; each job that it opened was released by a `now` that was loaded
pub record AgreesStanding (c : RunConstants) (s : ExecState) (i : ℕ) (at : Standing) : Type 0 where
  pub task : i < c.tasks
  pub ended : at.ended ≡ slice_index s.ended i
  pub place : at.place ≡ slice_index s.places i
  pub shut : at.is_open ≡ false → at.place ≡ 0
  pub job : at.is_open ≡ true → at.ended < c.jobs i
  pub released : at.is_open ≡ true → c.release i at.ended ≤ at.now
  pub opened : (n : ℕ) → n < at.ended → c.release i n ≤ at.now
  pub seen : at.now ≤ s.now

-- what was loaded of a half: its tag never falls, and before a high half the low half is kept
pub record AgreesHalf (c : RunConstants) (v : RunValues) (s : ExecState) (i : ℕ) (at : Standing) (kept : KeptHalf) : Type 0 where
  pub tag : kept.word / 2 ^ 32 ≤ slice_index s.tags kept.slot
  pub half_read : (port : ℕ) (e : EdgeNo) (m cell : ℕ) → at.is_open ≡ true →
      action_at c i at.ended at.place ≡ actions.Read port e m (record { 0 = high cell }) → kept.low ≡ half_of v (low cell) m

-- how many steps a task's body has made: one for each ended job, and one where it has run for the open one
abbrev pub steps_at : RunValues → ℕ → Standing → ℕ
steps_at v i at = at.ended + (if nat_le (v.runs_at i at.ended) at.place then 1 else 0)

-- the values of a task are those of its jobs
pub record AgreesValues (c : RunConstants) (v : RunValues) (i : ℕ) (at : Standing) (held : HeldValues) : Type 0 where
  pub operands : held.operands ≡ take (operands_before (c.actions i at.ended) at.place) (v.operands i at.ended)
  pub registers : held.registers ≡ v.registers i (steps_at v i at)
  pub outputs : held.outputs ≡ outputs_before (v.outputs i) (steps_at v i at)

-- the task's next step reads a half that it has found with a later tag than its operand's
pub record IsOverrun (c : RunConstants) (i : ℕ) (at : Standing) (kept : KeptHalf) : Type 0 where
  pub opened : at.is_open ≡ true
  pub port : ℕ
  pub edge : EdgeNo
  pub instance : ℕ
  pub reads : action_at c i at.ended at.place ≡ actions.Read port edge instance (record { 0 = kept.slot })
  pub later : instance + 1 < kept.word / 2 ^ 32

-- what is known of the stop word
pub record AgreesStop (c : RunConstants) (raised : ℕ → Bool) (i : ℕ) (at : Standing) (kept : KeptHalf) (stop : KeptStop) : Type 0 where
  pub same : stop.raised ≡ raised i
  pub overrun : stop.raised ≡ true → IsOverrun c i at kept
  pub told : IsToldStop raised stop.word

-- a task's part agrees with the state
pub record AgreesTask (c : RunConstants) (v : RunValues) (raised : ℕ → Bool) (s : ExecState) (i : ℕ) (p : TaskPart) : Type 0 where
  pub stand : AgreesStanding c s i p.stand
  pub kept : AgreesHalf c v s i p.stand p.kept
  pub values : AgreesValues c v i p.stand p.values
  pub stop : AgreesStop c raised i p.stand p.kept p.stop

-- the clock's part agrees with the state
pub record AgreesClock (c : RunConstants) (raised : ℕ → Bool) (s : ExecState) (r : ClockPart) : Type 0 where
  pub now : r.now ≡ s.now
  pub wide : length r.looks ≡ c.tasks
  pub looks : (i : ℕ) → i < c.tasks → slice_index r.looks i ≤ slice_index s.ended i
  pub told : IsToldStop raised r.stop

-- whose each part is, and which tasks have raised
pub record Witness : Type 0 where
  pub owner : ℕ → ℕ
  pub clock_owner : ℕ
  pub raised : ℕ → Bool

-- a view that is not spent has the constants of the run; it is the owner of each part that it has, and each agrees with the state
pub record AgreesView (k : Constants) (c : RunConstants) (v : RunValues) (w : Witness) (s : ExecState) (id : ℕ) (view : View) : Type 0 where
  pub known : (other : Constants) → view.constants ≡ Some other → other ≡ k
  pub task : (i : ℕ) (p : TaskPart) → get_elem? view.tasks i ≡ some (Some p) →
      (w.owner i ≡ id) × (view.constants ≡ Some k) × AgreesTask c v w.raised s i p
  pub clock : (r : ClockPart) → view.clock ≡ Some r → (w.clock_owner ≡ id) × (view.constants ≡ Some k) × AgreesClock c w.raised s r

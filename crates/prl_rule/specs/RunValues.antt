-- What jobs read and give over a run, and what of it stands in cells.
use Rattle.std.specs.Prelude.{◌≡◌, ◌+◌, ◌/◌, ◌%◌, ◌≤◌, ℕ, zero, suc, List, [], ◌∷◌, ◌++◌, length, Some, slice_get}
use Rattle.prl_base.specs.Values.{type_of}
use Rattle.prl_base.specs.declared.numbers.EdgeNo.{EdgeNo}
use Rattle.prl_base.specs.declared.values.Ty.{Ty}
use Rattle.prl_base.specs.declared.values.Value.{Value}
use Rattle.prl_body.specs.Bodies.{Stepped}
use Rattle.prl_plan.specs.declared.events.Action.TheVariants as actions
use Rattle.prl_plan.specs.declared.events.SlotNo.{SlotNo}
use Rattle.prl_plan.specs.Plans.{operands_before}
use Rattle.prl_plan.specs.Runs.{RunConstants, action_at}
use Rattle.prl_plan.specs.Facts.{IsJob}
use Rattle.prl_rule.specs.Halves.{high_half, low_half, tagged}

pub record RunValues : Type 0 where
  -- by edge, its type
  pub types : ℕ → Ty
  -- by cell and instance, the value of this instance of the cell's edge
  pub stored : ℕ → ℕ → Value
  -- by task and job, what it reads, in the order of its ports, and what it gives
  pub operands : ℕ → ℕ → List Value
  pub outputs : ℕ → ℕ → List Value
  -- by task and number of steps, its registers after so many
  pub registers : ℕ → ℕ → List Value
  -- by task and job, what its body makes of operands and registers
  pub run : ℕ → ℕ → List Value → List Value → Stepped
  -- by task and job, the place after the action with which its body runs
  pub runs_at : ℕ → ℕ → ℕ

-- the low half of a value, or the high one
abbrev pub half_with : Value → ℕ → ℕ
half_with value zero = low_half value
half_with value (suc n) = high_half value

-- the half that a slot has of an instance
abbrev pub half_of : RunValues → ℕ → ℕ → ℕ
half_of v slot m = half_with (v.stored (slot / 2) m) (slot % 2)

-- the word of a slot by its tag: 0 where it is empty
abbrev pub word_of : RunValues → ℕ → ℕ → ℕ
word_of v slot zero = 0
word_of v slot (suc m) = tagged (suc m) (half_of v slot m)

-- what the first n jobs give, of which each gives this
abbrev pub outputs_before : (ℕ → List Value) → ℕ → List (List Value)
outputs_before given zero = []
outputs_before given (suc n) = outputs_before given n ++ given n ∷ []

-- how these values hang together
pub record HasValueFacts (c : RunConstants) (v : RunValues) : Type 0 where
  -- an instance that is read has the type of its edge
  pub typed : (i n place port : ℕ) (e : EdgeNo) (m : ℕ) (slot : SlotNo) → IsJob c i n →
      action_at c i n place ≡ actions.Read port e m slot → type_of (v.stored (slot.0 / 2) m) ≡ v.types e.0
  -- it is the operand that the read of its high half completes
  pub operand : (i n place port : ℕ) (e : EdgeNo) (m : ℕ) (slot : SlotNo) → IsJob c i n →
      action_at c i n place ≡ actions.Read port e m slot → slot.0 % 2 ≡ 1 →
      slice_get (v.operands i n) (operands_before (c.actions i n) place) ≡ Some (v.stored (slot.0 / 2) m)
  -- and so is a constant
  pub constant : (i n place port : ℕ) (value : Value) → IsJob c i n → action_at c i n place ≡ actions.ReadConst port value →
      slice_get (v.operands i n) (operands_before (c.actions i n) place) ≡ Some value
  -- a body runs after all reads of its job, at the latest with the job's end
  pub first : (i n : ℕ) → 1 ≤ v.runs_at i n
  pub complete : (i n place : ℕ) → IsJob c i n → v.runs_at i n ≤ place → length (v.operands i n) ≤ operands_before (c.actions i n) place
  pub by_end : (i n place : ℕ) → IsJob c i n → action_at c i n place ≡ actions.End → v.runs_at i n ≤ place + 1
  -- a body's step gives the outputs of its job and the next registers
  pub run : (i n : ℕ) → IsJob c i n →
      v.run i n (v.operands i n) (v.registers i n) ≡ record { outputs = v.outputs i n; registers = v.registers i (n + 1) }

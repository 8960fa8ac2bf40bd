-- The low half that a seat keeps, and the value that it makes with the high half.
use Rattle.std.proofs.Common.{◌≡◌, ℕ, ◌+◌, ◌/◌, ◌%◌, ◌<◌, sym, ap, ◌∙◌, subst, arith, false}
use Rattle.prl_base.specs.Values.{FitsValue, type_of}
use Rattle.prl_base.specs.declared.numbers.EdgeNo.{EdgeNo}
use Rattle.prl_base.specs.declared.values.Ty.{Ty}
use Rattle.prl_base.specs.declared.values.Value.{Value}
use Rattle.prl_plan.specs.Vocabulary.{HasPlanFacts, IsJob, low, high, RunConstants, action_at}
use Rattle.prl_plan.specs.declared.events.Action.{Action}
use Rattle.prl_plan.specs.declared.events.SlotNo.{SlotNo}
use Rattle.prl_plan.specs.declared.events.Action.TheVariants as actions
use Rattle.prl_seats.specs.JobSeats.{AnswersRelease, IsStage, JobSeatView}
use Rattle.prl_seats.specs.declared.jobs.Release.{Release}
use Rattle.prl_seats.specs.declared.jobs.Stage.{Stage}
use Rattle.prl_seats.specs.declared.jobs.Release.TheVariants as releases
use Rattle.prl_seats.specs.declared.jobs.Stage.TheVariants as stages
use Rattle.prl_rule.specs.Vocabulary.{AreHalves, high_half, low_half, value_of_halves, run_of, values_of, HasValueFacts, RunValues, half_of, half_with}
use Rattle.prl_rule.specs.declared.views.Constants.{Constants}
use Rattle.prl_board.specs.code.Lows.{IsLow}
use Rattle.prl_rule.proofs.Reading.{before_high, const_no_high, no_high_first, same_read, write_no_high}

same_action : (a b : Action) → stages.At a ≡ stages.At b → a ≡ b
same_action a b same = cc

idle_no_action : (a : Action) → stages.Idle ≡ stages.At a → ⊥
idle_no_action a same = cc

over_no_action : (a : Action) → stages.Over ≡ stages.At a → ⊥
over_no_action a same = cc

-- no job is open
pub low_shut : (k : Constants) (c : RunConstants) (i n place kept : ℕ) (stage : Stage) → IsStage c i n place false stage → IsLow k stage kept
low_shut k c i n place kept stages.Over is = λ port e m cell same. absurd (over_no_action (actions.Read port e m (record { 0 = high cell })) same)
low_shut k c i n place kept stages.Idle is = λ port e m cell same. absurd (idle_no_action (actions.Read port e m (record { 0 = high cell })) same)
low_shut k c i n place kept (stages.At action) is = λ port e m cell same. absurd (let h = is.0 in cc h)

module _ (k : Constants) (facts : HasPlanFacts (run_of k)) (i n : ℕ) (job : IsJob (run_of k) i n) (kept : ℕ) where
  -- the job begins
  pub low_first : IsLow k (stages.At (action_at (run_of k) i n 0)) kept
  low_first = λ port e m cell same.
      absurd (no_high_first (run_of k) facts i n job port e m cell (same_action (action_at (run_of k) i n 0) (actions.Read port e m (record { 0 = high cell })) same))

  -- a constant was read
  pub low_after_const : (place port : ℕ) (value : Value) → action_at (run_of k) i n place ≡ actions.ReadConst port value →
      IsLow k (stages.At (action_at (run_of k) i n (place + 1))) kept
  low_after_const place port value is = λ port' e m cell same.
      absurd (const_no_high (run_of k) facts i n job place port value is port' e m cell
      (same_action (action_at (run_of k) i n (place + 1)) (actions.Read port' e m (record { 0 = high cell })) same))

  -- a half was written
  pub low_after_write : (place : ℕ) (e : EdgeNo) (m : ℕ) (slot : SlotNo) → action_at (run_of k) i n place ≡ actions.Write e m slot →
      IsLow k (stages.At (action_at (run_of k) i n (place + 1))) kept
  low_after_write place e m slot is = λ port e' m' cell same.
      absurd (write_no_high (run_of k) facts i n job place e m slot is port e' m' cell
      (same_action (action_at (run_of k) i n (place + 1)) (actions.Read port e' m' (record { 0 = high cell })) same))

  -- a half was read
  pub low_after_read : (place port : ℕ) (e : EdgeNo) (m : ℕ) (slot : SlotNo) → action_at (run_of k) i n place ≡ actions.Read port e m slot →
      (slot.0 % 2 ≡ 0 → kept ≡ half_of (values_of k) slot.0 m) → IsLow k (stages.At (action_at (run_of k) i n (place + 1))) kept
  low_after_read place port e m slot is low_kept = λ port' e' m' cell same.
      let before = before_high (run_of k) facts i n job place port' e' m' cell
      (same_action (action_at (run_of k) i n (place + 1)) (actions.Read port' e' m' (record { 0 = high cell })) same) in
      let here = same_read port e m slot.0 port' e' m' (low cell) (sym is ∙ before) in
      let number : m ≡ m' = here.0 in
      let half : slot.0 ≡ low cell = here.1 in
      low_kept (omega (arith, half)) ∙ (λ h. half_of (values_of k) (half h) (number h))

-- after a release
pub low_released : (k : Constants) → HasPlanFacts (run_of k) → (before after : JobSeatView) (answer : Release) (kept : ℕ) → before.task.0 < (run_of k).tasks →
    AnswersRelease k before after answer → IsLow k before.stage kept → IsLow k after.stage kept
low_released k facts before after releases.Over kept task answer is =
    subst (λ (s : JobSeatView). IsLow k s.stage kept) (sym answer.1) is
low_released k facts before after (releases.Early now at) kept task answer is = λ port e m cell same.
    absurd (idle_no_action (actions.Read port e m (record { 0 = high cell })) (sym answer.5 ∙ same))
low_released k facts before after (releases.Open job) kept task answer is =
    subst (λ (s : Stage). IsLow k s kept) (sym answer.4) (low_first k facts before.task.0 job (record { task = task; job = answer.1 }) kept)

-- the value of both halves
module _ (c : RunConstants) (v : RunValues) where
  low_is : (cell m : ℕ) → half_of v (low cell) m ≡ low_half (v.stored cell m)
  low_is cell m =
      let number : low cell / 2 ≡ cell = omega arith in
      let which : low cell % 2 ≡ 0 = omega arith in
      (λ h. half_with (v.stored (number h) m) (which h))

  high_is : (cell m : ℕ) → half_of v (high cell) m ≡ high_half (v.stored cell m)
  high_is cell m =
      let number : high cell / 2 ≡ cell = omega arith in
      let which : high cell % 2 ≡ 1 = omega arith in
      (λ h. half_with (v.stored (number h) m) (which h))

  -- a slot with a high half
  pub cell_of_high : (slot : ℕ) → slot % 2 ≡ 1 → slot ≡ high (slot / 2)
  cell_of_high slot odd = omega (arith, odd)

  abbrev pub MakesValue : Ty → ℕ → ℕ → Value → Type 0
  MakesValue ty kept found value = AreHalves ty kept found × (value_of_halves ty kept found ≡ value)

  pub value_of_both : ((value : Value) → FitsValue value → AreHalves (type_of value) (low_half value) (high_half value)) →
      ((value : Value) → FitsValue value → value_of_halves (type_of value) (low_half value) (high_half value) ≡ value) → HasValueFacts c v →
      (i n place port : ℕ) (e : EdgeNo) (m : ℕ) (slot : SlotNo) → IsJob c i n → action_at c i n place ≡ actions.Read port e m slot → slot.0 % 2 ≡ 1 →
      (kept found : ℕ) → kept ≡ half_of v (low (slot.0 / 2)) m → found ≡ half_of v slot.0 m → FitsValue (v.stored (slot.0 / 2) m) →
      MakesValue (v.types e.0) kept found (v.stored (slot.0 / 2) m)
  value_of_both are made values i n place port e m slot job is odd kept found low_kept high_found fits =
      let ty : type_of (v.stored (slot.0 / 2) m) ≡ v.types e.0 = values.typed i n place port e m slot job is in
      let first : kept ≡ low_half (v.stored (slot.0 / 2) m) = low_kept ∙ low_is (slot.0 / 2) m in
      let second : found ≡ high_half (v.stored (slot.0 / 2) m) = high_found ∙ ap (λ (x : ℕ). half_of v x m) (cell_of_high slot.0 odd) ∙ high_is (slot.0 / 2) m in
      let P : Ty × ℕ × ℕ → Type 0 = λ z. MakesValue z.0 z.1 z.2 (v.stored (slot.0 / 2) m) in
      subst P (λ h. (ty h, sym first h, sym second h)) (are (v.stored (slot.0 / 2) m) fits, made (v.stored (slot.0 / 2) m) fits)

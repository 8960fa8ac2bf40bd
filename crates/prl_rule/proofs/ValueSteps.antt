-- The values of a task after an action are again those of its jobs.
use Rattle.prl_base.proofs.Standard.{◌≡◌, ℕ, zero, suc, ◌+◌, ◌<◌, ◌≤◌, ◌≢◌, List, [], ◌∷◌, ◌++◌, get_or, take, refl, sym, ap, ◌∙◌, subst, arith, Bool, true, false, cond, Some, nat_le, nat_tests}
use Rattle.prl_base.proofs.Standard.{take_all, take_more, get_or_from_slice_get, slice_get_within, slice_get}
use Rattle.std.proofs.Common.{append-nil, eq-eqb, ne_eqb}
use mathlib.Core.Logic.{dite}
use native.Mathlib.Decide.{ℕ_discrete}
use Rattle.prl_base.specs.declared.values.Value.{Value}
use Rattle.prl_body.specs.Bodies.{Stepped}
use Rattle.prl_plan.specs.Vocabulary.{completes, operands_before, RunConstants, action_at, IsJob}
use Rattle.prl_plan.specs.declared.events.Action.{Action}
use Rattle.prl_plan.specs.declared.events.Action.TheVariants as actions
use Rattle.prl_rule.specs.Vocabulary.{Standing, HeldValues, RunValues, HasValueFacts, outputs_before, AgreesValues, steps_at, values_run, values_with, stand_moved}

-- an action completes its operands, and a place after all actions none
operands_next : (list : List Action) (place : ℕ) → operands_before list (suc place) ≡ operands_before list place + completes (get_or list place actions.End)
operands_next [] zero = refl
operands_next [] (suc place) = refl
operands_next (x ∷ list) zero = omega arith
operands_next (x ∷ list) (suc place) = let rest = operands_next list place in omega (arith, rest)

pub operands_step : (list : List Action) (place : ℕ) → operands_before list (place + 1) ≡ operands_before list place + completes (get_or list place actions.End)
operands_step list place = let next : place + 1 ≡ suc place = omega arith in ap (operands_before list) next ∙ operands_next list place

one_more : (operands : List Value) (count : ℕ) (value : Value) → slice_get operands count ≡ Some value → take count operands ++ value ∷ [] ≡ take (count + 1) operands
one_more operands count value at =
    sym (take_more operands count value (slice_get_within operands count value at)
    ∙ ap (λ (x : Value). take count operands ++ x ∷ []) (get_or_from_slice_get operands count value value at))

module _ (c : RunConstants) (i : ℕ) (at : Standing) (operands : List Value) where
  -- an action that completes nothing
  pub grows_by_none : (held : List Value) → held ≡ take (operands_before (c.actions i at.ended) at.place) operands → completes (action_at c i at.ended at.place) ≡ 0 →
      held ++ [] ≡ take (operands_before (c.actions i at.ended) (at.place + 1)) operands
  grows_by_none held same none =
      let count : operands_before (c.actions i at.ended) at.place ≡ operands_before (c.actions i at.ended) (at.place + 1) = omega (arith, operands_step (c.actions i at.ended) at.place, none) in
      append-nil held ∙ same ∙ ap (λ (n : ℕ). take n operands) count

  -- an action that completes the next operand
  pub grows_by_one : (held : List Value) (value : Value) → held ≡ take (operands_before (c.actions i at.ended) at.place) operands → completes (action_at c i at.ended at.place) ≡ 1 →
      slice_get operands (operands_before (c.actions i at.ended) at.place) ≡ Some value →
      held ++ value ∷ [] ≡ take (operands_before (c.actions i at.ended) (at.place + 1)) operands
  grows_by_one held value same one there =
      let count : operands_before (c.actions i at.ended) at.place + 1 ≡ operands_before (c.actions i at.ended) (at.place + 1) = omega (arith, operands_step (c.actions i at.ended) at.place, one) in
      ap (λ (l : List Value). l ++ value ∷ []) same ∙ one_more operands (operands_before (c.actions i at.ended) at.place) value there ∙ ap (λ (n : ℕ). take n operands) count

le_yes : (a b : ℕ) → a ≤ b → nat_le a b ≡ true
le_yes a b h = grind (arith, nat_tests)

le_no : (a b : ℕ) → b < a → nat_le a b ≡ false
le_no a b h = grind (arith, nat_tests)

module _ (c : RunConstants) (v : RunValues) (facts : HasValueFacts c v) where
  -- how many steps were made, where the body has run for the open job, and where it has not
  steps_ran : (i : ℕ) (at : Standing) → v.runs_at i at.ended ≤ at.place → steps_at v i at ≡ at.ended + 1
  steps_ran i at ran = ap (λ (b : Bool). at.ended + cond b 1 0) (le_yes (v.runs_at i at.ended) at.place ran)

  steps_not : (i : ℕ) (at : Standing) → at.place < v.runs_at i at.ended → steps_at v i at ≡ at.ended
  steps_not i at before = ap (λ (b : Bool). at.ended + cond b 1 0) (le_no (v.runs_at i at.ended) at.place before) ∙ omega arith

  -- a step of the body on all operands
  ran : (i : ℕ) (at : Standing) (held : HeldValues) (all : List Value) → AgreesValues c v i at held → IsJob c i at.ended → at.place < v.runs_at i at.ended →
      all ≡ v.operands i at.ended → v.run i at.ended all held.registers ≡ record { outputs = v.outputs i at.ended; registers = v.registers i (at.ended + 1) }
  ran i at held all a job before full =
      (λ h. v.run i at.ended (full h) ((a.registers ∙ ap (v.registers i) (steps_not i at before)) h)) ∙ facts.run i at.ended job

  given : (i : ℕ) (at : Standing) (held : HeldValues) (all : List Value) → AgreesValues c v i at held → IsJob c i at.ended → at.place < v.runs_at i at.ended →
      all ≡ v.operands i at.ended → held.outputs ++ (v.run i at.ended all held.registers).outputs ∷ [] ≡ outputs_before (v.outputs i) (at.ended + 1)
  given i at held all a job before full =
      (λ h. (a.outputs ∙ ap (outputs_before (v.outputs i)) (steps_not i at before)) h ++ (ran i at held all a job before full h).outputs ∷ [])
      ∙ (let e : suc at.ended ≡ at.ended + 1 = omega arith in ap (outputs_before (v.outputs i)) e)

  pub values_move : (i : ℕ) (at : Standing) (held : HeldValues) (more : List Value) → AgreesValues c v i at held → IsJob c i at.ended →
      held.operands ++ more ≡ take (operands_before (c.actions i at.ended) (at.place + 1)) (v.operands i at.ended) →
      AgreesValues c v i (stand_moved at) (values_with v i at more held)
  values_move i at held more a job grown =
      let P : Bool → Type 0 = λ b. AgreesValues c v i (stand_moved at) (cond b (values_run v i at.ended (held.operands ++ more) held)
      (record { operands = held.operands ++ more; registers = held.registers; outputs = held.outputs })) in
      dite (ℕ_discrete (at.place + 1) (v.runs_at i at.ended))
      (λ e. subst P (sym (eq-eqb (at.place + 1) (v.runs_at i at.ended) e))
      (let before : at.place < v.runs_at i at.ended = omega (arith, e) in
      let after : steps_at v i (stand_moved at) ≡ at.ended + 1 = steps_ran i (stand_moved at) (omega (arith, e)) in
      let full : held.operands ++ more ≡ v.operands i at.ended = grown ∙ take_all (operands_before (c.actions i at.ended) (at.place + 1)) (v.operands i at.ended) (facts.complete i at.ended (at.place + 1) job (omega (arith, e))) in
      record {
        operands = grown;
        registers = ap (λ (s : Stepped). s.registers) (ran i at held (held.operands ++ more) a job before full) ∙ ap (v.registers i) (sym after);
        outputs = given i at held (held.operands ++ more) a job before full ∙ ap (outputs_before (v.outputs i)) (sym after);
      }))
      (λ ne. subst P (sym (ne_eqb (at.place + 1) (v.runs_at i at.ended) ne))
      (let same : steps_at v i at ≡ steps_at v i (stand_moved at) = steps_same i at ne in
      record {
        operands = grown;
        registers = a.registers ∙ ap (v.registers i) same;
        outputs = a.outputs ∙ ap (outputs_before (v.outputs i)) same;
      }))
    where
      tests : (a b : ℕ) → a + 1 ≢ b → nat_le b a ≡ nat_le b (a + 1)
      tests a b ne = grind (arith, nat_tests)

      steps_same : (i : ℕ) (at : Standing) → at.place + 1 ≢ v.runs_at i at.ended → steps_at v i at ≡ steps_at v i (stand_moved at)
      steps_same i at ne = ap (λ (b : Bool). at.ended + cond b 1 0) (tests at.place (v.runs_at i at.ended) ne)

  abbrev closed : Standing → Standing
  closed at = record { ended = at.ended + 1; place = 0; is_open = false; now = at.now }

  pub values_end : (i : ℕ) (at : Standing) (held : HeldValues) → AgreesValues c v i at held → IsJob c i at.ended → action_at c i at.ended at.place ≡ actions.End →
      AgreesValues c v i (closed at)
      (record { operands = []; registers = (values_with v i at [] held).registers; outputs = (values_with v i at [] held).outputs })
  values_end i at held a job end =
      let after : steps_at v i (closed at) ≡ at.ended + 1 = steps_not i (closed at) (let first = facts.first i (at.ended + 1) in omega (arith, first)) in
      let P : HeldValues → Type 0 = λ z. AgreesValues c v i (closed at) (record { operands = []; registers = z.registers; outputs = z.outputs }) in
      let Q : Bool → Type 0 = λ b. P (cond b (values_run v i at.ended (held.operands ++ []) held) (record { operands = held.operands ++ []; registers = held.registers; outputs = held.outputs })) in
      dite (ℕ_discrete (at.place + 1) (v.runs_at i at.ended))
      (λ e. subst Q (sym (eq-eqb (at.place + 1) (v.runs_at i at.ended) e))
      (let before : at.place < v.runs_at i at.ended = omega (arith, e) in
      let step = operands_step (c.actions i at.ended) at.place in
      let none : completes (action_at c i at.ended at.place) ≡ 0 = ap completes end in
      let long = facts.complete i at.ended (at.place + 1) job (omega (arith, e)) in
      let full : held.operands ++ [] ≡ v.operands i at.ended = append-nil held.operands ∙ a.operands ∙ take_all (operands_before (c.actions i at.ended) at.place) (v.operands i at.ended) (omega (arith, step, none, long)) in
      record {
        operands = refl;
        registers = ap (λ (s : Stepped). s.registers) (ran i at held (held.operands ++ []) a job before full) ∙ ap (v.registers i) (sym after);
        outputs = given i at held (held.operands ++ []) a job before full ∙ ap (outputs_before (v.outputs i)) (sym after);
      }))
      (λ ne. subst Q (sym (ne_eqb (at.place + 1) (v.runs_at i at.ended) ne))
      (let made : steps_at v i at ≡ at.ended + 1 = steps_ran i at (omega (arith, facts.by_end i at.ended at.place job end, ne)) in
      record {
        operands = refl;
        registers = a.registers ∙ ap (v.registers i) (made ∙ sym after);
        outputs = a.outputs ∙ ap (outputs_before (v.outputs i)) (made ∙ sym after);
      }))

-- the values at the opening
pub first_values : (c : RunConstants) (v : RunValues) → HasValueFacts c v → (i : ℕ) →
    AgreesValues c v i (record { ended = 0; place = 0; is_open = false; now = 0 }) (record { operands = []; registers = v.registers i 0; outputs = [] })
first_values c v facts i =
    let none : steps_at v i (record { ended = 0; place = 0; is_open = false; now = 0 }) ≡ 0 =
    steps_not c v facts i (record { ended = 0; place = 0; is_open = false; now = 0 }) (let first = facts.first i 0 in omega (arith, first)) in
    record {
      operands = refl;
      registers = ap (v.registers i) (sym none);
      outputs = ap (outputs_before (v.outputs i)) (sym none);
    }

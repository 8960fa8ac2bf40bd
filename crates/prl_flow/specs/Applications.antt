-- Applications of imported nodes: the bodies that fit them, and the steps of a body, one after another.
use Rattle.std.specs.Prelude.{◌≡◌, ℕ, zero, suc, pos, List, [], ◌∷◌, map, Some, slice_get, unwrap_or}
use Rattle.prl_base.specs.Clocks.{date_at}
use Rattle.prl_base.specs.declared.operators.Clock.{Clock}
use Rattle.prl_base.specs.declared.numbers.FlowNo.{FlowNo}
use Rattle.prl_base.specs.declared.values.Ty.{Ty}
use Rattle.prl_base.specs.declared.values.Value.{Value}
use Rattle.prl_base.specs.declared.values.Value.TheVariants as values
use Rattle.prl_body.specs.declared.bodies.CheckedBody.{CheckedBody}
use Rattle.prl_body.specs.Bodies.{Stepped, body_named, body_step, first_values, input_types, output_types}
use Rattle.prl_flow.specs.declared.programs.App.{App}
use Rattle.prl_flow.specs.declared.programs.Arg.{Arg}
use Rattle.prl_flow.specs.Flows.{value_at}
use Rattle.prl_flow.specs.Programs.{FlatProgram, HasType}

-- flows of these numbers have these types, one for one
abbrev pub HaveTypes : FlatProgram → List FlowNo → List Ty → Type 0
HaveTypes p [] [] = Unit {0}
HaveTypes p [] (ty ∷ tys) = ⊥
HaveTypes p (flow ∷ flows) [] = ⊥
HaveTypes p (flow ∷ flows) (ty ∷ tys) = HasType p ty flow × HaveTypes p flows tys

abbrev pub argument_numbers : App → List FlowNo
argument_numbers app = map (λ (a : Arg). a.flow) app.args

-- the body has an input of the type of each argument, and an output of the type of each output, in order
pub record IsFitting (p : FlatProgram) (app : App) (body : CheckedBody) : Type 0 where
  pub inputs : HaveTypes p (argument_numbers app) (input_types body)
  pub outputs : HaveTypes p app.outs (output_types body)

-- the body of the application's name fits the application
pub record HasBody (p : FlatProgram) (bodies : List CheckedBody) (app : App) : Type 0 where
  pub body : CheckedBody
  pub named : body_named bodies app.name ≡ Some body
  pub fits : IsFitting p app body

-- each application has a body that fits it
abbrev pub HaveBodies : FlatProgram → List CheckedBody → Type 0
HaveBodies p bodies = (k : ℕ) (app : App) → slice_get p.apps k ≡ Some app → HasBody p bodies app

-- The registers of a body before its n-th step, where it makes one step after another on these inputs: first its
-- first values, and then the next registers of the step before.
abbrev pub registers_before : CheckedBody → (ℕ → List Value) → ℕ → List Value
registers_before body inputs zero = first_values body
registers_before body inputs (suc n) = (body_step body (inputs n) (registers_before body inputs n)).registers

-- its n-th step
abbrev pub nth_step : CheckedBody → (ℕ → List Value) → ℕ → Stepped
nth_step body inputs n = body_step body (inputs n) (registers_before body inputs n)

-- The values of flows at the n-th date of their clock. A value that is not there, which no solution lacks, counts as 0.
abbrev pub values_at : Clock → List (List Value) → ℕ → List Value
values_at c flows n = map (λ (xs : List Value). unwrap_or (value_at c xs (date_at c n)) (values.Int (pos 0))) flows

-- What is asked of bodies and rows, and the types of values.
use Rattle.std.specs.Prelude.{◌≡◌, ℕ, List, map, Some, slice_get}
use Rattle.prl_base.specs.declared.operators.Clock.{Clock}
use Rattle.prl_base.specs.declared.numbers.FlowNo.{FlowNo}
use Rattle.prl_base.specs.declared.values.Value.{Value}
use Rattle.prl_base.specs.Values.{type_of}
use Rattle.prl_body.specs.declared.bodies.CheckedBody.{CheckedBody}
use Rattle.prl_body.specs.Bodies.{IsWellTyped, body_named}
use Rattle.prl_flow.specs.Programs.{FlatProgram, HasType}
use Rattle.prl_flow.specs.Rows.{Rows, rows_of}
use Rattle.prl_flow.specs.States.{State, Timed}
use Rattle.prl_flow.specs.declared.programs.App.{App}
use Rattle.prl_flow.specs.declared.programs.Flow.{Flow}

-- the body of each application is well typed, where it has one
abbrev pub HaveTypedBodies : FlatProgram → List CheckedBody → Type 0
HaveTypedBodies p bodies =
    (k : ℕ) (app : App) (body : CheckedBody) → slice_get p.apps k ≡ Some app → body_named bodies app.name ≡ Some body → IsWellTyped body

-- the rows of each sensor have the type of its flow
abbrev pub AreTypedRows : FlatProgram → Rows → Type 0
AreTypedRows p rows =
    (k : ℕ) (flow : FlowNo) → slice_get p.ins k ≡ Some flow →
    (n : ℕ) (v : Value) → slice_get (rows_of rows k) n ≡ Some v → HasType p (type_of v) flow

-- the clocks of a state's flows, and their values
abbrev pub clocks_in : State → List Clock
clocks_in s = map (λ (f : Timed). f.clock) s.flows

abbrev pub values_in : State → List (List Value)
values_in s = map (λ (f : Timed). f.values) s.flows

-- each value of a flow has the flow's type
abbrev pub AreTyped : FlatProgram → List (List Value) → Type 0
AreTyped p flows =
    (i : ℕ) (flow : Flow) (values : List Value) → slice_get p.flows i ≡ Some flow → slice_get flows i ≡ Some values →
    (n : ℕ) (v : Value) → slice_get values n ≡ Some v → type_of v ≡ flow.ty

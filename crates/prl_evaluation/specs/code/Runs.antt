-- Runs of applications.
use Rattle.std.specs.Prelude.{◌≡◌, ◌+◌, ◌^◌, ◌<◌, ℕ, suc, List, length, map, Some, slice_get}
use Rattle.prl_base.specs.Values.{type_of}
use Rattle.prl_base.specs.declared.values.Value.{Value}
use Rattle.prl_body.specs.declared.bodies.CheckedBody.{CheckedBody}
use Rattle.prl_body.specs.Bodies.{IsWellTyped, body_named, body_step, input_types, output_types, register_types}
use Rattle.prl_flow.specs.Applications.{nth_step, registers_before}
use Rattle.prl_flow.specs.declared.programs.App.{App}
use Rattle.prl_flow.specs.declared.programs.Arg.{Arg}
use Rattle.prl_flow.specs.Solutions.{values_of}
use Rattle.prl_causal.specs.Tables.{Table, argument_values}
use Rattle.prl_evaluation.specs.declared.runs.Run.{Run}

-- instance `n` of each argument is there
abbrev pub HaveArguments : List (List Value) → List Arg → ℕ → Type 0
HaveArguments flows args n = (j : ℕ) (arg : Arg) → slice_get args j ≡ Some arg → (arg.flow.0 < length flows) × (n < length (values_of flows arg.flow.0))

-- the run's next step may be on these inputs
pub record MayStep (r : Run) (args : List Arg) (inputs : List Value) : Type 0 where
  pub read : length r.inputs.items ≡ length args
  pub types : map type_of inputs ≡ input_types r.body.now
  pub held : map type_of r.machine.registers ≡ register_types r.body.now
  pub given : length r.outputs.items ≡ length (output_types r.body.now)
  pub steps : r.machine.steps < 2 ^ 63

-- the run has made one step on these inputs
pub record HasStepped (old new : Run) (args : List Value) : Type 0 where
  pub body : new.body.now ≡ old.body.now
  pub inputs : length new.inputs.items ≡ length old.inputs.items
  pub written : length new.outputs.items ≡ length old.outputs.items
  pub machine : new.machine ≡ record { registers = (body_step old.body.now args old.machine.registers).registers; steps = old.machine.steps + 1 }
  pub outputs : new.outputs.items ≡ (body_step old.body.now args old.machine.registers).outputs
  pub steps : new.steps ≡ old.steps + 1

-- the run has made so many steps of the application's body as it counts, on the arguments' values in the table, and keeps
-- the outputs of the last one
pub record IsRun (bodies : List CheckedBody) (v : Table) (app : App) (r : Run) : Type 0 where
  pub body : CheckedBody
  pub same : r.body.now ≡ body
  pub named : body_named bodies app.name ≡ Some body
  pub typed : IsWellTyped body
  pub read : length r.inputs.items ≡ length app.args
  pub written : length r.outputs.items ≡ length app.outs
  pub held : r.machine.registers ≡ registers_before body (argument_values v app.args) r.steps
  pub counted : r.machine.steps ≡ r.steps
  pub given : (n : ℕ) → r.steps ≡ suc n → r.outputs.items ≡ (nth_step body (argument_values v app.args) n).outputs

-- there is a body of the application's name
abbrev pub HasBodyNamed : List CheckedBody → App → Type 0
HasBodyNamed bodies app = (body : CheckedBody) × (body_named bodies app.name ≡ Some body)

-- the run of the application before its first step
abbrev pub IsNew : List CheckedBody → App → Run → Type 0
IsNew bodies app r = ((v : Table) → IsRun bodies v app r) × (r.steps ≡ 0)

-- The values of all flows by the numbers of the flow and of the instance: the value that a definition makes of others, and
-- which instances it reads.
use Rattle.std.specs.Prelude.{◌≡◌, ◌<◌, ◌≤◌, ℕ, pos, List, map, Option, Some, None, slice_get, slice_index_or}
use Rattle.prl_base.specs.Clocks.{date_at}
use Rattle.prl_base.specs.Operators.{Origin, instance, constant, origin_of}
use Rattle.prl_base.specs.declared.operators.Clock.{Clock}
use Rattle.prl_base.specs.declared.values.Value.{Value}
use Rattle.prl_base.specs.declared.values.Value.TheVariants as values
use Rattle.prl_body.specs.declared.bodies.CheckedBody.{CheckedBody}
use Rattle.prl_body.specs.Bodies.{body_named}
use Rattle.prl_flow.specs.Applications.{nth_step}
use Rattle.prl_flow.specs.Programs.{FlatProgram}
use Rattle.prl_flow.specs.Rows.{Rows, rows_of}
use Rattle.prl_flow.specs.Solutions.{clock_of, values_of}
use Rattle.prl_flow.specs.Uses.{IsArgument}
use Rattle.prl_flow.specs.declared.programs.App.{App}
use Rattle.prl_flow.specs.declared.programs.Arg.{Arg}
use Rattle.prl_flow.specs.declared.programs.Def.{Def}
use Rattle.prl_flow.specs.declared.programs.Def.TheVariants as definitions
use Rattle.prl_flow.specs.declared.programs.Flow.{Flow}

-- a value for each instance of each flow
abbrev pub Table : Type 0
Table = ℕ → ℕ → Value

-- what stands where nothing is asked of a table
abbrev pub nothing : Value
nothing = values.Int (pos 0)

-- the table of these flows
abbrev pub table_of : List (List Value) → Table
table_of flows i n = slice_index_or (values_of flows i) n nothing

-- what an operator takes from here
abbrev pub taken : (ℕ → Value) → Origin → Value
taken of (instance m) = of m
taken of (constant c) = c

-- the values of the arguments' instance n
abbrev pub argument_values : Table → List Arg → ℕ → List Value
argument_values v args n = map (λ (a : Arg). v a.flow.0 n) args

-- an output of a body's n-th step on these inputs
abbrev pub output_of : Option CheckedBody → (ℕ → List Value) → ℕ → ℕ → Value
output_of None inputs n out = nothing
output_of (Some body) inputs n out = slice_index_or (nth_step body inputs n).outputs out nothing

-- an output of an application's n-th step
abbrev pub applied_of : List CheckedBody → Table → Option App → ℕ → ℕ → Value
applied_of bodies v None n out = nothing
applied_of bodies v (Some app) n out = output_of (body_named bodies app.name) (argument_values v app.args) n out

-- the value that a definition makes of others for its flow's instance n
abbrev pub value_of : FlatProgram → List CheckedBody → Rows → Table → Def → ℕ → Value
value_of p bodies rows v (definitions.Sensor k) n = slice_index_or (rows_of rows k) n nothing
value_of p bodies rows v (definitions.Copy of) n = v of.0 n
value_of p bodies rows v (definitions.Const c) n = c
value_of p bodies rows v (definitions.Apply k out) n = applied_of bodies v (slice_get p.apps k) n out
value_of p bodies rows v (definitions.Op op of) n = taken (v of.0) (origin_of op n)

-- the definition reads instance m of flow j for its flow's instance n
abbrev pub Reads : FlatProgram → Def → ℕ → ℕ → ℕ → Type 0
Reads p (definitions.Sensor k) n j m = ⊥
Reads p (definitions.Copy of) n j m = (of.0 ≡ j) × (n ≡ m)
Reads p (definitions.Const c) n j m = ⊥
Reads p (definitions.Apply k out) n j m = IsArgument p k j × (m ≤ n)
Reads p (definitions.Op op of) n j m = (of.0 ≡ j) × (origin_of op n ≡ instance m)

-- each flow has at each of its dates before `until` the value that its definition makes of the others
abbrev pub IsFixed : FlatProgram → List Clock → List CheckedBody → Rows → ℕ → Table → Type 0
IsFixed p clocks bodies rows until v =
    (i : ℕ) (flow : Flow) → slice_get p.flows i ≡ Some flow → (n : ℕ) → date_at (clock_of clocks i) n < until
    → v i n ≡ value_of p bodies rows v flow.def n

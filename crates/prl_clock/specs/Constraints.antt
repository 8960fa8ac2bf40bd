-- The constraints on the clocks of a flat program's flows, in order: flow by flow the rate, then the definition. Each has a
-- place in the source text.
use Rattle.std.specs.Prelude.{◌*ℤ◌, ◌++◌, ℕ, zero, suc, pos, negsuc, List, [], ◌∷◌, length, map, Option, Some, None, slice_get, slice_index_or}
use Rattle.prl_base.specs.declared.operators.Op.{Op}
use Rattle.prl_base.specs.declared.operators.Op.TheVariants as operators
use Rattle.prl_ast.specs.declared.declarations.Rate.{Rate}
use Rattle.prl_flow.specs.declared.programs.App.{App}
use Rattle.prl_flow.specs.declared.programs.Arg.{Arg}
use Rattle.prl_flow.specs.declared.programs.Def.{Def}
use Rattle.prl_flow.specs.declared.programs.Def.TheVariants as definitions
use Rattle.prl_flow.specs.declared.programs.Flow.{Flow}
use Rattle.prl_flow.specs.Programs.{FlatProgram}
use Rattle.prl_flow.specs.Standings.{over_one, same_clock}
use Rattle.prl_flow.specs.declared.standings.Timing.{Timing}

pub data Constraint : Type 0 where
  -- the flow has this period and this start, in ticks
  rated : ℕ → Timing → Constraint
  -- the first flow has this period in periods of the second, and starts so many of these periods after it
  related : ℕ → ℕ → Timing → Constraint

-- a constraint, and the byte of the source text where it is told
pub record Placed : Type 0 where
  pub constraint : Constraint
  pub at : ℕ

-- what a rate (n, p) says: n ticks from date to date, and the first after n * p
abbrev pub timing_of_rate : Rate → Timing
timing_of_rate rate = record {
  period = over_one rate.period;
  start = record { num = pos rate.period *ℤ rate.phase.num; den = rate.phase.den };
}

-- an operator's result, in periods of the flow that it stands on
abbrev pub timing_of_operator : Op → Timing
timing_of_operator (operators.Fby c) = same_clock
timing_of_operator (operators.Cons c) = record { period = over_one 1; start = record { num = negsuc 0; den = 1 } }
timing_of_operator operators.Tail = record { period = over_one 1; start = over_one 1 }
timing_of_operator (operators.Up k) = record { period = record { num = pos 1; den = k }; start = over_one 0 }
timing_of_operator (operators.Down k) = record { period = over_one k; start = over_one 0 }
timing_of_operator (operators.Shift q) = record { period = over_one 1; start = q }

abbrev pub rate_constraints : ℕ → ℕ → Option Rate → List Placed
rate_constraints i at None = []
rate_constraints i at (Some rate) = (record { constraint = rated i (timing_of_rate rate); at = at }) ∷ []

-- the flow has the clock of each argument
abbrev pub argument_constraint : ℕ → Arg → Placed
argument_constraint i arg = record { constraint = related i arg.flow.0 same_clock; at = arg.at.at }

abbrev pub first_output : App → ℕ
first_output app = (slice_index_or app.outs 0 (record { 0 = 0 })).0

-- Flow `i` is this output of the application: the first has the clock of each argument, and a later one that of the first.
abbrev pub output_constraints : ℕ → ℕ → ℕ → Option App → List Placed
output_constraints i at out None = []
output_constraints i at zero (Some app) = map (argument_constraint i) app.args
output_constraints i at (suc out) (Some app) = (record { constraint = related i (first_output app) same_clock; at = at }) ∷ []

abbrev pub definition_constraints : FlatProgram → ℕ → ℕ → Def → List Placed
definition_constraints p i at (definitions.Sensor k) = []
definition_constraints p i at (definitions.Copy of) = (record { constraint = related i of.0 same_clock; at = at }) ∷ []
definition_constraints p i at (definitions.Const v) = []
definition_constraints p i at (definitions.Apply app out) = output_constraints i at out (slice_get p.apps app)
definition_constraints p i at (definitions.Op op of) = (record { constraint = related i of.0 (timing_of_operator op); at = at }) ∷ []

abbrev pub flow_constraints : FlatProgram → ℕ → Option Flow → List Placed
flow_constraints p i None = []
flow_constraints p i (Some flow) = rate_constraints i flow.at.at flow.rate ++ definition_constraints p i flow.at.at flow.def

-- those of the flows below this number
abbrev pub constraints_below : FlatProgram → ℕ → List Placed
constraints_below p zero = []
constraints_below p (suc i) = constraints_below p i ++ flow_constraints p i (slice_get p.flows i)

abbrev pub constraints_of : FlatProgram → List Placed
constraints_of p = constraints_below p (length p.flows)

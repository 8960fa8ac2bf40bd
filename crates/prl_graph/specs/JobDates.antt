-- The values of a solution of the flat program at the dates of jobs.
use Rattle.std.specs.Prelude.{ℕ, pos, List, [], ◌∷◌, map, slice_index_or, unwrap_or}
use Rattle.prl_base.specs.declared.numbers.FlowNo.{FlowNo}
use Rattle.prl_base.specs.declared.operators.Clock.{Clock}
use Rattle.prl_base.specs.declared.values.Value.{Value}
use Rattle.prl_base.specs.declared.values.Value.TheVariants as values
use Rattle.prl_flow.specs.declared.programs.App.{App}
use Rattle.prl_flow.specs.declared.programs.Arg.{Arg}
use Rattle.prl_flow.specs.Programs.{FlatProgram}
use Rattle.prl_plan.specs.declared.graphs.Kind.{Kind}
use Rattle.prl_plan.specs.declared.graphs.Kind.TheVariants as kinds
use Rattle.prl_plan.specs.declared.graphs.TaskGraph.{TaskGraph}
use Rattle.prl_plan.specs.Jobs.{task_at}
use Rattle.prl_values.specs.JobValues.{JobValues}
use Rattle.prl_graph.specs.EdgeValues.{value_on_date}

abbrev pub no_flow : FlowNo
no_flow = record { 0 = 0 }

-- the flows of an application's outputs, and of its arguments
abbrev pub outputs_of : FlatProgram → ℕ → List FlowNo
outputs_of p k = (slice_index_or p.apps k (record { name = []; wcet = 1; args = []; outs = []; at = record { at = 0; len = 0 } })).outs

-- the flows that a task gives, in the order of its outputs; an actuator gives what it reads
abbrev pub given_flows : FlatProgram → Kind → List FlowNo
given_flows p (kinds.Sensor k) = slice_index_or p.ins k no_flow ∷ []
given_flows p (kinds.Node k) = outputs_of p k
given_flows p (kinds.Actuator k) = slice_index_or p.outs k no_flow ∷ []

-- the value of a flow at its n-th date; one that is not there, which no solution lacks, counts as 0
abbrev pub value_or_none : List Clock → List (List Value) → ℕ → FlowNo → Value
value_or_none clocks flows n flow = unwrap_or (value_on_date clocks flows flow.0 n) (values.Int (pos 0))

-- by task and job, the values at the job's date of the flows that the task gives
abbrev pub values_on_dates : FlatProgram → List Clock → List (List Value) → TaskGraph → JobValues
values_on_dates p clocks flows graph i n = map (value_or_none clocks flows n) (given_flows p (task_at graph i).kind)

-- the flows that an application reads
abbrev pub argument_flow_numbers : App → List FlowNo
argument_flow_numbers app = map (λ (arg : Arg). arg.flow) app.args

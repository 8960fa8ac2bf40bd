-- What the jobs of a command compute, beside the one behaviour of its texts.
use Rattle.std.specs.Prelude.{◌≡◌, ℕ, List, Some, slice_get}
use Rattle.prl_base.specs.Clocks.{date_at}
use Rattle.prl_base.specs.declared.numbers.FlowNo.{FlowNo}
use Rattle.prl_body.specs.Bodies.{body_named}
use Rattle.prl_body.specs.declared.bodies.CheckedBody.{CheckedBody}
use Rattle.prl_causal.specs.Behaviours.{state_in}
use Rattle.prl_flow.specs.declared.programs.App.{App}
use Rattle.prl_flow.specs.Applications.{registers_before}
use Rattle.prl_flow.specs.Flows.{value_at}
use Rattle.prl_flow.specs.Programs.{FlatProgram}
use Rattle.prl_flow.specs.Rows.{Rows}
use Rattle.prl_flow.specs.States.{State, Timed, registers_at}
use Rattle.prl_graph.specs.JobDates.{given_flows}
use Rattle.prl_graph.specs.Ports.{node_no}
use Rattle.prl_plan.specs.declared.graphs.TaskGraph.{TaskGraph}
use Rattle.prl_plan.specs.Jobs.{IsHorizonJob, task_at}
use Rattle.prl_values.specs.JobValues.{job_values, reads_of_job}
use Rattle.prl_stages.specs.Given.{Given}
use Rattle.prl_stages.specs.Replayed.{Execution, ReadFlows}

-- What a job of the horizon gives at each output, by instance, is the value that the output's flow has at the job's date. An
-- actuator's job gives the flow that it reads.
abbrev pub GiveFlows : FlatProgram → TaskGraph → List CheckedBody → Rows → ℕ → List Timed → Type 0
GiveFlows p graph bodies rows until flows =
    (i n out : ℕ) (of : FlowNo) (flow : Timed) → slice_get (given_flows p (task_at graph i).kind) out ≡ Some of → slice_get flows of.0 ≡ Some flow →
    IsHorizonJob graph until i n →
    slice_get (job_values graph bodies rows until i n) out ≡ value_at flow.clock flow.values (date_at (task_at graph i).clock n)

-- What the steps on what the jobs of an application have read leave in its body's registers, before a job of the horizon, is what
-- the application holds before its date of this number.
abbrev pub KeepRegisters : FlatProgram → TaskGraph → List CheckedBody → Rows → ℕ → State → Type 0
KeepRegisters p graph bodies rows until s =
    (k n : ℕ) (app : App) (body : CheckedBody) → slice_get p.apps k ≡ Some app → body_named bodies app.name ≡ Some body →
    IsHorizonJob graph until (node_no p k) n →
    slice_get (registers_at s k) n ≡ Some (registers_before body (reads_of_job graph (job_values graph bodies rows until) (node_no p k)) n)

-- What the jobs of the plan up to the horizon read, give and keep is what the one behaviour has.
pub record Computes (g : Given) (e : Execution g) : Type 0 where
  pub operands : ReadFlows e.meaning.flat e.plan.graph e.meaning.bodies e.meaning.rows g.until (state_in e.meaning.one.one).flows
  pub outputs : GiveFlows e.meaning.flat e.plan.graph e.meaning.bodies e.meaning.rows g.until (state_in e.meaning.one.one).flows
  pub registers : KeepRegisters e.meaning.flat e.plan.graph e.meaning.bodies e.meaning.rows g.until (state_in e.meaning.one.one)

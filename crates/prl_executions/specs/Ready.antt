-- What a run needs, and what it comes to.
use Rattle.std.specs.Prelude.{◌≡◌, ℕ, List, length, Option}
use Rattle.prl_board.specs.Closings.{ClosedView}
use Rattle.prl_core.specs.Cores.{opened_on}
use Rattle.prl_flow.specs.declared.programs.OutFlow.{OutFlow}
use Rattle.prl_flow.specs.Actuators.{AreUpTo}
use Rattle.prl_plan.specs.Horizons.{Placement, constants_of}
use Rattle.prl_overlaps.specs.declared.entries.Entry.{Entry}
use Rattle.prl_plan.specs.Runs.{ExecState}
use Rattle.prl_replay.specs.Replays.{AreFlowsBelow}
use Rattle.prl_values.specs.Fitting.{HaveTaskBodies, HaveTypedRows}
use Rattle.prl_stages.specs.Given.{Given}
use Rattle.prl_stages.specs.Replayed.{Execution}
use Rattle.prl_stages.specs.Runs.{meant_flows}
use Rattle.prl_stages.specs.declared.ran.Ran.{Ran}
use Rattle.prl_stages.specs.declared.ran.Ran.TheVariants as runs
use Rattle.prl_stages.specs.Ran.{HasOverrun, IsRunOf, IsRunText}
use Rattle.prl_rule.specs.declared.views.Gate.{Gate}
use Rattle.prl_rule.specs.declared.views.Gate.TheVariants as gates
use Rattle.prl_table.specs.Noted.{AreAllNoted}
use Rattle.prl_tables.specs.Tables.{last_unit}
use Rattle.prl_executions.specs.declared.ready.Ready.{Ready}
use Rattle.prl_executions.specs.declared.running.Outcome.{Outcome}
use Rattle.prl_executions.specs.declared.running.Outcome.TheVariants as outcomes

-- what the texts mean with the program's plan, as what a run needs
abbrev pub ready_of : (g : Given) → Execution g → Ready
ready_of g e = record { plan = e.plan; bodies = e.meaning.bodies; sensors = e.meaning.rows; horizon = e.horizon }

-- It is what the texts mean, with bodies and rows that serve the tasks; and what the actuators have got in a state, wherever the tasks
-- run, are main's outputs where it is up to the date.
pub record IsReady (g : Given) (r : Ready) : Type 0 where
  pub execution : Execution g
  pub made : r ≡ ready_of g execution
  pub serve : HaveTaskBodies r.plan.graph r.bodies
  pub rows : HaveTypedRows r.plan.graph r.horizon.until r.sensors
  pub outs : (placement : Placement) (s : ExecState) (flows : List OutFlow)
      → AreFlowsBelow (record (opened_on r.plan placement r.bodies r.sensors r.horizon) { state = s }) (length r.plan.graph.tasks) flows
      → AreUpTo r.horizon.until flows → flows ≡ meant_flows g execution.meaning

-- the text is that of a run of what is ready
abbrev pub IsTextOf : (g : Given) → Ready → Gate → List ℕ → Ran → Type 0
IsTextOf g r gate text ran = (e : Execution g) × (r ≡ ready_of g e) × IsRunOf g e gate text ran

-- the same by a table: it was noted that each job was done at the beginning of its last unit
pub record IsDrivenTextOf (g : Given) (r : Ready) (entries : List Entry) (text : List ℕ) (ran : Ran) : Type 0 where
  pub closed : ClosedView
  pub ticks : List (List (Option ℕ))
  pub driven : ran ≡ runs.Driven (closed, ticks)
  pub of : IsTextOf g r gates.Gated text (runs.Ended closed)
  pub by : AreAllNoted (constants_of r.plan r.horizon) (last_unit r.plan.graph entries) ticks

-- all jobs have ended, or the run has stopped at a read that was overrun
abbrev pub IsOutcome : Given → Gate → Outcome → Type 0
IsOutcome g gate (outcomes.Ended text ran) = IsRunText g gate text.items ran
IsOutcome g gate (outcomes.Overrun plan stopped) = HasOverrun g gate plan stopped

-- What a command has run: the tasks of the program's plan on a board, and the summary of a generated program's run.
use Rattle.std.specs.Prelude.{◌≡◌, ◌+ℤ◌, ℕ, ℤ, pos, List, [], ◌∷◌, length, Option, Some, codes, fold}
use Rattle.std.specs.List.{concat}
use Rattle.std.specs.Fmt.{decimal, signed_decimal}
use Rattle.prl_base.specs.declared.values.Value.{Value}
use Rattle.prl_base.specs.declared.values.Value.TheVariants as values
use Rattle.prl_arguments.specs.declared.arguments.Command.{Command}
use Rattle.prl_arguments.specs.declared.arguments.Mode.{Mode}
use Rattle.prl_arguments.specs.declared.arguments.Mode.TheVariants as modes
use Rattle.prl_board.specs.Closings.{ClosedView, IsClosed}
use Rattle.prl_core.specs.Cores.{opened}
use Rattle.prl_exec.specs.Runs.{HasEnded, HasStopped}
use Rattle.prl_exec.specs.declared.runs.Stopped.{Stopped}
use Rattle.prl_flow.specs.declared.programs.OutFlow.{OutFlow}
use Rattle.prl_flow.specs.Actuators.{actuator_text}
use Rattle.prl_plan.specs.declared.events.Event.{Event}
use Rattle.prl_plan.specs.declared.horizons.Horizon.{Horizon}
use Rattle.prl_plan.specs.Horizons.{constants_of}
use Rattle.prl_plan.specs.Plans.{PlanView}
use Rattle.prl_plan.specs.Rules.{IsComplete, IsGated}
use Rattle.prl_plan.specs.Runs.{opening, after_events}
use Rattle.prl_replay.specs.Replays.{IsTrace}
use Rattle.prl_replay.specs.Shown.{AreShown}
use Rattle.prl_rule.specs.declared.views.Constants.{Constants}
use Rattle.prl_rule.specs.declared.views.Gate.{Gate}
use Rattle.prl_rule.specs.declared.views.Gate.TheVariants as gates
use Rattle.prl_rule.specs.Known.{known}
use Rattle.prl_schedules.specs.Dispatches.{IsDispatched}
use Rattle.prl_track.specs.declared.seen.Seen.{Seen}
use Rattle.prl_stages.specs.declared.ran.Ran.{Ran}
use Rattle.prl_stages.specs.declared.ran.Ran.TheVariants as runs
use Rattle.prl_stages.specs.Given.{Given}
use Rattle.prl_stages.specs.Replayed.{Execution}
use Rattle.prl_stages.specs.Runs.{meant_flows}
use Rattle.prl_stages.specs.Stages.{IsText}
use Rattle.prl_stages.specs.Tabled.{HasTable}
use Rattle.prl_overlaps.specs.declared.entries.Entry.{Entry}
use Rattle.prl_table.specs.Noted.{AreAllNoted}
use Rattle.prl_tables.specs.Tables.{last_unit}
use Rattle.prl_tables.specs.Unrolled.{unrolled}

-- the constants of a board on which the texts are executed
abbrev pub board_of : (g : Given) → Execution g → Gate → Constants
board_of g e gate = known e.plan e.horizon gate e.meaning.rows e.meaning.bodies

-- The tasks have run on a board with this gate, which is closed: it shows a state that the run has come to, in which every job of
-- the horizon has ended, and that the actuators got main's outputs.
pub record HasRun (g : Given) (e : Execution g) (gate : Gate) (closed : ClosedView) : Type 0 where
  pub constants : closed.constants ≡ Some (board_of g e gate)
  pub is : IsClosed (board_of g e gate) closed.words closed.seats
  pub ended : HasEnded closed
  pub shown : AreShown closed e.plan.graph (meant_flows g e.meaning)

-- the text is that of the actuators of this board, on which the tasks have run
pub record IsRunOf (g : Given) (e : Execution g) (gate : Gate) (text : List ℕ) (ran : Ran) : Type 0 where
  pub closed : ClosedView
  pub ended : ran ≡ runs.Ended closed
  pub run : HasRun g e gate closed
  pub written : text ≡ actuator_text g.until (meant_flows g e.meaning)

abbrev pub IsRunText : Given → Gate → List ℕ → Ran → Type 0
IsRunText g gate text ran = (e : Execution g) × IsRunOf g e gate text ran

-- the list of a table: each job does all its actions at the beginning of its last unit
abbrev pub list_of : PlanView → Horizon → List Entry → List Event
list_of plan horizon entries = unrolled (constants_of plan horizon) (last_unit plan.graph entries)

-- The tasks have run by the good table of the text on a gated board: its list is a gated list of the plan in which every job of the
-- horizon ends, and what was noted of the run is that each job was done at the beginning of its last unit. The text is that of the
-- actuators.
pub record IsCycleText (g : Given) (text : List ℕ) (ran : Ran) : Type 0 where
  pub execution : Execution g
  pub entries : List Entry
  pub has_table : HasTable g execution.plan entries
  pub gated : IsGated (constants_of execution.plan execution.horizon) (opening (constants_of execution.plan execution.horizon))
      (list_of execution.plan execution.horizon entries)
  pub complete : IsComplete (constants_of execution.plan execution.horizon)
      (after_events (constants_of execution.plan execution.horizon) (opening (constants_of execution.plan execution.horizon))
      (list_of execution.plan execution.horizon entries))
  pub closed : ClosedView
  pub ticks : List (List (Option ℕ))
  pub driven : ran ≡ runs.Driven (closed, ticks)
  pub run : HasRun g execution gates.Gated closed
  pub by : AreAllNoted (constants_of execution.plan execution.horizon) (last_unit execution.plan.graph entries) ticks
  pub written : text ≡ actuator_text g.until (meant_flows g execution.meaning)

-- a run on the plan with this gate has stopped at a read that was overrun
pub record HasOverrun (g : Given) (gate : Gate) (plan : PlanView) (stopped : Stopped) : Type 0 where
  pub execution : Execution g
  pub plan_is : execution.plan ≡ plan
  pub run : HasStopped (board_of g execution gate) stopped

-- a sum with one value more, of which a Boolean counts nothing
abbrev pub with_value : ℤ → Value → ℤ
with_value total (values.Int number) = total +ℤ number
with_value total (values.Bool truth) = total

abbrev pub with_values : ℤ → List Value → ℤ
with_values total list = fold with_value total list

-- the sum of all values of flows
abbrev pub sum_of : List OutFlow → ℤ
sum_of outs = fold (λ (total : ℤ) (out : OutFlow). with_values total out.values) (pos 0) outs

-- the line of a summary
abbrev pub summary_line : ℕ → ℕ → ℕ → ℕ → ℕ → ℕ → ℤ → List ℕ
summary_line seed size tasks edges jobs reads total =
    concat (
    codes "seed " ∷ decimal seed ∷ codes " size " ∷ decimal size ∷ codes " tasks " ∷ decimal tasks ∷ codes " edges " ∷ decimal edges
    ∷ codes " jobs " ∷ decimal jobs ∷ codes " reads " ∷ decimal reads ∷ codes " sum " ∷ signed_decimal total ∷ codes "\n" ∷ []
    )

-- The dispatched list of the plan is replayed, and the tasks run on a gated board; both give main's outputs. The summary has the
-- numbers of tasks, edges, jobs and reads, and the sum of all values of the outputs.
pub record IsSummary (g : Given) (seed size : ℕ) (text : List ℕ) (ran : Ran) : Type 0 where
  pub execution : Execution g
  pub closed : ClosedView
  pub ended : ran ≡ runs.Ended closed
  pub run : HasRun g execution gates.Gated closed
  pub events : List Event
  pub dispatched : IsDispatched (constants_of execution.plan execution.horizon) (opening (constants_of execution.plan execution.horizon)) events
  pub reads : List Seen
  pub trace : IsTrace (opened execution.plan execution.meaning.bodies execution.meaning.rows execution.horizon) events reads (meant_flows g execution.meaning)
  pub written : text ≡ summary_line seed size (length execution.plan.graph.tasks) (length execution.plan.graph.edges) execution.horizon.jobs (length reads)
      (sum_of (meant_flows g execution.meaning))

-- the text of a mode with what it has run
abbrev pub IsMeantIn : Mode → Given → Command → List ℕ → Ran → Type 0
IsMeantIn modes.Run g c text ran = IsRunText g c.clock text ran
IsMeantIn modes.Generate g c text ran = IsSummary g c.seed c.size text ran
IsMeantIn modes.Cycle g c text ran = IsCycleText g text ran
IsMeantIn mode g c text ran = IsText g mode text × (ran ≡ runs.Not)

-- the text that a command means where its stages hold, with what it has run
abbrev pub IsMeant : Given → Command → List ℕ → Ran → Type 0
IsMeant g c text ran = IsMeantIn c.mode g c text ran

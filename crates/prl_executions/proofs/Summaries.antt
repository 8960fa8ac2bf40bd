-- The list of events that is dispatched is replayed, and its replay and a run have their summary.
use Rattle.std.proofs.Common.{◌≡◌, ◌≢◌, ◌∙◌, ℕ, ℤ, List, length, Some, refl, ap, subst}
use Rattle.prl_base.specs.declared.numbers.TaskNo.{TaskNo}
use Rattle.prl_board.specs.Closings.{ClosedView, IsClosed}
use Rattle.prl_core.specs.Cores.{CoreView, constants, opened, opened_on}
use Rattle.prl_exec.specs.Runs.{HasEnded}
use Rattle.prl_flow.specs.declared.programs.OutFlow.{OutFlow}
use Rattle.prl_plan.specs.Vocabulary.{Placement, alone, constants_of, after_events, opening, IsLegal, IsComplete}
use Rattle.prl_plan.specs.declared.events.Event.{Event}
use Rattle.prl_plan.specs.declared.events.Rule.{Rule}
use Rattle.prl_replay.specs.Replays.{FailsWith, IsRunFault, IsTrace, after_all}
use Rattle.prl_replay.specs.declared.faults.ReplayFault.{ReplayFault}
use Rattle.prl_replay.specs.declared.faults.ReplayFault.TheVariants as faults
use Rattle.prl_replay.specs.Shown.{AreShown}
use Rattle.prl_rule.specs.declared.views.Gate.TheVariants as gates
use Rattle.prl_schedules.specs.Dispatches.{IsDispatched}
use Rattle.prl_stages.specs.declared.ran.Ran.TheVariants as runs
use Rattle.prl_stages.specs.Vocabulary.{Given, IsSummary, sum_of, summary_line, meant_flows}
use Rattle.prl_track.specs.declared.seen.Seen.{Seen}
use Rattle.prl_executions.specs.declared.ready.Ready.{Ready}
use Rattle.prl_executions.specs.code.Generated.{IsReplayed}
use Rattle.prl_executions.specs.Ready.{IsReady}
use Rattle.prl_executions.proofs.Preparing.{ShownLaws, board_has_run, known_of, shown_meant}

pub illegal_apart : (line : ℕ) (rule : Rule) → faults.Illegal line rule ≡ faults.Memory → ⊥
illegal_apart line rule e = cc

pub unfinished_apart : (task : TaskNo) (job : ℕ) → faults.Unfinished task job ≡ faults.Memory → ⊥
unfinished_apart task job e = cc

-- A legal and complete list, told again, is no faulty run of all tasks on one processor.
pub no_fault : ((core : CoreView) (events : List Event) (fault : ReplayFault) → IsLegal (constants core) core.state events → IsComplete (constants core) (after_all core events).state
    → IsRunFault core events fault → ⊥) → (r : Ready) (placement : Placement) (list told : List Event) (fault : ReplayFault) → placement ≡ alone r.plan → told ≡ list
    → IsLegal (constants_of r.plan r.horizon) (opening (constants_of r.plan r.horizon)) list
    → IsComplete (constants_of r.plan r.horizon) (after_events (constants_of r.plan r.horizon) (opening (constants_of r.plan r.horizon)) list)
    → FailsWith (opened_on r.plan placement r.bodies r.sensors r.horizon) told fault → fault ≢ faults.Memory → ⊥
no_fault law r placement list told fault one same legal complete fails some =
    law (opened r.plan r.bodies r.sensors r.horizon) list fault legal complete
    (subst (λ (events : List Event). IsRunFault (opened r.plan r.bodies r.sensors r.horizon) events fault) same
    (subst (λ (p : Placement). IsRunFault (opened_on r.plan p r.bodies r.sensors r.horizon) told fault) one (fails some)))

module _ (g : Given) (r : Ready) (ready : IsReady g r) (law : ShownLaws) (closed : ClosedView) (its : closed.constants ≡ Some (known_of r gates.Gated)) (ended : HasEnded closed)
    (is_closed : IsClosed (known_of r gates.Gated) closed.words closed.seats) where
  pub summary_is : (told : List Seen) (flows : List OutFlow) → IsReplayed r told flows → (outs : List OutFlow) → AreShown closed r.plan.graph outs
      → (seed size reads : ℕ) (sum : ℤ) (text : List ℕ) → reads ≡ length told → sum ≡ sum_of outs
      → text ≡ summary_line seed size (length r.plan.graph.tasks) (length r.plan.graph.edges) r.horizon.jobs reads sum
      → IsSummary g seed size text (runs.Ended closed)
  summary_is told flows replayed outs shown seed size reads sum text count total written =
      let e = ready.execution in
      let meant = shown_meant g r ready law gates.Gated closed its ended is_closed outs shown in
      let same = ready.outs (alone r.plan) (after_all (opened r.plan r.bodies r.sensors r.horizon) replayed.events).state flows replayed.trace.flows replayed.up_to in
      let list = replayed.events in
      record {
        execution = e;
        closed = closed;
        ended = refl;
        run = board_has_run g r ready law gates.Gated closed its ended is_closed outs shown;
        events = list;
        dispatched = subst (λ (x : Ready). IsDispatched (constants_of x.plan x.horizon) (opening (constants_of x.plan x.horizon)) list) ready.made replayed.dispatched;
        reads = told;
        trace = subst (λ (x : Ready). IsTrace (opened x.plan x.bodies x.sensors x.horizon) list told (meant_flows g e.meaning)) ready.made
            (subst (IsTrace (opened r.plan r.bodies r.sensors r.horizon) list told) same replayed.trace);
        written = written
            ∙ ap (λ (x : Ready). summary_line seed size (length x.plan.graph.tasks) (length x.plan.graph.edges) x.horizon.jobs reads sum) ready.made
            ∙ ap (λ (n : ℕ). summary_line seed size (length e.plan.graph.tasks) (length e.plan.graph.edges) e.horizon.jobs n sum) count
            ∙ ap (λ (z : ℤ). summary_line seed size (length e.plan.graph.tasks) (length e.plan.graph.edges) e.horizon.jobs (length told) z) (total ∙ ap sum_of meant);
      }

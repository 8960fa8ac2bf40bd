-- The laws of plans on which the steps rest.
use Rattle.std.specs.Prelude.{◌≡◌, ◌+◌, ◌<◌, ◌≤◌, ◌↔◌, ◌++◌, ℕ, List, slice_index}
use Rattle.prl_plan.specs.declared.events.Action.TheVariants as actions
use Rattle.prl_plan.specs.declared.events.Event.{Event}
use Rattle.prl_plan.specs.declared.horizons.Horizon.{Horizon}
use Rattle.prl_plan.specs.declared.walks.Operand.TheVariants as operands
use Rattle.prl_plan.specs.Horizons.{IsHorizon, constants_of}
use Rattle.prl_plan.specs.Operands.{operand_of}
use Rattle.prl_plan.specs.Plans.{IsPlan, PlanView, deadline_at, edge_at, release_at}
use Rattle.prl_plan.specs.Runs.{RunConstants, ExecState, opening, after_events, next_action}
use Rattle.prl_plan.specs.Rules.{HasJob, IsGated, IsFree, IsUnfinished}
use Rattle.prl_plan.specs.Facts.{HasPlanFacts, ReadsAt, WritesAt}
use Rattle.prl_plan.specs.LastTags.{IsLeft}
use Rattle.prl_plan.specs.States.{IsTagged, IsDone}
use Rattle.prl_rule.specs.Rule.{reached}

pub record PlanLaws : Type 0 where
  -- a run of two lists
  pub state : (c : RunConstants) (s : ExecState) (first second : List Event) →
      after_events c s (first ++ second) ≡ after_events c (after_events c s first) second
  pub gated : (c : RunConstants) (s : ExecState) (first second : List Event) →
      IsGated c s (first ++ second) ↔ (IsGated c s first × IsGated c (after_events c s first) second)
  pub free : (c : RunConstants) (s : ExecState) (first second : List Event) →
      IsFree c s (first ++ second) ↔ (IsFree c s first × IsFree c (after_events c s first) second)
  -- what free lists keep: a half has the tag of the latest instance that its writer wrote to it
  pub tagged : (c : RunConstants) → HasPlanFacts c → (events : List Event) → IsFree c (opening c) events → IsTagged c (reached c events)
  pub written : (c : RunConstants) (s : ExecState) → IsTagged c s → (slot m : ℕ) → slice_index s.tags slot ≡ m + 1 →
      (i : ℕ) × (n : ℕ) × (place : ℕ) × WritesAt c i n place m slot × IsDone s i n place
  pub left : (c : RunConstants) → HasPlanFacts c → (events : List Event) → IsFree c (opening c) events → IsLeft c (reached c events)
  -- what gated lists keep: what is due has ended, and a half holds no later instance than one that is still to be read
  pub kept : (c : RunConstants) → HasPlanFacts c → (events : List Event) → IsGated c (opening c) events →
      (i n : ℕ) → IsUnfinished c (reached c events) i n → (reached c events).now < c.deadline i n
  pub held : (c : RunConstants) → HasPlanFacts c → (events : List Event) → IsGated c (opening c) events →
      (i n place m slot : ℕ) → ReadsAt c i n place m slot → IsUnfinished c (reached c events) i n → slice_index (reached c events).tags slot ≤ m + 1
  -- no job that reads an instance that a write replaces, of the horizon or not, is due after the release of the writer
  pub replaced : (plan : PlanView) → IsPlan plan → (h : Horizon) → IsHorizon plan h → (s : ExecState) → IsTagged (constants_of plan h) s →
      (i e n slot l k : ℕ) → HasJob (constants_of plan h) s i →
      next_action (constants_of plan h) s i ≡ actions.Write (record { 0 = e }) n (record { 0 = slot }) → slice_index s.tags slot ≡ l + 1 →
      operand_of (edge_at plan.graph e) k ≡ operands.From l → deadline_at plan (edge_at plan.graph e).to.0 k ≤ release_at plan i n

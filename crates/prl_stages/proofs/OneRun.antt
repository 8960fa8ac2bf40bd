-- A program has one horizon, and its schedule is whole or is refused with one fault.
use Rattle.std.proofs.Common.{◌≡◌, Some, sym, ap, ◌∙◌, subst}
use Rattle.prl_base.specs.declared.limits.Limit.{Limit}
use Rattle.prl_plan.specs.Vocabulary.{IsHorizon, IsPastLimit, PlanView}
use Rattle.prl_plan.specs.declared.graphs.TaskGraph.{TaskGraph}
use Rattle.prl_plan.specs.declared.horizons.Horizon.{Horizon}
use Rattle.prl_replay.specs.Replays.{IsReplayFault}
use Rattle.prl_replay.specs.declared.faults.ReplayFault.{ReplayFault}
use Rattle.prl_stages.specs.declared.faults.InputFile.TheVariants as parts
use Rattle.prl_stages.specs.Vocabulary.{Fault, Given, text_of, HasGraph, HasPlan, IsWholeRun, RefusesSchedule, bare, schedule_refusal, HasHorizon, RefusesHorizon, RunLaws}
use Rattle.prl_stages.specs.declared.faults.Fault.TheVariants as faults
use Rattle.prl_stages.proofs.Told.{some_some}

module _ (law : RunLaws) (g : Given) (one_graph : (a b : TaskGraph) → HasGraph g a → HasGraph g b → a ≡ b) where
  pub one_plan : (a b : PlanView) → HasPlan g a → HasPlan g b → a ≡ b
  one_plan a b h k = law.plan a b h.is_plan k.is_plan (one_graph a.graph b.graph h.has_graph k.has_graph)

  pub horizon_apart : (plan : PlanView) (horizon : Horizon) (f : Fault) → HasHorizon g plan horizon → RefusesHorizon g f → ⊥
  horizon_apart plan horizon f h k =
      law.horizon_or_limit plan g.until horizon k.2 h.is_horizon h.until
      (subst (λ (p : PlanView). IsPastLimit p g.until k.2) (one_plan k.0 plan k.1 h.has_plan) k.3)

  pub horizon_one : (a b : Fault) → RefusesHorizon g a → RefusesHorizon g b → a ≡ b
  horizon_one a b h k =
      let limit = subst (λ (p : PlanView). IsPastLimit p g.until k.2) (one_plan k.0 h.0 k.1 h.1) k.3 in
      h.4 ∙ ap faults.Limit (law.one_limit h.0 g.until h.2 k.2 h.3 limit) ∙ sym k.4

  -- what holds of one plan with its horizon holds of the other
  pub moved : (p q : PlanView) (a b : Horizon) (P : PlanView → Horizon → Type 0) → HasHorizon g p a → HasHorizon g q b → P p a → P q b
  moved p q a b P h k is =
      let same = one_plan p q h.has_plan k.has_plan in
      let there : IsHorizon q a = subst (λ (x : PlanView). IsHorizon x a) same h.is_horizon in
      let horizons = law.one_horizon q g.until a b there k.is_horizon h.until k.until in
      subst (P q) horizons (subst (λ (x : PlanView). P x a) same is)

  pub schedule_apart : (plan : PlanView) (horizon : Horizon) (f : Fault) → IsWholeRun g plan horizon → RefusesSchedule g f → ⊥
  schedule_apart plan horizon f h k =
      let text = text_of g parts.Schedule in
      let fault = moved k.0 plan k.1 horizon (λ p a. IsReplayFault (bare p a) text k.3) k.2 h.has_horizon k.4 in
      law.whole_or_fault (bare plan horizon) text k.3 (h.events, h.listed, h.whole.legal, h.whole.complete) fault

  pub schedule_one : (a b : Fault) → RefusesSchedule g a → RefusesSchedule g b → a ≡ b
  schedule_one a b h k =
      let text = text_of g parts.Schedule in
      let fault = moved k.0 h.0 k.1 h.1 (λ p a. IsReplayFault (bare p a) text k.3) k.2 h.2 k.4 in
      let cause : h.3 ≡ k.3 = law.one_fault (bare h.0 h.1) text h.3 k.3 h.4 fault in
      let graphs : k.0.graph ≡ h.0.graph = ap (λ (p : PlanView). p.graph) (one_plan k.0 h.0 k.2.has_plan h.2.has_plan) in
      let there : schedule_refusal h.0.graph k.3 ≡ Some k.5 = subst (λ (x : TaskGraph). schedule_refusal x k.3 ≡ Some k.5) graphs k.6 in
      let here : schedule_refusal h.0.graph h.3 ≡ Some k.5 = subst (λ (x : ReplayFault). schedule_refusal h.0.graph x ≡ Some k.5) (sym cause) there in
      h.7 ∙ ap faults.Schedule (some_some (schedule_refusal h.0.graph h.3) h.5 k.5 h.6 here) ∙ sym k.7

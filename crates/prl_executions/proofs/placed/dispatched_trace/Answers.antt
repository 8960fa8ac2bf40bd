use Rattle.prl_base.proofs.Standard.{◌≡◌, ◌≢◌, List, Result, Ok, Err, MatchResult, IfErr, sym, ◌∙◌, subst, All}
use Rattle.prl_core.specs.Cores.{opened_on}
use Rattle.prl_plan.specs.Vocabulary.{Placement, constants_on, IsComplete, IsLegal, opening, after_events}
use Rattle.prl_plan.specs.declared.events.Event.{Event}
use Rattle.prl_replay.specs.Replays.{FailsWith}
use Rattle.prl_replay.specs.declared.faults.ReplayFault.{ReplayFault}
use Rattle.prl_replay.specs.declared.faults.ReplayFault.TheVariants as causes
use Rattle.prl_track.specs.Machine.{IsOfPlan}
use Rattle.prl_calls.proofs.Schedules.{legal_of_plan}
use Rattle.prl_executions.proofs.placed.dispatched_trace.Goals as goal

-- what a failure says
failure : {T : Type 0} (r : Result T ReplayFault) (P : T → Type 0) (Q R : ReplayFault → Type 0) → ((fault : ReplayFault) → Q fault → R fault) → MatchResult r P Q → IfErr r R
failure (Ok x) P Q R f h = tt
failure (Err e) P Q R f h = f e h

pub run_list-requires-clause-events : goal.run_list-requires-clause-events
run_list-requires-clause-events c =
    let r = c.args.ready.now in
    subst (λ (list : List Event). All (IsOfPlan r.plan) list) (sym c.deref.ensures.value)
    (legal_of_plan r.plan c.placed.result r.horizon (opening (constants_on r.plan c.placed.result r.horizon)) c.in_ok-events.events.items c.in_ok-events.ensures.legal)

pub returns-clause-fault : goal.returns-clause-fault
returns-clause-fault c =
    let r = c.args.ready.now in
    let plan = r.plan in
    let horizon = r.horizon in
    let same : c.placed.result ≡ c.placed-2.result = c.placed.ensures ∙ sym c.placed-2.ensures in
    let legal : IsLegal (constants_on plan c.placed-2.result horizon) (opening (constants_on plan c.placed-2.result horizon)) c.deref.result.now =
    subst (λ (list : List Event). IsLegal (constants_on plan c.placed-2.result horizon) (opening (constants_on plan c.placed-2.result horizon)) list) (sym c.deref.ensures.value)
    (subst (λ (p : Placement). IsLegal (constants_on plan p horizon) (opening (constants_on plan p horizon)) c.in_ok-events.events.items) same c.in_ok-events.ensures.legal) in
    let complete : IsComplete (constants_on plan c.placed-2.result horizon) (after_events (constants_on plan c.placed-2.result horizon) (opening (constants_on plan c.placed-2.result horizon)) c.deref.result.now) =
    subst (λ (list : List Event). IsComplete (constants_on plan c.placed-2.result horizon) (after_events (constants_on plan c.placed-2.result horizon) (opening (constants_on plan c.placed-2.result horizon)) list)) (sym c.deref.ensures.value)
    (subst (λ (p : Placement). IsComplete (constants_on plan p horizon) (after_events (constants_on plan p horizon) (opening (constants_on plan p horizon)) c.in_ok-events.events.items)) same c.in_ok-events.ensures.complete) in
    failure c.run_list.result _ (FailsWith (opened_on plan c.placed-2.result r.bodies r.sensors horizon) c.deref.result.now) (λ fault. fault ≢ causes.Memory → ⊥)
    (λ fault fails some. c.replays_end_one_way.ensures.whole (opened_on plan c.placed-2.result r.bodies r.sensors horizon) c.deref.result.now fault legal complete (fails some))
    c.run_list.ensures.run

use Rattle.std.proofs.Common.{◌<◌, List, [], append-nil, sym, ◌∙◌, ap, subst}
use Rattle.prl_plan.specs.Vocabulary.{HasPlanFacts, constants_on, KeepsLegal, RunConstants, opening, IsSound}
use Rattle.prl_plan.specs.declared.events.Event.{Event}
use Rattle.prl_plan.proofs.StateLaws.{gated_event_keeps_sound, legal_event_is_gated}
use Rattle.prl_track.specs.Vocabulary.{left_in, TrackView, run_of}
use Rattle.prl_track.proofs.NextLaws.{next_keeps_legal}
use Rattle.prl_track.proofs.Falls.{legal_event_leaves_less}
use Rattle.prl_schedules.specs.Dispatches.{IsDispatched}
use Rattle.prl_schedules.proofs.Dispatching.{LeadsTo, leads_on, dispatched_is_legal, dispatched_is_complete}
use Rattle.prl_schedules.proofs.dispatches.dispatch_on.Goals as goal

pub loop-event-smaller : goal.loop-event-smaller
loop-event-smaller c =
    let t : TrackView = c.loop-event.track in
    let facts : HasPlanFacts (run_of t) = subst HasPlanFacts (sym c.loop-event.invariant.run) c.requires.facts in
    subst (λ (v : TrackView). left_in (run_of v) v.state < left_in (run_of t) t.state) (sym c.follow.ensures)
    (legal_event_leaves_less (run_of t) facts t.state c.loop-event.invariant.sound.tagged c.in-Some.event (next_keeps_legal (run_of t) facts t.state c.in-Some.event c.in-Some.ensures))

pub loop-event-preserved : goal.loop-event-preserved
loop-event-preserved c =
    let t : TrackView = c.loop-event.track in
    let facts : HasPlanFacts (run_of t) = subst HasPlanFacts (sym c.loop-event.invariant.run) c.requires.facts in
    let keeps : KeepsLegal (run_of t) t.state c.in-Some.event = next_keeps_legal (run_of t) facts t.state c.in-Some.event c.in-Some.ensures in
    record {
      run = ap run_of c.follow.ensures ∙ c.loop-event.invariant.run;
      sound = subst (λ (v : TrackView). IsSound (run_of v) v.state) (sym c.follow.ensures)
          (gated_event_keeps_sound (run_of t) facts t.state c.loop-event.invariant.sound c.in-Some.event
          (legal_event_is_gated (run_of t) facts t.state c.loop-event.invariant.sound c.in-Some.event keeps));
      led = subst (λ (v : TrackView). LeadsTo (run_of v) (opening (run_of v)) c.push.new.self.items v.state) (sym c.follow.ensures)
          (leads_on (run_of t) (opening (run_of t)) t.state c.loop-event.events.items c.push.new.self.items c.in-Some.event c.in_ok-push.ensures.items c.loop-event.invariant.led c.in-Some.ensures);
    }

pub returns-clause-next : goal.returns-clause-next
returns-clause-next c =
    subst (λ (k : RunConstants). IsDispatched k (opening k) c.loop-event.events.items) c.loop-event.invariant.run
    (subst (λ (list : List Event). IsDispatched (run_of c.loop-event.track) (opening (run_of c.loop-event.track)) list) (append-nil c.loop-event.events.items)
    (c.loop-event.invariant.led [] c.in_default.ensures))

pub returns-clause-legal : goal.returns-clause-legal
returns-clause-legal c =
    dispatched_is_legal (constants_on c.args.plan.now c.args.placed c.args.horizon) c.requires.facts (opening (constants_on c.args.plan.now c.args.placed c.args.horizon)) c.loop-event.events.items
    (subst (λ (k : RunConstants). IsDispatched k (opening k) c.loop-event.events.items) c.loop-event.invariant.run
    (subst (λ (list : List Event). IsDispatched (run_of c.loop-event.track) (opening (run_of c.loop-event.track)) list) (append-nil c.loop-event.events.items)
    (c.loop-event.invariant.led [] c.in_default.ensures)))

pub returns-clause-complete : goal.returns-clause-complete
returns-clause-complete c =
    dispatched_is_complete (constants_on c.args.plan.now c.args.placed c.args.horizon) (opening (constants_on c.args.plan.now c.args.placed c.args.horizon)) c.loop-event.events.items
    (subst (λ (k : RunConstants). IsDispatched k (opening k) c.loop-event.events.items) c.loop-event.invariant.run
    (subst (λ (list : List Event). IsDispatched (run_of c.loop-event.track) (opening (run_of c.loop-event.track)) list) (append-nil c.loop-event.events.items)
    (c.loop-event.invariant.led [] c.in_default.ensures)))

use Rattle.std.proofs.Common.{◌≡◌}
use Rattle.prl_plan.specs.Vocabulary.{constants_on, opening, IsSound}
use Rattle.prl_track.specs.Vocabulary.{run_of, left_in}
use Rattle.prl_schedules.proofs.Dispatching.{LeadsTo}
use Rattle.prl_schedules.proofs.dispatches.dispatch_on.Given as goal

-- the track of this plan, where the events so far led
abbrev pub invariant-loop-event : goal.invariant-loop-event
invariant-loop-event l = record {
  run : run_of l.track ≡ constants_on l.fn.plan l.fn.placed l.fn.horizon;
  sound : IsSound (run_of l.track) l.track.state;
  led : LeadsTo (run_of l.track) (opening (run_of l.track)) l.events.items l.track.state;
}

abbrev pub decreases-loop-event : goal.decreases-loop-event
decreases-loop-event l = left_in (run_of l.track) l.track.state

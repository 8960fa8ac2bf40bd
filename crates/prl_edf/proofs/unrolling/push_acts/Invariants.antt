use Rattle.std.proofs.Common.{◌≡◌, ◌<◌, ◌++◌, length, replicate}
use Rattle.prl_plan.specs.declared.events.Event.TheVariants as kinds
use Rattle.prl_plan.specs.Horizons.{constants_of}
use Rattle.prl_track.specs.Routes.{IsAt}
use Rattle.prl_edf.proofs.unrolling.push_acts.Given as goal

-- the acts so far, none of which is the job's end, and where the next one stands
abbrev pub invariant-loop-place : goal.invariant-loop-place
invariant-loop-place l = record {
  acts : l.events.items ≡ l.fn.events.items ++ replicate l.place (kinds.Act l.task);
  at : IsAt l.plan l.task.0 l.job l.place l.cursor;
  ahead : l.place < length ((constants_of l.plan l.fn.horizon).actions l.task.0 l.job);
}

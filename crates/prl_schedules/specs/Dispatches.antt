-- The dispatched list.
use Rattle.std.specs.Prelude.{List, [], ◌∷◌, Some, None}
use Rattle.prl_plan.specs.declared.events.Event.{Event}
use Rattle.prl_plan.specs.Runs.{RunConstants, ExecState, after_event}
use Rattle.prl_track.specs.Tracks.{IsNext}

-- each event is the one that comes next, and none does after the last
abbrev pub IsDispatched : RunConstants → ExecState → List Event → Type 0
IsDispatched c s [] = IsNext c s None
IsDispatched c s (event ∷ events) = IsNext c s (Some event) × IsDispatched c (after_event c s event) events

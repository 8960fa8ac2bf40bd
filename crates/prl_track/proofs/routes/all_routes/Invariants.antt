use Rattle.std.proofs.Common.{◌≡◌, ◌<◌, ℕ, [], length, slice_index_or}
use Rattle.prl_track.specs.Routes.{route_of}
use Rattle.prl_track.proofs.routes.all_routes.Given as goal

-- the routes of the tasks so far
abbrev pub invariant-loop-i : goal.invariant-loop-i
invariant-loop-i l = record {
  tasks : length l.routes.items ≡ l.i;
  each : (j : ℕ) → j < l.i → slice_index_or l.routes.items j [] ≡ route_of l.plan.graph j;
}

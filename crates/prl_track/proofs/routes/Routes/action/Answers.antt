use Rattle.std.proofs.Common.{arith}
use Rattle.prl_track.proofs.routes.Routes.action.Goals as goal

-- before all edges of the route
pub stop-requires-clause-at : goal.stop-requires-clause-at
stop-requires-clause-at c = record { inside = omega arith; stands = omega arith }

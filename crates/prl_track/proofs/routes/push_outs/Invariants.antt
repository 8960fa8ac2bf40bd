use Rattle.prl_track.proofs.RouteLaws.{ListsOuts}
use Rattle.prl_track.proofs.routes.push_outs.Given as goal

abbrev pub invariant-loop-e : goal.invariant-loop-e
invariant-loop-e l = ListsOuts l.i l.edges l.initial.route.items l.e l.route.items

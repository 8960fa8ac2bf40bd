use Rattle.prl_track.proofs.RouteLaws.{ListsIns}
use Rattle.prl_track.proofs.routes.push_ins.Given as goal

abbrev pub invariant-loop-e : goal.invariant-loop-e
invariant-loop-e l = ListsIns l.i l.edges l.initial.route.items l.e l.route.items

use Rattle.std.proofs.Common.{◌++◌, List, map, take}
use Rattle.prl_clock.specs.Vocabulary.{Placed, argument_constraint, IsReached}
use Rattle.prl_clock.proofs.constraints.relate_arguments.Given as goal

abbrev pub invariant-loop-arg : goal.invariant-loop-arg
invariant-loop-arg l =
    (cs : List Placed) → IsReached l.flat cs l.initial.standings → IsReached l.flat (cs ++ map (argument_constraint l.x) (take l.arg-index l.args)) l.standings

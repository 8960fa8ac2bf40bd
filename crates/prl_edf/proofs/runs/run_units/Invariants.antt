use Rattle.std.proofs.Common.{◌-◌, map, vec_items}
use Rattle.prl_plan.specs.Horizons.{constants_of}
use Rattle.prl_edf.specs.Vocabulary.{units_of, IsMaking}
use Rattle.prl_edf.proofs.runs.run_units.Given as goal

-- the pieces so far are those of the plain run up to now
abbrev pub invariant-loop-pieces : goal.invariant-loop-pieces
invariant-loop-pieces l = IsMaking (constants_of l.plan l.horizon) (units_of (map vec_items l.units)) l.pieces.items l.now l.rests.items

abbrev pub decreases-loop-pieces : goal.decreases-loop-pieces
decreases-loop-pieces l = l.horizon.end - l.now

use Rattle.std.proofs.Common.{drop}
use Rattle.prl_plan.specs.Horizons.{constants_of}
use Rattle.prl_edf.specs.Vocabulary.{run_of, IsUnrolling}
use Rattle.prl_edf.proofs.unrolling.unroll.Given as goal

-- the events of the pieces so far
abbrev pub invariant-loop-k : goal.invariant-loop-k
invariant-loop-k l = IsUnrolling (constants_of l.plan l.horizon) (run_of l.pieces) (drop l.k l.pieces) l.now l.list.items

use Rattle.prl_edf.specs.code.Going.{IsChoice}
use Rattle.prl_edf.proofs.rests.choose.Given as goal

-- the choice among the tasks so far
abbrev pub invariant-loop-i : goal.invariant-loop-i
invariant-loop-i l = IsChoice l.rests l.now l.end l.i l.best

use Rattle.prl_buffers.specs.code.Turns.{IsTurn}
use Rattle.prl_buffers.proofs.turns.turn_of.Given as goal

abbrev pub invariant-loop-i : goal.invariant-loop-i
invariant-loop-i l = IsTurn l.word l.i l.gaps.items l.last.items

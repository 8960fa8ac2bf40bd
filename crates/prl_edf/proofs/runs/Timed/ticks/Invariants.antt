use Rattle.prl_edf.proofs.TickSums.{IsSumOf}
use Rattle.prl_edf.proofs.runs.Timed.ticks.Given as goal

abbrev pub invariant-loop-piece : goal.invariant-loop-piece
invariant-loop-piece l = IsSumOf l.piece-items l.piece-index l.ticks

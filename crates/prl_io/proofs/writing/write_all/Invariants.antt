use Rattle.std.proofs.Common.{length, ◌≤◌}
use Rattle.prl_io.proofs.WriteLemmas.{SoFar}
use Rattle.prl_io.proofs.writing.write_all.Given as goal

abbrev pub invariant-loop-rest : goal.invariant-loop-rest
invariant-loop-rest g l =
    SoFar (g.S.Sink.seen l.initial.sink).written (g.S.Sink.seen l.sink).written l.text l.rest
    × ((g.S.Sink.seen l.initial.sink).faults ≤ (g.S.Sink.seen l.sink).faults)

abbrev pub decreases-loop-rest : goal.decreases-loop-rest
decreases-loop-rest g l = length l.rest

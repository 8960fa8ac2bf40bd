use Rattle.std.specs.Prelude.{◌<◌, ℕ}
use Rattle.prl_overlaps.specs.code.Spots.{Meet}
use Rattle.prl_overlaps.proofs.clashes.second_meeting.Given as goal

-- none of the entries so far is met
abbrev pub invariant-loop-k : goal.invariant-loop-k
invariant-loop-k l = (m : ℕ) → m < l.k → Meet l.hyper l.entries l.first m → ⊥

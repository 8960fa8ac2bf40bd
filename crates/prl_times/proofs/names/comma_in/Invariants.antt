use Rattle.prl_base.proofs.Standard.{◌≢◌, All, take}
use Rattle.prl_times.proofs.names.comma_in.Given as goal

-- no byte that was passed is a comma
abbrev pub invariant-loop-k : goal.invariant-loop-k
invariant-loop-k l = All (λ b. b ≢ 44) (take l.k l.word)

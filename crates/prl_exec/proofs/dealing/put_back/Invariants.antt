use Rattle.std.specs.Vec.{vec_items}
use Rattle.prl_exec.proofs.Dealt.{ArePut}
use Rattle.prl_exec.proofs.dealing.put_back.Given as goal

-- the slots so far have been put back
abbrev pub invariant-loop-i : goal.invariant-loop-i
invariant-loop-i l = ArePut l.i (vec_items l.fn.all) (vec_items l.fn.seats) (vec_items l.all) (vec_items l.seats)

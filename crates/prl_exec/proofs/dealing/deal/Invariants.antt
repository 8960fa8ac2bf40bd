use Rattle.std.specs.Prelude.{◌≡◌, ◌%◌}
use Rattle.std.specs.Vec.{vec_items}
use Rattle.prl_exec.proofs.Dealt.{IsDealt}
use Rattle.prl_exec.proofs.dealing.deal.Given as goal

-- the slots so far have been dealt
abbrev pub invariant-loop-i : goal.invariant-loop-i
invariant-loop-i l = IsDealt (λ j. j % l.workers ≡ l.worker) l.i (vec_items l.fn.all) (vec_items l.all) (vec_items l.own)

use Rattle.std.proofs.Common.{arith, length, ◌≡◌, ap}
use Rattle.prl_terms.proofs.Ending.{types_are, free_is, all_known, mark_read}
use Rattle.prl_terms.proofs.solving.Marks.types.Goals as goal

pub returns-in-Parameter : goal.returns-in-Parameter
returns-in-Parameter c = λ rules solves.
    let read = mark_read c.args.self.now.marks.items c.deref-mark-items.result.now c.loop-k.k _ _ c.deref-mark-items.ensures.value c.loop-k-test.true c.in-Parameter.is in
    (read.0, free_is c.args.self.now.marks.items c.loop-k.types.items c.loop-k.k c.in-Parameter.field-0 c.requires.settled c.loop-k.invariant read.1 rules solves)

pub returns : goal.returns
returns c = let ends : c.loop-k.k ≡ length c.args.self.now.marks.items = omega (arith, ap length c.deref-mark-items.ensures.value) in
    types_are c.args.self.now.marks.items c.loop-k.types.items c.requires.settled (all_known _ _ _ c.loop-k.invariant ends)

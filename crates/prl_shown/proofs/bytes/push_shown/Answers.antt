use Rattle.std.proofs.Common.{arith}
use Rattle.std.proofs.lemmas.List.{take_rest}
use Rattle.prl_shown.proofs.Showing.{end_is, next_is}
use Rattle.prl_shown.proofs.bytes.push_shown.Goals as goal

pub loop-i-preserved : goal.loop-i-preserved
loop-i-preserved c =
    next_is c.args.lines c.args.text.now.items c.loop-i.text.items c.push_byte.new.text.items c.args.bytes.now _ c.loop-i.i c.loop-i.left c.in_ok-left.left (take_rest c.args.bytes.now c.loop-i.i)
    c.in_ok-left.ensures c.loop-i.invariant

pub returns : goal.returns
returns c = end_is c.args.lines c.args.text.now.items c.loop-i.text.items c.args.bytes.now c.loop-i.i c.loop-i.left (omega (arith, c.loop-i-test.false)) c.loop-i.invariant

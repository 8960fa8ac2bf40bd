use Rattle.prl_nearest.proofs.Within.{two_less, two_more, two_other}
use Rattle.prl_nearest.proofs.edits.two_here.Goals as goal

pub returns-then-within_one : goal.returns-then-within_one
returns-then-within_one c =
    two_other c.args.a.now c.args.b.now c.behind.result.now c.behind-2.result.now c.behind.ensures c.behind-2.ensures c.if-within_one.ensures

pub returns-then-within_one-2 : goal.returns-then-within_one-2
returns-then-within_one-2 c = two_less c.args.a.now c.args.b.now c.behind-3.result.now c.behind-3.ensures c.if-within_one-2.ensures

pub returns-then-within_one-3 : goal.returns-then-within_one-3
returns-then-within_one-3 c = two_more c.args.a.now c.args.b.now c.behind-4.result.now c.behind-4.ensures c.if-within_one-3.ensures

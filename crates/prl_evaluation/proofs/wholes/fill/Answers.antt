use Rattle.std.proofs.Common.{◌≡◌, subst, arith}
use Rattle.prl_evaluation.specs.code.Wholes.{IsFilling}
use Rattle.prl_evaluation.proofs.Groups.{filling_begins, filling_ends}
use Rattle.prl_evaluation.proofs.wholes.fill.Goals as goal

pub loop-n-init : goal.loop-n-init
loop-n-init c = (c.requires.under_way, filling_begins c.args.setting.now c.requires.set c.args.group.now c.args.number c.args.flows.now c.requires.group c.requires.whole)

pub returns-clause-whole : goal.returns-clause-whole
returns-clause-whole c =
    let end : c.loop-n.n ≡ c.args.number = omega arith in
    filling_ends c.args.setting.now c.requires.set c.args.group.now c.args.number c.loop-n.flows c.loop-n.runs c.loop-n.invariant.0
    (subst (λ m. IsFilling c.args.setting.now c.args.group.now c.args.number c.loop-n.flows m 0) end c.loop-n.invariant.1)

use Rattle.std.proofs.Common.{◌<◌, ◌-◌, ◌∙◌, Some, ap, arith, sym}
use Rattle.prl_expand.specs.code.Made.{head_of}
use Rattle.prl_expand.proofs.Adding.{middle_is}
use Rattle.prl_expand.proofs.nodes.inner_operand.Goals as goal

pub returns-else-count-eq0 : goal.returns-else-count-eq0
returns-else-count-eq0 c = λ of f first before.
    (let some : 0 < c.args.count = omega (arith, c.if-count-eq0.false) in
    ap (λ n. Some (n - 1)) before ∙ ap head_of (sym (middle_is of f c.args.count some)))

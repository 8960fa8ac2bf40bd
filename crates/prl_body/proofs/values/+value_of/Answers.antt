use Rattle.std.proofs.Common.{sym}
use Rattle.prl_body.proofs.Series.{value_Series}
use Rattle.prl_body.proofs.values.+value_of.Goals as goal

pub loop-pair-init : goal.loop-pair-init
loop-pair-init t c =
    let whole = value_Series c.args.inputs.now c.args.registers.now c.in-Series.first c.in-Series.rights in
    rw (c.in-Series.is, c.value_of-value.ensures, c.deref-in-Series.ensures, c.deref-pair-items.ensures.value) (sym whole)

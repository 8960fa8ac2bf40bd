use Rattle.std.proofs.Common.{add-one, ap, length, sym, ◌∙◌}
use Rattle.prl_body.specs.Vocabulary.{expression_of, value}
use Rattle.prl_body.proofs.Steps.{take_set_map}
use Rattle.prl_body.proofs.machines.write_outputs.Goals as goal

pub loop-k-preserved : goal.loop-k-preserved
loop-k-preserved c =
    let list = c.as_slice-code-items.ensures in
    rw (add-one, c.value_of.ensures, ← list)
    (take_set_map (value c.args.inputs.now c.args.registers.now) expression_of c.as_slice-code-items.result.now c.loop-k.k c.code-item.result c.loop-k.outputs
    c.loop-k-test.true (c.loop-k.auto.outputs ∙ c.requires ∙ ap length (sym list)) c.code-item.is (rw (← list) at c.loop-k.invariant))

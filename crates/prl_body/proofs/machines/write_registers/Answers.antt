use Rattle.std.proofs.Common.{add-one, ap, length, sym, ◌∙◌}
use Rattle.prl_body.specs.Vocabulary.{Register, expression_of, value}
use Rattle.prl_body.proofs.Steps.{take_set_map}
use Rattle.prl_body.proofs.machines.write_registers.Goals as goal

pub loop-k-preserved : goal.loop-k-preserved
loop-k-preserved c =
    let list = c.as_slice-register-items.ensures in
    rw (add-one, c.value_of.ensures, ← list)
    (take_set_map (value c.args.inputs.now c.args.registers.now) (λ (r : Register). expression_of r.next) c.as_slice-register-items.result.now c.loop-k.k c.register-item.result c.loop-k.next
    c.loop-k-test.true (c.loop-k.auto.next ∙ c.requires ∙ ap length (sym list)) c.register-item.is (rw (← list) at c.loop-k.invariant))

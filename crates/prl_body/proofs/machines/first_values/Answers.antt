use Rattle.std.proofs.Common.{add-one, sym}
use Rattle.prl_body.specs.declared.bodies.Register.{Register}
use Rattle.prl_body.proofs.Steps.{take_map_next}
use Rattle.prl_body.proofs.machines.first_values.Goals as goal

pub loop-register-preserved : goal.loop-register-preserved
loop-register-preserved c =
    let next = take_map_next (λ (r : Register). r.first) c.as_slice-registers.result.now c.loop-register.register-index c.register-item.result c.loop-register-test.true c.register-item.is in
    rw (add-one, c.in_ok-push.ensures.items, c.loop-register.invariant, ← c.as_slice-registers.ensures) (sym next)

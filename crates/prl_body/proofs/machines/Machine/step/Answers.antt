use Rattle.prl_base.proofs.Standard.{◌≡◌, length, ap, sym, ◌∙◌, arith, with_items_is}
use Rattle.std.proofs.Math.ListN.{length-map}
use Rattle.prl_body.specs.Vocabulary.{input_types, output_types, register_types, value_expressions, expression_of, MachineState}
use Rattle.prl_body.proofs.Sound.{types_step, length_HaveTypes}
use Rattle.prl_body.proofs.machines.Machine.step.Goals as goal

pub write_outputs-requires : goal.write_outputs-requires
write_outputs-requires c =
    let body = c.args.body.now in
    let long = length_HaveTypes (input_types body) (register_types body) (value_expressions body) (output_types body) c.parts-parts.ensures.well_typed.outputs in
    rw c.parts-parts.ensures.parts (c.requires.outputs ∙ sym long ∙ length-map body.values expression_of)

pub returns-clause-output_types : goal.returns-clause-output_types
returns-clause-output_types c =
    let types = types_step c.args.body.now c.args.inputs.now c.args.self.now.registers c.parts-parts.ensures.well_typed c.requires.inputs c.requires.registers in
    let registers : c.as_slice.result.now ≡ c.args.self.now.registers = c.as_slice.ensures.value ∙ ap (λ (m : MachineState). m.registers) c.self.view_is in
    rw (c.write_outputs.ensures, registers, c.parts-parts.ensures.parts) types.0

pub returns-clause-register_types : goal.returns-clause-register_types
returns-clause-register_types c =
    let types = types_step c.args.body.now c.args.inputs.now c.args.self.now.registers c.parts-parts.ensures.well_typed c.requires.inputs c.requires.registers in
    let registers : c.as_slice-2.result.now ≡ c.args.self.now.registers = c.as_slice-2.ensures.value ∙ ap (λ (m : MachineState). m.registers) c.self.view_is in
    let long : length c.write_registers.new.next ≡ c.self.inside.next.len = omega (arith, c.write_registers.auto.next, ap length c.deref_mut.ensures.value, c.self.inside.next.ok.0) in
    let kept = with_items_is c.self.inside.next c.write_registers.new.next long in
    let next : c.swap.new.x.items ≡ c.write_registers.new.next = rw c.swap.ensures.x_after kept in
    rw (next, c.write_registers.ensures, registers, c.parts-parts.ensures.parts) types.1

-- Checked bodies, and one step of a body.
use Rattle.std.specs.Prelude.{ℕ, List, [], ◌∷◌, map, Option, Some, None, if◌then◌else◌}
use Rattle.std.specs.Str.{bytes_eq}
use Rattle.prl_base.specs.declared.values.Ty.{Ty}
use Rattle.prl_base.specs.declared.values.Value.{Value}
use Rattle.prl_base.specs.Values.{type_of}
use Rattle.prl_ast.specs.declared.declarations.Port.{Port}
use Rattle.prl_body.specs.declared.bodies.Register.{Register}
use Rattle.prl_body.specs.declared.bodies.CheckedBody.{CheckedBody}
use Rattle.prl_body.specs.Expressions.{Expression}
use Rattle.prl_body.specs.Codes.{expression_of}
use Rattle.prl_body.specs.Types.{HasType}
use Rattle.prl_body.specs.Values.{value}

-- the registers before the first step
abbrev pub first_values : CheckedBody → List Value
first_values body = map (λ (r : Register). r.first) body.registers

abbrev pub input_types : CheckedBody → List Ty
input_types body = map (λ (p : Port). p.ty) body.ins

abbrev pub output_types : CheckedBody → List Ty
output_types body = map (λ (p : Port). p.ty) body.outs

abbrev pub register_types : CheckedBody → List Ty
register_types body = map type_of (first_values body)

-- of the outputs, in the order of the import
abbrev pub value_expressions : CheckedBody → List Expression
value_expressions body = map expression_of body.values

-- of the registers; the register itself where the body has no statement for it
abbrev pub next_expressions : CheckedBody → List Expression
next_expressions body = map (λ (r : Register). expression_of r.next) body.registers

-- each expression of a list has the type of the same number
abbrev pub HaveTypes : List Ty → List Ty → List Expression → List Ty → Type 0
HaveTypes ins regs [] [] = Unit {0}
HaveTypes ins regs [] (t ∷ ts) = ⊥
HaveTypes ins regs (e ∷ es) [] = ⊥
HaveTypes ins regs (e ∷ es) (t ∷ ts) = HasType ins regs e t × HaveTypes ins regs es ts

-- each output has a value of its type, and each register the next value of its type
pub record IsWellTyped (body : CheckedBody) : Type 0 where
  pub outputs : HaveTypes (input_types body) (register_types body) (value_expressions body) (output_types body)
  pub registers : HaveTypes (input_types body) (register_types body) (next_expressions body) (register_types body)

-- One step of a body, for these inputs: its outputs, in the order of the import, and its next registers. No
-- expression sees a register that this step has changed.
pub record Stepped : Type 0 where
  pub outputs : List Value
  pub registers : List Value

abbrev pub body_step : CheckedBody → List Value → List Value → Stepped
body_step body inputs registers = record {
  outputs = map (value inputs registers) (value_expressions body);
  registers = map (value inputs registers) (next_expressions body);
}

-- the first body of this name
abbrev pub body_named : List CheckedBody → List ℕ → Option CheckedBody
body_named [] n = None
body_named (b ∷ bs) n = if bytes_eq b.name n then Some b else body_named bs n

-- Flows that expressions give, as parts of the flat program.
use Rattle.std.specs.Prelude.{ℕ, ◌+◌, List, [], ◌∷◌, map, Option, Some, None}
use Rattle.prl_base.specs.declared.places.Span.{Span}
use Rattle.prl_base.specs.declared.numbers.FlowNo.{FlowNo}
use Rattle.prl_base.specs.declared.values.Ty.{Ty}
use Rattle.prl_ast.specs.declared.declarations.Port.{Port}
use Rattle.prl_ast.specs.declared.expressions.PlacedOp.{PlacedOp}
use Rattle.prl_flow.specs.declared.programs.Def.TheVariants as definitions
use Rattle.prl_flow.specs.declared.programs.Arg.{Arg}
use Rattle.prl_flow.specs.declared.programs.Flow.{Flow}
use Rattle.prl_expand.specs.Flats.{Numbered, flow_no, made_flow}
use Rattle.prl_expand.specs.declared.terms.Term.{Term}

abbrev pub flow_of : Term → ℕ
flow_of t = t.flow

abbrev pub arg_of : Term → Arg
arg_of t = record { flow = flow_no t.flow; at = t.at }

abbrev pub placed_at : Span → Term → Term
placed_at at t = record { flow = t.flow; ty = t.ty; at = at }

-- flows without their numbers
abbrev pub flows_of : List Numbered → List Flow
flows_of fs = map (λ (f : Numbered). f.1) fs

abbrev pub number_of : Term → FlowNo
number_of t = flow_no t.flow

-- outputs of an import, numbered from the first
abbrev pub output_terms : List Port → ℕ → Span → List Term
output_terms [] first at = []
output_terms (q ∷ qs) first at = record { flow = first; ty = q.ty; at = at } ∷ output_terms qs (first + 1) at

-- and their flows, of the outputs from `out` on
abbrev pub outputs_made : ℕ → ℕ → Span → List Port → ℕ → List Numbered
outputs_made app out at [] first = []
outputs_made app out at (q ∷ qs) first = made_flow first q.ty (definitions.Apply app out) at ∷ outputs_made app (out + 1) at qs (first + 1)

-- operators, numbered from the first, over a flow
abbrev pub operators_made : Ty → List PlacedOp → ℕ → ℕ → List Numbered
operators_made ty [] first of = []
operators_made ty (o ∷ os) first of = made_flow first ty (definitions.Op o.op (flow_no of)) o.at ∷ operators_made ty os (first + 1) first

abbrev pub operators_over : Ty → List PlacedOp → ℕ → Option ℕ → List Numbered
operators_over ty os first None = []
operators_over ty os first (Some of) = operators_made ty os first of

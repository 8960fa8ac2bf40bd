-- The flows of expressions, by their types.
use Rattle.std.specs.Prelude.{ℕ, ◌+◌, List, [], ◌∷◌, ◌++◌, map, length, slice_get, Option, Some, None}
use Rattle.std.specs.List.{range_with_len}
use Rattle.prl_base.specs.declared.values.Ty.TheVariants as types
use Rattle.prl_base.specs.Values.{type_of}
use Rattle.prl_ast.specs.declared.declarations.Import.{Import}
use Rattle.prl_ast.specs.declared.declarations.Port.{Port}
use Rattle.prl_ast.specs.declared.expressions.PlacedOp.{PlacedOp}
use Rattle.prl_ast.specs.Trees.{Tree, tree, Root, const, var, apply, group, Trees, none, more, NodeTree, ProgramTree}
use Rattle.prl_names.specs.declared.lookups.Callee.{Callee}
use Rattle.prl_names.specs.declared.lookups.Callee.TheVariants as callees
use Rattle.prl_names.specs.Lookups.{callee_of}
use Rattle.prl_terms.specs.declared.terms.Term.{Term}
use Rattle.prl_terms.specs.declared.terms.Term.TheVariants as terms
use Rattle.prl_types.specs.Parameters.{first_of, named}

abbrev pub port_types : List Port → List Term
port_types ports = map (λ (q : Port). terms.Known q.ty) ports

-- so many parameters, from one on
abbrev pub parameters_from : ℕ → ℕ → List Term
parameters_from first count = map terms.Parameter (range_with_len first count)

abbrev pub import_inputs : Option Import → List Term
import_inputs None = []
import_inputs (Some i) = port_types i.ins

abbrev pub import_outputs : Option Import → List Term
import_outputs None = []
import_outputs (Some i) = port_types i.outs

abbrev pub node_inputs : ℕ → Option NodeTree → List Term
node_inputs first None = []
node_inputs first (Some n) = parameters_from first (length n.ins)

abbrev pub node_outputs : ℕ → Option NodeTree → List Term
node_outputs first None = []
node_outputs first (Some n) = parameters_from (first + length n.ins) (length n.outs)

-- what is applied takes flows of these types
abbrev pub inputs_of : ProgramTree → Option Callee → List Term
inputs_of p None = []
inputs_of p (Some (callees.Import k)) = import_inputs (slice_get p.imports k)
inputs_of p (Some (callees.Node k)) = node_inputs (first_of p k) (slice_get p.nodes k)

-- and gives flows of these types
abbrev pub outputs_of : ProgramTree → Option Callee → List Term
outputs_of p None = []
outputs_of p (Some (callees.Import k)) = import_outputs (slice_get p.imports k)
outputs_of p (Some (callees.Node k)) = node_outputs (first_of p k) (slice_get p.nodes k)

-- the one flow that an operator is of; without one, which the check of arity excludes, some flow
abbrev pub operand : List Term → Term
operand [] = terms.Known types.Int
operand (f ∷ fs) = f

-- after operators there is one flow, and without an operator the flows are those of what stands there
abbrev pub operated : List PlacedOp → List PlacedOp → List Term → List Term
operated [] [] flows = flows
operated [] (o ∷ post) flows = operand flows ∷ []
operated (o ∷ pre) post flows = operand flows ∷ []

abbrev mutual
  -- the flows of an expression of the node at an index
  pub flows_of : ProgramTree → ℕ → Tree → List Term
  flows_of p node (tree pre root post at) = operated pre post (root_flows p node root)

  pub root_flows : ProgramTree → ℕ → Root → List Term
  root_flows p node (const v) = terms.Known (type_of v) ∷ []
  root_flows p node (var name) = named p node name ∷ []
  root_flows p node (apply name at args) = outputs_of p (callee_of p name)
  root_flows p node (group parts) = all_flows p node parts

  pub all_flows : ProgramTree → ℕ → Trees → List Term
  all_flows p node none = []
  all_flows p node (more t ts) = flows_of p node t ++ all_flows p node ts

-- the type of a flow, and the byte of the text at which the expression that gives it stands
pub record Flow : Type 0 where
  pub term : Term
  pub at : ℕ

-- where an expression's first token stands
abbrev pub place_of : Tree → ℕ
place_of (tree pre root post at) = at.at

abbrev pub placed : ℕ → List Term → List Flow
placed at flows = map (λ (f : Term). record { term = f; at = at }) flows

-- the flows of several expressions, each where its expression begins
abbrev pub placed_flows : ProgramTree → ℕ → Trees → List Flow
placed_flows p node none = []
placed_flows p node (more t ts) = placed (place_of t) (flows_of p node t) ++ placed_flows p node ts

abbrev pub terms_of : List Flow → List Term
terms_of flows = map (λ (f : Flow). f.term) flows

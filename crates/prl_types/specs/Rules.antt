-- The rules of a program, in their order.
use Rattle.std.specs.Prelude.{ℕ, ◌+◌, List, [], ◌∷◌, ◌++◌, Option, Some, None}
use Rattle.prl_base.specs.declared.operators.Op.{Op}
use Rattle.prl_base.specs.declared.operators.Op.TheVariants as ops
use Rattle.prl_base.specs.declared.values.Ty.{Ty}
use Rattle.prl_base.specs.Values.{type_of}
use Rattle.prl_ast.specs.declared.declarations.Placed.{Placed}
use Rattle.prl_ast.specs.declared.expressions.PlacedOp.{PlacedOp}
use Rattle.prl_ast.specs.Trees.{Tree, tree, Root, const, var, apply, group, Trees, none, more, EquationTree, NodeTree, ProgramTree}
use Rattle.prl_names.specs.Lookups.{callee_of}
use Rattle.prl_terms.specs.declared.terms.Rule.{Rule}
use Rattle.prl_terms.specs.declared.terms.Term.{Term}
use Rattle.prl_terms.specs.declared.terms.Term.TheVariants as terms
use Rattle.prl_types.specs.Flows.{Flow, inputs_of, operand, flows_of, root_flows, placed_flows}
use Rattle.prl_types.specs.Parameters.{Owned, parameters_of, named}

-- the type that a parameter is declared with
abbrev pub declared_rule : ℕ → ℕ → Option Ty → List Rule
declared_rule k at None = []
declared_rule k at (Some ty) = record { at = at; wanted = terms.Known ty; found = terms.Parameter k } ∷ []

-- of these parameters, the first of which has this number
abbrev pub declared_rules : ℕ → List Owned → List Rule
declared_rules k [] = []
declared_rules k (o ∷ os) = declared_rule k o.param.at.at o.param.ty ++ declared_rules (k + 1) os

-- the constant of an operator has the type of what the operator is of
abbrev pub constant_rule : Term → ℕ → Op → List Rule
constant_rule of at (ops.Fby v) = record { at = at; wanted = of; found = terms.Known (type_of v) } ∷ []
constant_rule of at (ops.Cons v) = record { at = at; wanted = of; found = terms.Known (type_of v) } ∷ []
constant_rule of at ops.Tail = []
constant_rule of at (ops.Up k) = []
constant_rule of at (ops.Down k) = []
constant_rule of at (ops.Shift q) = []

-- of prefixes, the outermost first; the innermost comes first in the order of rules
abbrev pub constant_rules : Term → List PlacedOp → List Rule
constant_rules of [] = []
constant_rules of (o ∷ os) = constant_rules of os ++ constant_rule of o.at.at o.op

-- each argument has the type of its parameter
abbrev pub argument_rules : List Term → List Flow → List Rule
argument_rules [] flows = []
argument_rules (t ∷ ts) [] = []
argument_rules (t ∷ ts) (f ∷ fs) = record { at = f.at; wanted = t; found = f.term } ∷ argument_rules ts fs

abbrev mutual
  -- of an expression: the parts before the whole
  pub rules_in : ProgramTree → ℕ → Tree → List Rule
  rules_in p node (tree pre root post at) = root_rules p node root ++ constant_rules (operand (root_flows p node root)) pre

  pub root_rules : ProgramTree → ℕ → Root → List Rule
  root_rules p node (const v) = []
  root_rules p node (var name) = []
  root_rules p node (apply name at args) = all_rules p node args ++ argument_rules (inputs_of p (callee_of p name)) (placed_flows p node args)
  root_rules p node (group parts) = all_rules p node parts

  pub all_rules : ProgramTree → ℕ → Trees → List Rule
  all_rules p node none = []
  all_rules p node (more t ts) = rules_in p node t ++ all_rules p node ts

-- each flow on the right has the type of its left name
abbrev pub left_rules : ProgramTree → ℕ → List Placed → List Term → List Rule
left_rules p node [] flows = []
left_rules p node (l ∷ ls) [] = []
left_rules p node (l ∷ ls) (f ∷ fs) = record { at = l.at.at; wanted = named p node l.name; found = f } ∷ left_rules p node ls fs

abbrev pub equation_rules : ProgramTree → ℕ → EquationTree → List Rule
equation_rules p node e = rules_in p node e.right ++ left_rules p node e.lefts (flows_of p node e.right)

abbrev pub equations_rules : ProgramTree → ℕ → List EquationTree → List Rule
equations_rules p node [] = []
equations_rules p node (e ∷ es) = equation_rules p node e ++ equations_rules p node es

-- of these nodes, the first of which stands at this index of the list of nodes
abbrev pub nodes_rules : ProgramTree → ℕ → List NodeTree → List Rule
nodes_rules p node [] = []
nodes_rules p node (n ∷ ns) = equations_rules p node n.eqs ++ nodes_rules p (node + 1) ns

-- the declared types first
unfoldable pub rules_of : ProgramTree → List Rule
rules_of p = declared_rules 0 (parameters_of p) ++ nodes_rules p 0 p.nodes

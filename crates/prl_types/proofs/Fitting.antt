-- The rules of a program speak of its parameters alone.
use Rattle.prl_base.proofs.Standard.{◌≡◌, ◌<◌, ◌≤◌, ◌+◌, ◌++◌, ◌∙◌, ℕ, zero, suc, List, [], ◌∷◌, length, refl, sym, subst, Option, Some, None, inl, inr, arith, slice_get_cases}
use Rattle.std.specs.List.{slice_get}
use Rattle.prl_base.specs.declared.operators.Op.{Op}
use Rattle.prl_base.specs.declared.values.Ty.{Ty}
use Rattle.prl_base.specs.declared.operators.Op.TheVariants as ops
use Rattle.prl_ast.specs.Trees.{Tree, Root, const, var, apply, group, Trees, none, more, EquationTree, NodeTree, ProgramTree}
use Rattle.prl_ast.specs.declared.declarations.Import.{Import}
use Rattle.prl_ast.specs.declared.declarations.Placed.{Placed}
use Rattle.prl_ast.specs.declared.declarations.Port.{Port}
use Rattle.prl_ast.specs.declared.expressions.PlacedOp.{PlacedOp}
use Rattle.prl_ast.specs.Trees.{tree}
use Rattle.prl_names.specs.Lookups.{callee_of, param_at}
use Rattle.prl_names.specs.declared.lookups.Callee.{Callee}
use Rattle.prl_names.specs.declared.lookups.Callee.TheVariants as callees
use Rattle.prl_terms.specs.Choices.{FitsTerm, FitRules}
use Rattle.prl_terms.specs.declared.terms.Rule.{Rule}
use Rattle.prl_terms.specs.declared.terms.Term.{Term}
use Rattle.prl_types.specs.Flows.{Flow, port_types, parameters_from, import_inputs, import_outputs, node_inputs, node_outputs, inputs_of, outputs_of, operand, operated, flows_of, root_flows, all_flows, placed_flows, terms_of}
use Rattle.prl_types.specs.Parameters.{Owned, parameters_of, count_of, first_of, parameter_or, named}
use Rattle.prl_types.specs.Rules.{declared_rule, declared_rules, constant_rule, constant_rules, argument_rules, rules_in, root_rules, all_rules, left_rules, equation_rules, equations_rules, nodes_rules, rules_of}
use Rattle.prl_types.proofs.Declared.{param_inside, number_fits, node_room}
use Rattle.prl_types.proofs.Walking.{terms_placed_flows}

abbrev FitTerms : ℕ → List Term → Type 0
FitTerms n [] = Unit {0}
FitTerms n (t ∷ ts) = FitsTerm n t × FitTerms n ts

fit_append : (n : ℕ) (xs ys : List Term) → FitTerms n xs → FitTerms n ys → FitTerms n (xs ++ ys)
fit_append n [] ys f g = g
fit_append n (x ∷ xs) ys f g = (f.0, fit_append n xs ys f.1 g)

fits_or : (p : ProgramTree) (node : ℕ) (name : List ℕ) (o : Option ℕ) → param_at p node name ≡ o → FitsTerm (count_of p) (parameter_or p node o)
fits_or p node name None e = tt
fits_or p node name (Some k) e = number_fits p node k (param_inside p node name k e)

fits_named : (p : ProgramTree) (node : ℕ) (name : List ℕ) → FitsTerm (count_of p) (named p node name)
fits_named p node name = fits_or p node name (param_at p node name) refl

ports_fit : (n : ℕ) (ports : List Port) → FitTerms n (port_types ports)
ports_fit n [] = tt
ports_fit n (q ∷ qs) = (tt, ports_fit n qs)

parameters_fit : (n first count : ℕ) → first + count ≤ n → FitTerms n (parameters_from first count)
parameters_fit n first zero h = tt
parameters_fit n first (suc count) h = (omega arith, parameters_fit n (first + 1) count (omega arith))

inputs_of_import : (n : ℕ) (i : Option Import) → FitTerms n (import_inputs i)
inputs_of_import n None = tt
inputs_of_import n (Some i) = ports_fit n i.ins

outputs_of_import : (n : ℕ) (i : Option Import) → FitTerms n (import_outputs i)
outputs_of_import n None = tt
outputs_of_import n (Some i) = ports_fit n i.outs

room_of : (p : ProgramTree) (k : ℕ) (n : NodeTree) → slice_get p.nodes k ≡ Some n → first_of p k + (length n.ins + length n.outs + length n.locals) ≤ count_of p
room_of p k n e = let cases = (slice_get_cases p.nodes k).1 in elim cases [
  | inl here ↦ (let f : Some here.0 ≡ Some n = sym here.2 ∙ e in let same : here.0 ≡ n = cc in
      subst (λ (m : NodeTree). first_of p k + (length m.ins + length m.outs + length m.locals) ≤ count_of p) same (node_room p k here.0 here.1 here.3))
  | inr past ↦ absurd (let f = sym past.1 ∙ e in cc)
]

inputs_of_node : (p : ProgramTree) (k : ℕ) (o : Option NodeTree) → slice_get p.nodes k ≡ o → FitTerms (count_of p) (node_inputs (first_of p k) o)
inputs_of_node p k None e = tt
inputs_of_node p k (Some n) e = let room = room_of p k n e in parameters_fit (count_of p) (first_of p k) (length n.ins) (omega (arith, room))

outputs_of_node : (p : ProgramTree) (k : ℕ) (o : Option NodeTree) → slice_get p.nodes k ≡ o → FitTerms (count_of p) (node_outputs (first_of p k) o)
outputs_of_node p k None e = tt
outputs_of_node p k (Some n) e = let room = room_of p k n e in parameters_fit (count_of p) (first_of p k + length n.ins) (length n.outs) (omega (arith, room))

inputs_fit : (p : ProgramTree) (callee : Option Callee) → FitTerms (count_of p) (inputs_of p callee)
inputs_fit p None = tt
inputs_fit p (Some (callees.Import k)) = inputs_of_import (count_of p) (slice_get p.imports k)
inputs_fit p (Some (callees.Node k)) = inputs_of_node p k (slice_get p.nodes k) refl

outputs_fit : (p : ProgramTree) (callee : Option Callee) → FitTerms (count_of p) (outputs_of p callee)
outputs_fit p None = tt
outputs_fit p (Some (callees.Import k)) = outputs_of_import (count_of p) (slice_get p.imports k)
outputs_fit p (Some (callees.Node k)) = outputs_of_node p k (slice_get p.nodes k) refl

operand_fits : (n : ℕ) (ts : List Term) → FitTerms n ts → FitsTerm n (operand ts)
operand_fits n [] h = tt
operand_fits n (t ∷ ts) h = h.0

operated_fit : (n : ℕ) (pre post : List PlacedOp) (ts : List Term) → FitTerms n ts → FitTerms n (operated pre post ts)
operated_fit n [] [] ts h = h
operated_fit n [] (o ∷ post) ts h = (operand_fits n ts h, tt)
operated_fit n (o ∷ pre) post ts h = (operand_fits n ts h, tt)

mutual
  flows_fit : (p : ProgramTree) (node : ℕ) (t : Tree) → FitTerms (count_of p) (flows_of p node t)
  flows_fit p node (tree pre root post at) = operated_fit (count_of p) pre post (root_flows p node root) (root_flows_fit p node root)

  root_flows_fit : (p : ProgramTree) (node : ℕ) (r : Root) → FitTerms (count_of p) (root_flows p node r)
  root_flows_fit p node (const v) = (tt, tt)
  root_flows_fit p node (var name) = (fits_named p node name, tt)
  root_flows_fit p node (apply name at args) = outputs_fit p (callee_of p name)
  root_flows_fit p node (group parts) = all_flows_fit p node parts

  all_flows_fit : (p : ProgramTree) (node : ℕ) (ts : Trees) → FitTerms (count_of p) (all_flows p node ts)
  all_flows_fit p node none = tt
  all_flows_fit p node (more t ts) = fit_append (count_of p) (flows_of p node t) (all_flows p node ts) (flows_fit p node t) (all_flows_fit p node ts)

rules_append : (n : ℕ) (xs ys : List Rule) → FitRules n xs → FitRules n ys → FitRules n (xs ++ ys)
rules_append n [] ys f g = g
rules_append n (x ∷ xs) ys f g = (f.0, rules_append n xs ys f.1 g)

constant_fits : (n : ℕ) (of : Term) (at : ℕ) (op : Op) → FitsTerm n of → FitRules n (constant_rule of at op)
constant_fits n of at (ops.Fby v) h = ((h, tt), tt)
constant_fits n of at (ops.Cons v) h = ((h, tt), tt)
constant_fits n of at ops.Tail h = tt
constant_fits n of at (ops.Up k) h = tt
constant_fits n of at (ops.Down k) h = tt
constant_fits n of at (ops.Shift q) h = tt

constants_fit : (n : ℕ) (of : Term) (os : List PlacedOp) → FitsTerm n of → FitRules n (constant_rules of os)
constants_fit n of [] h = tt
constants_fit n of (o ∷ os) h = rules_append n (constant_rules of os) (constant_rule of o.at.at o.op) (constants_fit n of os h) (constant_fits n of o.at.at o.op h)

arguments_fit : (n : ℕ) (ts : List Term) (fs : List Flow) → FitTerms n ts → FitTerms n (terms_of fs) → FitRules n (argument_rules ts fs)
arguments_fit n [] fs f g = tt
arguments_fit n (t ∷ ts) [] f g = tt
arguments_fit n (t ∷ ts) (x ∷ fs) f g = ((f.0, g.0), arguments_fit n ts fs f.1 g.1)

mutual
  rules_in_fit : (p : ProgramTree) (node : ℕ) (t : Tree) → FitRules (count_of p) (rules_in p node t)
  rules_in_fit p node (tree pre root post at) = rules_append (count_of p) (root_rules p node root) (constant_rules (operand (root_flows p node root)) pre)
      (root_rules_fit p node root) (constants_fit (count_of p) (operand (root_flows p node root)) pre (operand_fits (count_of p) (root_flows p node root) (root_flows_fit p node root)))

  root_rules_fit : (p : ProgramTree) (node : ℕ) (r : Root) → FitRules (count_of p) (root_rules p node r)
  root_rules_fit p node (const v) = tt
  root_rules_fit p node (var name) = tt
  root_rules_fit p node (apply name at args) = rules_append (count_of p) (all_rules p node args) (argument_rules (inputs_of p (callee_of p name)) (placed_flows p node args)) (all_rules_fit p node args)
      (arguments_fit (count_of p) (inputs_of p (callee_of p name)) (placed_flows p node args) (inputs_fit p (callee_of p name))
      (subst (λ (ts : List Term). FitTerms (count_of p) ts) (sym (terms_placed_flows p node args)) (all_flows_fit p node args)))
  root_rules_fit p node (group parts) = all_rules_fit p node parts

  all_rules_fit : (p : ProgramTree) (node : ℕ) (ts : Trees) → FitRules (count_of p) (all_rules p node ts)
  all_rules_fit p node none = tt
  all_rules_fit p node (more t ts) = rules_append (count_of p) (rules_in p node t) (all_rules p node ts) (rules_in_fit p node t) (all_rules_fit p node ts)

lefts_fit : (p : ProgramTree) (node : ℕ) (ls : List Placed) (fs : List Term) → FitTerms (count_of p) fs → FitRules (count_of p) (left_rules p node ls fs)
lefts_fit p node [] fs h = tt
lefts_fit p node (l ∷ ls) [] h = tt
lefts_fit p node (l ∷ ls) (f ∷ fs) h = ((fits_named p node l.name, h.0), lefts_fit p node ls fs h.1)

equations_fit : (p : ProgramTree) (node : ℕ) (es : List EquationTree) → FitRules (count_of p) (equations_rules p node es)
equations_fit p node [] = tt
equations_fit p node (e ∷ es) = rules_append (count_of p) (equation_rules p node e) (equations_rules p node es)
    (rules_append (count_of p) (rules_in p node e.right) (left_rules p node e.lefts (flows_of p node e.right)) (rules_in_fit p node e.right) (lefts_fit p node e.lefts (flows_of p node e.right) (flows_fit p node e.right)))
    (equations_fit p node es)

nodes_fit : (p : ProgramTree) (node : ℕ) (ns : List NodeTree) → FitRules (count_of p) (nodes_rules p node ns)
nodes_fit p node [] = tt
nodes_fit p node (n ∷ ns) = rules_append (count_of p) (equations_rules p node n.eqs) (nodes_rules p (node + 1) ns) (equations_fit p node n.eqs) (nodes_fit p (node + 1) ns)

declared_fits : (n k at : ℕ) (o : Option Ty) → k < n → FitRules n (declared_rule k at o)
declared_fits n k at None h = tt
declared_fits n k at (Some ty) h = ((tt, h), tt)

declared_fit : (n k : ℕ) (os : List Owned) → k + length os ≤ n → FitRules n (declared_rules k os)
declared_fit n k [] h = tt
declared_fit n k (o ∷ os) h = rules_append n (declared_rule k o.param.at.at o.param.ty) (declared_rules (k + 1) os)
    (declared_fits n k o.param.at.at o.param.ty (omega arith)) (declared_fit n (k + 1) os (omega arith))

pub rules_fit : (p : ProgramTree) → FitRules (count_of p) (rules_of p)
unfolding rules_of
rules_fit p = rules_append (count_of p) (declared_rules 0 (parameters_of p)) (nodes_rules p 0 p.nodes) (declared_fit (count_of p) 0 (parameters_of p) (omega arith)) (nodes_fit p 0 p.nodes)

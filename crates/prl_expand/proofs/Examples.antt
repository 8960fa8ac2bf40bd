-- Worked rows of expansions, by hand.
use Rattle.prl_base.proofs.Standard.{◌≡◌, ℕ, pos, List, [], ◌∷◌, ◌++◌, map, None, refl, codes, decimal}
use Rattle.prl_base.specs.declared.numbers.FlowNo.{FlowNo}
use Rattle.prl_base.specs.declared.places.Span.{Span}
use Rattle.prl_base.specs.declared.operators.Op.TheVariants as ops
use Rattle.prl_base.specs.declared.values.Ty.TheVariants as kinds
use Rattle.prl_base.specs.declared.values.Value.TheVariants as values
use Rattle.prl_ast.specs.Trees.{Tree, var, apply, group, none, more, EquationTree, NodeTree, ProgramTree}
use Rattle.prl_ast.specs.declared.declarations.Param.{Param}
use Rattle.prl_ast.specs.declared.expressions.PlacedOp.{PlacedOp}
use Rattle.prl_ast.specs.Trees.{tree}
use Rattle.prl_flow.specs.declared.programs.Def.TheVariants as definitions
use Rattle.prl_flow.specs.declared.programs.Flow.{Flow}
use Rattle.prl_causal.specs.Annotations.{entered, done, next, part}
use Rattle.prl_causal.specs.Annotations as notes
use Rattle.prl_expand.specs.Vocabulary.{Expansion, IsExpansion, flat_of}

-- the k-th token
abbrev token : ℕ → Span
token k = record { at = k; len = 1 }

abbrev variable : List ℕ → ℕ → Param
variable name k = record { name = name; ty = None; rate = None; due = None; at = token k }

abbrev fby_zero : ℕ → PlacedOp
fby_zero k = record { op = ops.Fby (values.Int (pos 0)); at = token k }

abbrev use_of : List ℕ → ℕ → Tree
use_of name k = tree [] (var name) [] (token k)

-- a node of an input, an output and an equation
abbrev node_of : List ℕ → Param → Param → EquationTree → ℕ → NodeTree
node_of name input output equation k = record { name = name; ins = input ∷ []; outs = output ∷ []; locals = []; eqs = equation ∷ []; at = token k }

-- node twice (x) returns (y) let y = 0 fby (0 fby x); tel   node main (i) returns (o) let o = twice(i); tel
abbrev twice : NodeTree
twice = node_of (codes "twice") (variable (codes "x") 3) (variable (codes "y") 7) (record {
  lefts = record { name = codes "y"; at = token 10 } ∷ [];
  right = tree (fby_zero 13 ∷ []) (group (more (tree (fby_zero 16 ∷ []) (var (codes "x")) [] (token 15)) none)) [] (token 12);
  at = token 10;
}) 1

abbrev main : NodeTree
main = node_of (codes "main") (variable (codes "i") 24) (variable (codes "o") 28) (record {
  lefts = record { name = codes "o"; at = token 31 } ∷ [];
  right = tree [] (apply (codes "twice") (token 33) (more (use_of (codes "i") 35) none)) [] (token 33);
  at = token 31;
}) 22

abbrev program : ProgramTree
program = record {
  imports = [];
  sensors = record { name = codes "i"; wcet = 1; at = token 40 } ∷ [];
  actuators = record { name = codes "o"; wcet = 2; at = token 41 } ∷ [];
  nodes = twice ∷ main ∷ [];
}

-- i and o are made first, then x and y of the node, then what stands in its equation, the inner operator first
abbrev expansion : Expansion
expansion =
    entered (0 ∷ []) (1 ∷ []) []
    (next (part [] (notes.node (notes.more (part [] notes.name []) notes.none) 0
    (entered (2 ∷ []) (3 ∷ []) [] (next (part (5 ∷ []) (notes.group (notes.more (part (4 ∷ []) notes.name []) notes.none)) []) done))) []) done)

is_one : IsExpansion program 1 expansion
is_one = record { text = ((refl, refl, refl), ((refl, (tt, ((refl, tt, refl), tt), ((refl, refl, refl), ((refl, ((refl, tt, refl), tt), refl), tt))), refl), tt)); flows = refl; imports = refl; nodes = refl }

labels : map (λ (f : Flow). f.label) (flat_of program (kinds.Int ∷ kinds.Int ∷ kinds.Int ∷ kinds.Int ∷ []) 1 expansion).flows
    ≡ codes "i" ∷ codes "o" ∷ ((codes "twice#" ++ (decimal 0 ++ codes ".")) ++ codes "x")
    ∷ ((codes "twice#" ++ (decimal 0 ++ codes ".")) ++ codes "y") ∷ (codes "$" ++ decimal 4) ∷ (codes "$" ++ decimal 5) ∷ []
labels = refl

abbrev flow : ℕ → FlowNo
flow k = record { 0 = k }

definitions_are : map (λ (f : Flow). f.def) (flat_of program (kinds.Int ∷ kinds.Int ∷ kinds.Int ∷ kinds.Int ∷ []) 1 expansion).flows
    ≡ definitions.Sensor 0 ∷ definitions.Copy (flow 3) ∷ definitions.Copy (flow 0) ∷ definitions.Copy (flow 5)
    ∷ definitions.Op (ops.Fby (values.Int (pos 0))) (flow 2) ∷ definitions.Op (ops.Fby (values.Int (pos 0))) (flow 4) ∷ []
definitions_are = refl

places_are : map (λ (f : Flow). f.at) (flat_of program (kinds.Int ∷ kinds.Int ∷ kinds.Int ∷ kinds.Int ∷ []) 1 expansion).flows
    ≡ token 24 ∷ token 28 ∷ token 3 ∷ token 7 ∷ token 16 ∷ token 13 ∷ []
places_are = refl

devices_are : (flat_of program [] 1 expansion).in_devices ≡ (codes "i", 1) ∷ []
devices_are = refl

pub checked : (flat_of program [] 1 expansion).out_devices ≡ (codes "o", 2) ∷ []
checked = refl

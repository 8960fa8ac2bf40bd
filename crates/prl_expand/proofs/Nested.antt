-- A worked expansion, by hand: nodes within nodes and within arguments, a constant argument, two outputs, a group, prefixes
-- and postfixes, a rate and a due.
--   imported node F (a: int) returns (z, w: int) wcet 3;
--   node g (x) returns (y) let y = tail x; tel
--   node h (x, u) returns (y) var v: rate (10, 0) due 5; let v = x *^ 2 /^ 3; y = u; tel
--   node main (i: rate (10, 0)) returns (o, q) var m; let (o, m) = F(h(g(i), 7)); q = 0 fby tail (g(m)); tel
use Rattle.prl_base.proofs.Standard.{◌≡◌, ℕ, pos, List, [], ◌∷◌, ◌++◌, map, Option, Some, None, refl, codes, decimal}
use Rattle.prl_base.specs.declared.numbers.FlowNo.{FlowNo}
use Rattle.prl_base.specs.declared.operators.Op.{Op}
use Rattle.prl_base.specs.declared.places.Span.{Span}
use Rattle.prl_base.specs.declared.values.Ty.{Ty}
use Rattle.prl_base.specs.declared.operators.Op.TheVariants as ops
use Rattle.prl_base.specs.declared.values.Ty.TheVariants as kinds
use Rattle.prl_base.specs.declared.values.Value.TheVariants as values
use Rattle.prl_ast.specs.Trees.{Tree, const, var, apply, group, none, more, NodeTree, ProgramTree}
use Rattle.prl_ast.specs.declared.declarations.Param.{Param}
use Rattle.prl_ast.specs.declared.declarations.Placed.{Placed}
use Rattle.prl_ast.specs.declared.declarations.Port.{Port}
use Rattle.prl_ast.specs.declared.declarations.Rate.{Rate}
use Rattle.prl_ast.specs.declared.expressions.PlacedOp.{PlacedOp}
use Rattle.prl_ast.specs.Trees.{tree}
use Rattle.prl_flow.specs.declared.programs.Def.TheVariants as definitions
use Rattle.prl_flow.specs.declared.programs.Flow.{Flow}
use Rattle.prl_causal.specs.Annotations.{entered, done, next, Part, part}
use Rattle.prl_causal.specs.Annotations as notes
use Rattle.prl_expand.specs.Vocabulary.{Expansion, flat_of}

abbrev token : ℕ → Span
token k = record { at = k; len = 1 }

abbrev every_ten : Option Rate
every_ten = Some (record { period = 10; phase = record { num = pos 0; den = 1 } })

abbrev variable : List ℕ → ℕ → Param
variable name k = record { name = name; ty = None; rate = None; due = None; at = token k }

abbrev at_rate : List ℕ → Option ℕ → ℕ → Param
at_rate name due k = record { name = name; ty = None; rate = every_ten; due = due; at = token k }

abbrev port : List ℕ → Port
port name = record { name = name; ty = kinds.Int; at = token 0 }

abbrev placed : List ℕ → ℕ → Placed
placed name k = record { name = name; at = token k }

abbrev operator : Op → ℕ → PlacedOp
operator op k = record { op = op; at = token k }

abbrev use_of : List ℕ → ℕ → Tree
use_of name k = tree [] (var name) [] (token k)

abbrev g : NodeTree
g = record {
  name = codes "g";
  ins = variable (codes "x") 10 ∷ [];
  outs = variable (codes "y") 11 ∷ [];
  locals = [];
  eqs = record { lefts = placed (codes "y") 12 ∷ []; right = tree (operator ops.Tail 13 ∷ []) (var (codes "x")) [] (token 13); at = token 12 } ∷ [];
  at = token 9;
}

abbrev h : NodeTree
h = record {
  name = codes "h";
  ins = variable (codes "x") 20 ∷ variable (codes "u") 21 ∷ [];
  outs = variable (codes "y") 22 ∷ [];
  locals = at_rate (codes "v") (Some 5) 23 ∷ [];
  eqs =
      record { lefts = placed (codes "v") 24 ∷ []; right = tree [] (var (codes "x")) (operator (ops.Up 2) 26 ∷ operator (ops.Down 3) 27 ∷ []) (token 25); at = token 24 }
      ∷ record { lefts = placed (codes "y") 28 ∷ []; right = use_of (codes "u") 29; at = token 28 } ∷ [];
  at = token 19;
}

abbrev main : NodeTree
main = record {
  name = codes "main";
  ins = at_rate (codes "i") None 40 ∷ [];
  outs = variable (codes "o") 41 ∷ variable (codes "q") 42 ∷ [];
  locals = variable (codes "m") 43 ∷ [];
  eqs =
      record {
        lefts = placed (codes "o") 44 ∷ placed (codes "m") 45 ∷ [];
        right = tree [] (apply (codes "F") (token 46)
            (more (tree [] (apply (codes "h") (token 47)
            (more (tree [] (apply (codes "g") (token 48) (more (use_of (codes "i") 49) none)) [] (token 48))
            (more (tree [] (const (values.Int (pos 7))) [] (token 50)) none))) [] (token 47)) none)) [] (token 46);
        at = token 44;
      }
      ∷ record {
        lefts = placed (codes "q") 51 ∷ [];
        right = tree (operator (ops.Fby (values.Int (pos 0))) 53 ∷ operator ops.Tail 54 ∷ [])
            (group (more (tree [] (apply (codes "g") (token 56) (more (use_of (codes "m") 57) none)) [] (token 56)) none)) [] (token 52);
        at = token 51;
      } ∷ [];
  at = token 39;
}

abbrev program : ProgramTree
program = record {
  imports = record { name = codes "F"; ins = port (codes "a") ∷ []; outs = port (codes "z") ∷ port (codes "w") ∷ []; wcet = 3; at = token 1 } ∷ [];
  sensors = [];
  actuators = [];
  nodes = g ∷ h ∷ main ∷ [];
}

-- the node `g` in the argument is entered first, and then, after the constant, the node `h`
abbrev first_equation : Part ℕ ℕ ℕ
first_equation =
    part [] (notes.import (notes.more (part [] (notes.node
    (notes.more (part [] (notes.node (notes.more (part [] notes.name []) notes.none) 0 (entered (4 ∷ []) (5 ∷ []) [] (next (part (6 ∷ []) notes.name []) done))) [])
    (notes.more (part [] (notes.constant 7) []) notes.none)) 1
    (entered (8 ∷ 9 ∷ []) (10 ∷ []) (11 ∷ []) (next (part [] notes.name (12 ∷ 13 ∷ [])) (next (part [] notes.name []) done)))) []) notes.none) 0 (14 ∷ 15 ∷ [])) []

abbrev second_equation : Part ℕ ℕ ℕ
second_equation =
    part (20 ∷ 19 ∷ []) (notes.group (notes.more (part [] (notes.node (notes.more (part [] notes.name []) notes.none) 2
    (entered (16 ∷ []) (17 ∷ []) [] (next (part (18 ∷ []) notes.name []) done))) []) notes.none)) []

abbrev expansion : Expansion
expansion = entered (0 ∷ []) (1 ∷ 2 ∷ []) (3 ∷ []) (next first_equation (next second_equation done))

abbrev types : List Ty
types = kinds.Int ∷ kinds.Int ∷ kinds.Int ∷ kinds.Int ∷ kinds.Int ∷ kinds.Int ∷ kinds.Int ∷ kinds.Int ∷ kinds.Int ∷ kinds.Int ∷ []

abbrev flow : ℕ → FlowNo
flow k = record { 0 = k }

abbrev made : ℕ → List ℕ
made k = codes "$" ++ decimal k

-- a flow of the node of this name that is entered as the k-th
abbrev inner : List ℕ → ℕ → List ℕ → List ℕ
inner node k name = (node ++ (codes "#" ++ (decimal k ++ codes "."))) ++ name

labels : map (λ (f : Flow). f.label) (flat_of program types 2 expansion).flows
    ≡ codes "i" ∷ codes "o" ∷ codes "q" ∷ codes "m"
    ∷ inner (codes "g") 0 (codes "x") ∷ inner (codes "g") 0 (codes "y") ∷ made 6 ∷ made 7
    ∷ inner (codes "h") 1 (codes "x") ∷ inner (codes "h") 1 (codes "u") ∷ inner (codes "h") 1 (codes "y") ∷ inner (codes "h") 1 (codes "v") ∷ made 12 ∷ made 13
    ∷ made 14 ∷ made 15
    ∷ inner (codes "g") 2 (codes "x") ∷ inner (codes "g") 2 (codes "y") ∷ made 18 ∷ made 19 ∷ made 20 ∷ []
labels = refl

definitions_are : map (λ (f : Flow). f.def) (flat_of program types 2 expansion).flows
    ≡ definitions.Sensor 0 ∷ definitions.Copy (flow 14) ∷ definitions.Copy (flow 20) ∷ definitions.Copy (flow 15)
    ∷ definitions.Copy (flow 0) ∷ definitions.Copy (flow 6) ∷ definitions.Op ops.Tail (flow 4) ∷ definitions.Const (values.Int (pos 7))
    ∷ definitions.Copy (flow 5) ∷ definitions.Copy (flow 7) ∷ definitions.Copy (flow 9) ∷ definitions.Copy (flow 13) ∷ definitions.Op (ops.Up 2) (flow 8) ∷ definitions.Op (ops.Down 3) (flow 12)
    ∷ definitions.Apply 0 0 ∷ definitions.Apply 0 1
    ∷ definitions.Copy (flow 3) ∷ definitions.Copy (flow 18) ∷ definitions.Op ops.Tail (flow 16) ∷ definitions.Op ops.Tail (flow 17) ∷ definitions.Op (ops.Fby (values.Int (pos 0))) (flow 19) ∷ []
definitions_are = refl

places_are : map (λ (f : Flow). f.at) (flat_of program types 2 expansion).flows
    ≡ token 40 ∷ token 41 ∷ token 42 ∷ token 43 ∷ token 10 ∷ token 11 ∷ token 13 ∷ token 50
    ∷ token 20 ∷ token 21 ∷ token 22 ∷ token 23 ∷ token 26 ∷ token 27 ∷ token 46 ∷ token 46 ∷ token 10 ∷ token 11 ∷ token 13 ∷ token 54 ∷ token 53 ∷ []
places_are = refl

-- the argument stands where its expression begins
application : (flat_of program types 2 expansion).apps
    ≡ record { name = codes "F"; wcet = 3; args = record { flow = flow 10; at = token 47 } ∷ []; outs = flow 14 ∷ flow 15 ∷ []; at = token 46 } ∷ []
application = refl

-- The syntax tree as definitions speak of it, and what the program's own tree is seen as. The two differ in
-- expressions alone: a definition has its own list of arguments in place of a vector.
use Rattle.std.specs.Prelude.{ℕ, List, [], ◌∷◌, map}
use Rattle.prl_base.specs.declared.places.Span.{Span}
use Rattle.prl_base.specs.declared.values.Value.{Value}
use Rattle.prl_ast.specs.declared.expressions.PlacedOp.{PlacedOp}
use Rattle.prl_ast.specs.declared.expressions.Expr.{Expr}
use Rattle.prl_ast.specs.declared.expressions.Base.{Base, Const, Var, Apply', Group', Row_of-Expr, end_of-Expr, more_of-Expr}
use Rattle.prl_ast.specs.declared.declarations.Device.{Device}
use Rattle.prl_ast.specs.declared.declarations.Equation.{Equation}
use Rattle.prl_ast.specs.declared.declarations.Import.{Import}
use Rattle.prl_ast.specs.declared.declarations.Node.{Node}
use Rattle.prl_ast.specs.declared.declarations.Param.{Param}
use Rattle.prl_ast.specs.declared.declarations.Placed.{Placed}
use Rattle.prl_ast.specs.declared.declarations.Program.{Program}

mutual
  -- prefixes, the outermost first; what they are applied to; postfixes, the innermost first; the first token
  pub data Tree : Type 0 where
    tree : List PlacedOp → Root → List PlacedOp → Span → Tree

  pub data Root : Type 0 where
    const : Value → Root
    var : List ℕ → Root
    -- the name, where it stands, and the arguments
    apply : List ℕ → Span → Trees → Root
    group : Trees → Root

  pub data Trees : Type 0 where
    none : Trees
    more : Tree → Trees → Trees

abbrev mutual
  pub root_of : Base → Root
  root_of (Const v) = const v
  root_of (Var name) = var name
  root_of (Apply' name at shape args) = apply name at (trees_of args)
  root_of (Group' shape parts) = group (trees_of parts)

  pub trees_of : {m : _} → Row_of-Expr m → Trees
  trees_of end_of-Expr = none
  trees_of (more_of-Expr pre base post at rest) = more (tree pre (root_of base) post at) (trees_of rest)

abbrev pub tree_of : Expr → Tree
tree_of e = tree e.pre (root_of e.base) e.post e.at

pub record EquationTree : Type 0 where
  pub lefts : List Placed
  pub right : Tree
  pub at : Span

pub record NodeTree : Type 0 where
  pub name : List ℕ
  pub ins : List Param
  pub outs : List Param
  pub locals : List Param
  pub eqs : List EquationTree
  pub at : Span

pub record ProgramTree : Type 0 where
  pub imports : List Import
  pub sensors : List Device
  pub actuators : List Device
  pub nodes : List NodeTree

abbrev pub equation_tree : Equation → EquationTree
equation_tree e = record { lefts = e.lefts; right = tree_of e.right; at = e.at }

abbrev pub node_tree : Node → NodeTree
node_tree n = record { name = n.name; ins = n.ins; outs = n.outs; locals = n.locals; eqs = map equation_tree n.eqs; at = n.at }

abbrev pub program_tree : Program → ProgramTree
program_tree p = record { imports = p.imports; sensors = p.sensors; actuators = p.actuators; nodes = map node_tree p.nodes }

-- the list of the trees
abbrev pub tree_list : Trees → List Tree
tree_list none = []
tree_list (more t ts) = t ∷ tree_list ts

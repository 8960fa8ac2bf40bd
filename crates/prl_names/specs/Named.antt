-- What is known of a program whose names are right.
use Rattle.std.specs.Prelude.{◌≡◌, ◌<◌, ℕ, IsSome, true, List, [], ◌∷◌, ◌++◌, map, length, slice_get, Some}
use Rattle.prl_ast.specs.declared.declarations.Import.{Import}
use Rattle.prl_ast.specs.declared.declarations.Param.{Param}
use Rattle.prl_ast.specs.declared.declarations.Placed.{Placed}
use Rattle.prl_ast.specs.Trees.{Tree, tree, Root, const, var, apply, group, Trees, none, more, EquationTree, NodeTree, ProgramTree}
use Rattle.prl_names.specs.Applications.{Reaches}
use Rattle.prl_names.specs.Checks.{device_names}
use Rattle.prl_names.specs.Lookups.{param_at, param_names, node_names, import_names, callee_of}
use Rattle.prl_names.specs.Repeats.{is_among, port_space, definition_space}
use Rattle.prl_names.specs.Unknowns.{left_names}

-- no name stands at two indices
abbrev pub AreApart : List (List ℕ) → Type 0
AreApart names = (i j : ℕ) (name : List ℕ) → slice_get names i ≡ Some name → slice_get names j ≡ Some name → i ≡ j

abbrev pub placed_names : List Placed → List (List ℕ)
placed_names space = map (λ (p : Placed). p.name) space

abbrev mutual
  -- each name of an expression is a flow of the node, and each name that is applied a node or an import
  pub IsKnown : ProgramTree → ℕ → Tree → Type 0
  IsKnown p node (tree pre root post at) = IsKnownRoot p node root

  pub IsKnownRoot : ProgramTree → ℕ → Root → Type 0
  IsKnownRoot p node (const v) = Unit {0}
  IsKnownRoot p node (var name) = IsSome (param_at p node name)
  IsKnownRoot p node (apply name at args) = IsSome (callee_of p name) × AreKnown p node args
  IsKnownRoot p node (group parts) = AreKnown p node parts

  pub AreKnown : ProgramTree → ℕ → Trees → Type 0
  AreKnown p node none = Unit {0}
  AreKnown p node (more t ts) = IsKnown p node t × AreKnown p node ts

-- each left name is a flow of the node
abbrev pub AreKnownLefts : ProgramTree → ℕ → List Placed → Type 0
AreKnownLefts p node [] = Unit {0}
AreKnownLefts p node (l ∷ ls) = IsSome (param_at p node l.name) × AreKnownLefts p node ls

abbrev pub AreKnownEquations : ProgramTree → ℕ → List EquationTree → Type 0
AreKnownEquations p node [] = Unit {0}
AreKnownEquations p node (e ∷ es) = AreKnownLefts p node e.lefts × IsKnown p node e.right × AreKnownEquations p node es

-- each parameter has one of the names
abbrev pub AllAreAmong : List (List ℕ) → List Param → Type 0
AllAreAmong names [] = Unit {0}
AllAreAmong names (p ∷ ps) = (is_among names p.name ≡ true) × AllAreAmong names ps

-- one node, at its index of the list of nodes
pub record IsNamedNode (p : ProgramTree) (node : ℕ) (n : NodeTree) : Type 0 where
  pub params_apart : AreApart (param_names n)
  -- an input has no equation, and no flow has two
  pub definitions_apart : AreApart (placed_names (definition_space n))
  -- each output and each local has an equation
  pub defined : AllAreAmong (left_names n) (n.outs ++ n.locals)
  pub known : AreKnownEquations p node n.eqs

-- the main node has a sensor for each input and an actuator for each output
pub record HasDevices (p : ProgramTree) (n : NodeTree) : Type 0 where
  pub sensors : AllAreAmong (device_names p.sensors) n.ins
  pub actuators : AllAreAmong (device_names p.actuators) n.outs

-- the program, whose main node stands at the index
pub record IsNamed (p : ProgramTree) (main : ℕ) : Type 0 where
  pub main_below : main < length p.nodes
  pub nodes : (node : ℕ) (n : NodeTree) → slice_get p.nodes node ≡ Some n → IsNamedNode p node n
  pub devices : (n : NodeTree) → slice_get p.nodes main ≡ Some n → HasDevices p n
  -- no node applies itself, directly or through others
  pub acyclic : (node : ℕ) → ¬ Reaches p node node
  pub nodes_apart : AreApart (node_names p)
  pub imports_apart : AreApart (import_names p)
  -- no node has the name of an import
  pub callees_apart : (node import : ℕ) (name : List ℕ) → slice_get (node_names p) node ≡ Some name → slice_get (import_names p) import ≡ Some name → ⊥
  pub ports_apart : (k : ℕ) (i : Import) → slice_get p.imports k ≡ Some i → AreApart (placed_names (port_space i))
  pub sensors_apart : AreApart (device_names p.sensors)
  pub actuators_apart : AreApart (device_names p.actuators)

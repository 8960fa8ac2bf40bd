-- Parts of the syntax tree that the grammar speaks of.
use Rattle.std.specs.Prelude.{ℕ, List, [], ◌∷◌, ◌++◌, Option, Some, None}
use Rattle.prl_base.specs.declared.places.Span.{Span}
use Rattle.prl_base.specs.declared.values.Ty.{Ty}
use Rattle.prl_ast.specs.declared.declarations.Device.{Device}
use Rattle.prl_ast.specs.declared.declarations.Import.{Import}
use Rattle.prl_ast.specs.declared.declarations.Param.{Param}
use Rattle.prl_ast.specs.declared.declarations.Placed.{Placed}
use Rattle.prl_ast.specs.declared.declarations.Port.{Port}
use Rattle.prl_ast.specs.declared.expressions.PlacedOp.{PlacedOp}
use Rattle.prl_ast.specs.Trees.{Tree, tree, Root, var, apply, Trees, none, more, NodeTree, ProgramTree}
use Rattle.prl_syntax.specs.declared.parameters.Note.{Note}
use Rattle.prl_syntax.specs.declared.parameters.Item.{Item}

-- the lists one after another
abbrev pub joined : {A : Type 0} → List (List A) → List A
joined [] = []
joined (xs ∷ rest) = xs ++ joined rest

abbrev pub param_of : Placed → Option Note → Param
param_of n None = record { name = n.name; ty = None; rate = None; due = None; at = n.at }
param_of n (Some note) = record { name = n.name; ty = note.ty; rate = note.rate; due = note.due; at = n.at }

abbrev pub note_or : Option Note → Option Note → Option Note
note_or None other = other
note_or (Some note) other = Some note

-- the first note of the items, or the one after them
abbrev pub first_note : List Item → Option Note → Option Note
first_note [] later = later
first_note (item ∷ items) later = note_or item.note (first_note items later)

-- A name without a note of its own has the note of the next one that has one.
abbrev pub params_before : List Item → Option Note → List Param
params_before [] later = []
params_before (item ∷ items) later = param_of item.name (first_note (item ∷ items) later) ∷ params_before items later

abbrev pub params_of : List Item → List Param
params_of items = params_before items None

abbrev pub port_of : Ty → Placed → Port
port_of ty n = record { name = n.name; ty = ty; at = n.at }

abbrev pub trees_from : List Tree → Trees
trees_from [] = none
trees_from (t ∷ ts) = more t (trees_from ts)

-- prefixes, and what they are applied to
abbrev pub StemTree : Type 0
StemTree = List PlacedOp × Root

abbrev pub prefixed : PlacedOp → StemTree → StemTree
prefixed op s = (op ∷ s.0, s.1)

-- an expression that begins at the place
abbrev pub tree_from : Span → StemTree → List PlacedOp → Tree
tree_from at s post = tree s.0 s.1 post at

-- a name, with its arguments where it has some in parentheses
abbrev pub root_of_name : List ℕ × Span → Option Trees → Root
root_of_name name None = var name.0
root_of_name name (Some args) = apply name.0 name.1 args

-- a declaration of the text
pub data Declared : Type 0 where
  imported : Import → Declared
  sensor : Device → Declared
  actuator : Device → Declared
  node : NodeTree → Declared

abbrev pub with_declared : Declared → ProgramTree → ProgramTree
with_declared (imported i) p = record p { imports = i ∷ p.imports }
with_declared (sensor d) p = record p { sensors = d ∷ p.sensors }
with_declared (actuator d) p = record p { actuators = d ∷ p.actuators }
with_declared (node n) p = record p { nodes = n ∷ p.nodes }

-- the declarations by kind
abbrev pub program_of : List Declared → ProgramTree
program_of [] = record { imports = []; sensors = []; actuators = []; nodes = [] }
program_of (d ∷ ds) = with_declared d (program_of ds)

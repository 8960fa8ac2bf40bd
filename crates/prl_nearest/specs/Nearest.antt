-- A name that a program declares and that is spelt nearly as a word.
use Rattle.std.specs.Prelude.{◌≡◌, ◌≢◌, ◌==◌, ◌*◌, ◌<◌, ◌≤◌, ◌++◌, ◌⊎◌, ℕ, List, [], Ok, Some, codes, length, slice_get, if◌then◌else◌}
use Rattle.std.specs.List.{flat_map}
use Rattle.prl_ast.specs.declared.declarations.Device.{Device}
use Rattle.prl_ast.specs.declared.declarations.Import.{Import}
use Rattle.prl_ast.specs.declared.declarations.Node.{Node}
use Rattle.prl_ast.specs.declared.declarations.Param.{Param}
use Rattle.prl_ast.specs.declared.declarations.Program.{Program}
use Rattle.prl_ast.specs.Trees.{program_tree}
use Rattle.prl_syntax.specs.Parsing.{IsParsed}
use Rattle.prl_nearest.specs.Edits.{IsWithin}

-- one of these has the name
pub record HasName {A : Type 0} (name_of : A → List ℕ) (all : List A) (name : List ℕ) : Type 0 where
  pub index : ℕ
  pub one : A
  pub found : slice_get all index ≡ Some one
  pub named : name_of one ≡ name

abbrev pub HasDevice : List Device → List ℕ → Type 0
HasDevice = HasName (λ (device : Device). device.name)

abbrev pub HasImport : List Import → List ℕ → Type 0
HasImport = HasName (λ (import : Import). import.name)

abbrev pub HasNode : List Node → List ℕ → Type 0
HasNode = HasName (λ (node : Node). node.name)

abbrev pub HasParam : List Param → List ℕ → Type 0
HasParam = HasName (λ (param : Param). param.name)

-- an input, an output or a variable of the node
abbrev pub HasVariable : Node → List ℕ → Type 0
HasVariable node name = HasParam node.ins name ⊎ (HasParam node.outs name ⊎ HasParam node.locals name)

-- of one of the nodes
pub record IsVariable (nodes : List Node) (name : List ℕ) : Type 0 where
  pub index : ℕ
  pub node : Node
  pub found : slice_get nodes index ≡ Some node
  pub has : HasVariable node name

-- what a program declares: a variable of a node, a sensor, an actuator, an import or a node
abbrev pub IsDeclared : Program → List ℕ → Type 0
IsDeclared program name =
    IsVariable program.nodes name
    ⊎ (HasDevice program.sensors name ⊎ (HasDevice program.actuators name ⊎ (HasImport program.imports name ⊎ HasNode program.nodes name)))

-- another word that is so few edits away, fewer than half of the word's bytes
pub record IsNear (most : ℕ) (word name : List ℕ) : Type 0 where
  pub other : name ≢ word
  pub near : IsWithin most word name
  pub few : 2 * most < length word

unfoldable pub mean_text : List ℕ → List ℕ
mean_text name = codes "Did you mean `" ++ name ++ codes "`?\n"

-- the program of a text declares a name that is one or two edits away
pub record IsNearIn (text word name : List ℕ) : Type 0 where
  pub program : Program
  pub parsed : IsParsed text (Ok (program_tree program))
  pub declared : IsDeclared program name
  pub most : ℕ
  pub small : most ≤ 2
  pub near : IsNear most word name

-- what is told of a name that is not known: nothing, or one that is
abbrev pub IsNearTold : List ℕ → List ℕ → List ℕ → Type 0
IsNearTold text word told = (told ≡ []) ⊎ ((name : List ℕ) × IsNearIn text word name × (told ≡ mean_text name))

unfoldable pub name_text : Node → List ℕ
name_text node = codes " " ++ node.name

abbrev pub none_text : List ℕ
none_text = codes "The program has no node but imported ones.\n"

abbrev pub front_text : List ℕ
front_text = codes "The nodes are"

abbrev pub end_text : List ℕ
end_text = codes ".\n"

unfoldable pub some_text : List Node → List ℕ
some_text nodes = front_text ++ flat_map name_text nodes ++ end_text

-- the names of nodes; that there is none
abbrev pub names_text : List Node → List ℕ
names_text nodes = if length nodes == 0 then none_text else some_text nodes

-- what is told where no node is main: nothing, or the names of the nodes
pub record AreNodesOf (text told : List ℕ) : Type 0 where
  pub program : Program
  pub parsed : IsParsed text (Ok (program_tree program))
  pub is : told ≡ names_text program.nodes

abbrev pub IsNodesTold : List ℕ → List ℕ → Type 0
IsNodesTold text told = (told ≡ []) ⊎ AreNodesOf text told

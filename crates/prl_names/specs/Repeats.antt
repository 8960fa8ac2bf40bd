-- The first name of a program that is declared or defined a second time.
use Rattle.std.specs.Prelude.{ℕ, Bool, List, [], ◌∷◌, ◌++◌, map, filter, Option, Some, None, nat_lt, if◌then◌else◌}
use Rattle.std.specs.List.{flat_map}
use Rattle.std.specs.Option.{is_some}
use Rattle.prl_ast.specs.declared.declarations.Import.{Import}
use Rattle.prl_ast.specs.declared.declarations.Placed.{Placed}
use Rattle.prl_ast.specs.Trees.{EquationTree, NodeTree, ProgramTree}
use Rattle.prl_names.specs.Lookups.{index_of, params_of, param_of}
use Rattle.prl_names.specs.Mentions.{placed_param, placed_port, placed_device, placed_import, placed_node}

-- whether the name is one of the names
abbrev pub is_among : List (List ℕ) → List ℕ → Bool
is_among names name = is_some (index_of names name)

-- the first of these that has the name of an earlier one
abbrev pub repeat_after : List (List ℕ) → List Placed → Option Placed
repeat_after earlier [] = None
repeat_after earlier (p ∷ ps) = if is_among earlier p.name then Some p else repeat_after (earlier ++ p.name ∷ []) ps

abbrev pub repeat_in : List Placed → Option Placed
repeat_in space = repeat_after [] space

-- the front of the list that stands before a byte of the text, and what stands after that front
abbrev pub front_before : ℕ → List Placed → List Placed
front_before at [] = []
front_before at (p ∷ ps) = if nat_lt p.at.at at then p ∷ front_before at ps else []

abbrev pub rest_from : ℕ → List Placed → List Placed
rest_from at [] = []
rest_from at (p ∷ ps) = if nat_lt p.at.at at then rest_from at ps else p ∷ ps

-- two lists in the order of the text as one
abbrev pub merged : List Placed → List Placed → List Placed
merged [] others = others
merged (p ∷ ps) others = front_before p.at.at others ++ p ∷ merged ps (rest_from p.at.at others)

-- nodes and imports share one space
abbrev pub callee_space : ProgramTree → List Placed
callee_space p = merged (map placed_import p.imports) (map placed_node p.nodes)

abbrev pub port_space : Import → List Placed
port_space i = map placed_port (i.ins ++ i.outs)

abbrev pub flow_space : NodeTree → List Placed
flow_space node = map placed_param (params_of node)

-- the left names of the equations
abbrev pub lefts_of : NodeTree → List Placed
lefts_of node = flat_map (λ (e : EquationTree). e.lefts) node.eqs

abbrev pub is_flow : NodeTree → Placed → Bool
is_flow node p = is_some (param_of node p.name)

-- what defines a flow of a node: an input is one by its declaration, the others are left names
abbrev pub definition_space : NodeTree → List Placed
definition_space node = map placed_param node.ins ++ filter (is_flow node) (lefts_of node)

abbrev pub global_spaces : ProgramTree → List (List Placed)
global_spaces p = callee_space p ∷ map placed_device p.sensors ∷ map placed_device p.actuators ∷ []

-- Each name is to stand once in each of these spaces.
abbrev pub name_spaces : ProgramTree → List (List Placed)
name_spaces p = ((global_spaces p ++ map port_space p.imports) ++ map flow_space p.nodes) ++ map definition_space p.nodes

-- the one that stands before the other in the text
abbrev pub first_of : Option Placed → Option Placed → Option Placed
first_of None other = other
first_of (Some p) None = Some p
first_of (Some p) (Some q) = if nat_lt q.at.at p.at.at then Some q else Some p

-- the first repeat of all spaces, and of another that was found before
abbrev pub earliest_repeat : Option Placed → List (List Placed) → Option Placed
earliest_repeat before [] = before
earliest_repeat before (space ∷ spaces) = earliest_repeat (first_of before (repeat_in space)) spaces

unfoldable pub repeat_of : ProgramTree → Option Placed
repeat_of p = earliest_repeat None (name_spaces p)

-- Names where they are declared or defined.
use Rattle.std.specs.Prelude.{ℕ, List, map}
use Rattle.prl_ast.specs.declared.declarations.Device.{Device}
use Rattle.prl_ast.specs.declared.declarations.Import.{Import}
use Rattle.prl_ast.specs.declared.declarations.Param.{Param}
use Rattle.prl_ast.specs.declared.declarations.Placed.{Placed}
use Rattle.prl_ast.specs.declared.declarations.Port.{Port}
use Rattle.prl_ast.specs.Trees.{NodeTree}
use Rattle.prl_names.specs.declared.mentions.Mention.{Mention}

abbrev pub placed_param : Param → Placed
placed_param p = record { name = p.name; at = p.at }

abbrev pub placed_port : Port → Placed
placed_port p = record { name = p.name; at = p.at }

abbrev pub placed_device : Device → Placed
placed_device d = record { name = d.name; at = d.at }

abbrev pub placed_import : Import → Placed
placed_import i = record { name = i.name; at = i.at }

abbrev pub placed_node : NodeTree → Placed
placed_node n = record { name = n.name; at = n.at }

-- the same as the code lists them
abbrev pub placed_of : Mention → Placed
placed_of m = record { name = m.name.now; at = m.at }

abbrev pub all_placed : List Mention → List Placed
all_placed ms = map placed_of ms

abbrev pub names_in : List Mention → List (List ℕ)
names_in ms = map (λ (m : Mention). m.name.now) ms

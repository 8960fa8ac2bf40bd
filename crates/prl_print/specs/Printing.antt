-- The printed text of a program.
use Rattle.std.specs.Prelude.{ℕ, ◌==◌, List, [], ◌∷◌, ◌++◌, map, codes, decimal, Option, Some, None, if◌then◌else◌}
use Rattle.std.specs.List.{flat_map}
use Rattle.prl_base.specs.declared.operators.Op.{Op}
use Rattle.prl_base.specs.declared.operators.Op.TheVariants as ops
use Rattle.prl_base.specs.Texts.{fraction_text, type_text, value_text}
use Rattle.prl_ast.specs.declared.declarations.Device.{Device}
use Rattle.prl_ast.specs.declared.declarations.Import.{Import}
use Rattle.prl_ast.specs.declared.declarations.Param.{Param}
use Rattle.prl_ast.specs.declared.declarations.Placed.{Placed}
use Rattle.prl_ast.specs.declared.declarations.Port.{Port}
use Rattle.prl_ast.specs.declared.declarations.Rate.{Rate}
use Rattle.prl_ast.specs.declared.expressions.PlacedOp.{PlacedOp}
use Rattle.prl_ast.specs.Trees.{Tree, tree, Root, const, var, apply, group, Trees, none, more, EquationTree, NodeTree, ProgramTree}

-- the texts with a separator between
abbrev pub separated : List ℕ → List (List ℕ) → List ℕ
separated between [] = []
separated between (text ∷ texts) = text ++ flat_map (λ other. between ++ other) texts

-- parameters: a name, and the parts of its note where it has one

abbrev pub printed_rate : Rate → List ℕ
printed_rate rate = codes "rate (" ++ decimal rate.period ++ codes ", " ++ fraction_text rate.phase ++ codes ")"

abbrev pub printed_due : ℕ → List ℕ
printed_due due = codes "due " ++ decimal due

-- one text, where there is something to print
abbrev pub part : {A : Type 0} → (A → List ℕ) → Option A → List (List ℕ)
part printed None = []
part printed (Some x) = printed x ∷ []

abbrev pub note_parts : Param → List (List ℕ)
note_parts p = part type_text p.ty ++ part printed_rate p.rate ++ part printed_due p.due

abbrev pub printed_note : List (List ℕ) → List ℕ
printed_note [] = []
printed_note (text ∷ texts) = codes ": " ++ separated (codes " ") (text ∷ texts)

abbrev pub printed_param : Param → List ℕ
printed_param p = p.name ++ printed_note (note_parts p)

abbrev pub printed_params : List Param → List ℕ
printed_params params = separated (codes "; ") (map printed_param params)

-- imports, sensors and actuators

abbrev pub printed_port : Port → List ℕ
printed_port p = p.name ++ codes ": " ++ type_text p.ty

abbrev pub printed_ports : List Port → List ℕ
printed_ports ports = separated (codes "; ") (map printed_port ports)

abbrev pub printed_wcet : ℕ → List ℕ
printed_wcet wcet = codes " wcet " ++ decimal wcet ++ codes ";\n"

-- a keyword, a name, and the texts of what is taken and given
abbrev pub printed_signature : List ℕ → List ℕ → List (List ℕ) → List (List ℕ) → List ℕ
printed_signature keyword name ins outs = keyword ++ name ++ codes "(" ++ separated (codes "; ") ins ++ codes ") returns (" ++ separated (codes "; ") outs ++ codes ")"

abbrev pub printed_import : Import → List ℕ
printed_import i = printed_signature (codes "imported node ") i.name (map printed_port i.ins) (map printed_port i.outs) ++ printed_wcet i.wcet

abbrev pub printed_device : List ℕ → Device → List ℕ
printed_device keyword d = keyword ++ d.name ++ printed_wcet d.wcet

-- expressions

-- prefixes have a blank after them, and postfixes before them
abbrev pub printed_operator : Op → List ℕ
printed_operator (ops.Fby value) = value_text value ++ codes " fby "
printed_operator (ops.Cons value) = value_text value ++ codes " :: "
printed_operator ops.Tail = codes "tail "
printed_operator (ops.Up factor) = codes " *^ " ++ decimal factor
printed_operator (ops.Down factor) = codes " /^ " ++ decimal factor
printed_operator (ops.Shift ratio) = codes " ~> " ++ fraction_text ratio

abbrev pub printed_operators : List PlacedOp → List ℕ
printed_operators operators = flat_map (λ o. printed_operator o.op) operators

abbrev mutual
  pub printed_tree : Tree → List ℕ
  printed_tree (tree pre root post at) = printed_operators pre ++ printed_root root ++ printed_operators post

  pub printed_root : Root → List ℕ
  printed_root (const value) = value_text value
  printed_root (var name) = name
  printed_root (apply name at args) = name ++ (codes "(" ++ printed_trees args ++ codes ")")
  printed_root (group parts) = codes "(" ++ printed_trees parts ++ codes ")"

  pub printed_trees : Trees → List ℕ
  printed_trees none = []
  printed_trees (more t ts) = printed_tree t ++ printed_others ts

  -- each after a comma
  pub printed_others : Trees → List ℕ
  printed_others none = []
  printed_others (more t ts) = (codes ", " ++ printed_tree t) ++ printed_others ts

-- what stands before an expression of a list, by how many are before it
abbrev pub comma_before : ℕ → List ℕ
comma_before index = if index == 0 then [] else codes ", "

-- equations, nodes and programs

abbrev pub name_of : Placed → List ℕ
name_of n = n.name

-- one name stands without parentheses
abbrev pub printed_lefts : List Placed → List ℕ
printed_lefts (n ∷ []) = n.name
printed_lefts names = codes "(" ++ separated (codes ", ") (map name_of names) ++ codes ")"

abbrev pub printed_equation : EquationTree → List ℕ
printed_equation e = codes "  " ++ printed_lefts e.lefts ++ codes " = " ++ printed_tree e.right ++ codes ";\n"

-- no line where there are none
abbrev pub printed_locals : List Param → List ℕ
printed_locals [] = []
printed_locals (p ∷ ps) = codes "var " ++ printed_params (p ∷ ps) ++ codes ";\n"

abbrev pub printed_head : NodeTree → List ℕ
printed_head n = codes "node " ++ n.name ++ codes "(" ++ printed_params n.ins ++ codes ") returns (" ++ printed_params n.outs ++ codes ")\n" ++ printed_locals n.locals

abbrev pub printed_node : NodeTree → List ℕ
printed_node n = printed_head n ++ codes "let\n" ++ flat_map printed_equation n.eqs ++ codes "tel\n"

abbrev pub printed : ProgramTree → List ℕ
printed p =
    flat_map printed_import p.imports ++ flat_map (printed_device (codes "sensor ")) p.sensors ++ flat_map (printed_device (codes "actuator ")) p.actuators
    ++ flat_map printed_node p.nodes

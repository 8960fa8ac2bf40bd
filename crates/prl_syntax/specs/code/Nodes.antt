-- Declarations as the code keeps them, and as the grammar speaks of them.
use Rattle.std.specs.Prelude.{List, [], ◌∷◌, ◌++◌, map}
use Rattle.prl_ast.specs.Trees.{EquationTree, ProgramTree, node_tree}
use Rattle.prl_syntax.specs.declared.nodes.Declaration.{Declaration}
use Rattle.prl_syntax.specs.declared.nodes.Declaration.TheVariants as kinds
use Rattle.prl_syntax.specs.declared.nodes.Declarations.{Declarations}
use Rattle.prl_ast.specs.declared.declarations.Param.{Param}
use Rattle.prl_lex.specs.Productions.{many}
use Rattle.prl_lex.specs.Combinators.{◌&◌, ◌⊳◌, ◌⊲◌, maybe}
use Rattle.prl_syntax.specs.declared.words.Fixed.TheVariants as fixed
use Rattle.prl_syntax.specs.Grammar.{Grammar, the, in_parens, Equation, Locals, Params}
use Rattle.prl_syntax.specs.Trees.{Declared, imported, sensor, actuator, node}

unfoldable pub declared_view : Declaration → Declared
declared_view (kinds.Import i) = imported i
declared_view (kinds.Sensor d) = sensor d
declared_view (kinds.Actuator d) = actuator d
declared_view (kinds.Node n) = node (node_tree n)

abbrev pub declarations_view : Declarations → ProgramTree
declarations_view p = record { imports = p.imports.items; sensors = p.sensors.items; actuators = p.actuators.items; nodes = map node_tree p.nodes.items }

-- a program with one declaration more at the end of its kind
abbrev pub with_last : ProgramTree → Declared → ProgramTree
with_last p (imported i) = record p { imports = p.imports ++ i ∷ [] }
with_last p (sensor d) = record p { sensors = p.sensors ++ d ∷ [] }
with_last p (actuator d) = record p { actuators = p.actuators ++ d ∷ [] }
with_last p (node n) = record p { nodes = p.nodes ++ n ∷ [] }

-- the declarations of the one, then those of the other
abbrev pub followed_by : ProgramTree → ProgramTree → ProgramTree
followed_by p q = record { imports = p.imports ++ q.imports; sensors = p.sensors ++ q.sensors; actuators = p.actuators ++ q.actuators; nodes = p.nodes ++ q.nodes }

-- the parts of a node: its equations, these after its local variables, and these after its outputs
abbrev pub ClosedEquations : Grammar (List EquationTree)
ClosedEquations = the fixed.Let ⊳ many Equation ⊲ the fixed.Tel ⊲ maybe (the fixed.Semicolon)

abbrev pub NodeBody : Grammar (List Param × List EquationTree)
NodeBody = Locals & ClosedEquations

abbrev pub OutsAndBody : Grammar (List Param × (List Param × List EquationTree))
OutsAndBody = the fixed.Returns ⊳ in_parens Params & NodeBody

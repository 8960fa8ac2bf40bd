-- What a command's texts are: its program with its main node, and its bodies.
use Rattle.std.specs.Prelude.{◌≡◌, ◌⊎◌, ◌<◌, ℕ, List, length, Ok, Err}
use Rattle.prl_base.specs.declared.values.Ty.{Ty}
use Rattle.prl_ast.specs.Trees.{ProgramTree}
use Rattle.prl_syntax.specs.declared.parsing.ParseFault.{ParseFault}
use Rattle.prl_syntax.specs.declared.parsing.ParseFault.TheVariants as parsing
use Rattle.prl_syntax.specs.Parsing.{IsParsed}
use Rattle.prl_names.specs.Uses.{used_imports}
use Rattle.prl_types.specs.Typing.{IsTyped}
use Rattle.prl_body.specs.declared.faults.BodyFault.{BodyFault}
use Rattle.prl_body.specs.declared.faults.BodyFault.TheVariants as body_faults
use Rattle.prl_body.specs.Checks.{BodyTree, checked}
use Rattle.prl_body.specs.Texts.{TextTree}
use Rattle.prl_bodytext.specs.Parsing.{IsParsed as IsParsedBodies}
use Rattle.prl_stages.specs.declared.faults.InputFile.TheVariants as parts
use Rattle.prl_stages.specs.declared.faults.GrammarRefusal.{GrammarRefusal}
use Rattle.prl_stages.specs.declared.faults.GrammarRefusal.TheVariants as bad_grammar
use Rattle.prl_stages.specs.declared.faults.BodiesRefusal.{BodiesRefusal}
use Rattle.prl_stages.specs.declared.faults.BodiesRefusal.TheVariants as bad_bodies
use Rattle.prl_stages.specs.Given.{Given, text_of}

-- the text is this program of the grammar
pub record IsProgram (g : Given) (p : ProgramTree) : Type 0 where
  pub written : IsParsed (text_of g parts.Program) (Ok p)

-- its names and types are right, and the node of this number is the one that is asked for, else the last
pub record IsMain (g : Given) (p : ProgramTree) (main : ℕ) : Type 0 where
  pub program : IsProgram g p
  pub types : List Ty
  pub typed : IsTyped p g.node main types
  pub below : main < length p.nodes

-- the text is bodies of the grammar that fit the program's imports, with one for each that main's expansion applies
pub record AreBodies (g : Given) (trees : List BodyTree) : Type 0 where
  pub program : ProgramTree
  pub main : ℕ
  pub is_main : IsMain g program main
  pub texts : List TextTree
  pub written : IsParsedBodies (text_of g parts.Bodies) (Ok texts)
  pub fitting : checked program.imports (used_imports program main) texts ≡ Ok trees

-- the first fault of a text of bodies, else of the bodies for the program
abbrev pub RefusesBodies : ProgramTree → ℕ → List ℕ → BodyFault → Type 0
RefusesBodies p main text fault =
    IsParsedBodies text (Err fault)
    ⊎ ((texts : List TextTree) × IsParsedBodies text (Ok texts) × (checked p.imports (used_imports p main) texts ≡ Err fault))

-- the fault of the crate below that is told as a refusal
abbrev pub grammar_fault : GrammarRefusal → ParseFault
grammar_fault (bad_grammar.BadToken at) = parsing.BadToken at
grammar_fault (bad_grammar.Unexpected at) = parsing.Unexpected at
grammar_fault (bad_grammar.NumberRange at) = parsing.NumberRange at
grammar_fault (bad_grammar.Limit limit) = parsing.Limit limit

abbrev pub bodies_fault : BodiesRefusal → BodyFault
bodies_fault (bad_bodies.Syntax at) = body_faults.Syntax at
bodies_fault (bad_bodies.Limit limit) = body_faults.Limit limit
bodies_fault (bad_bodies.BodyName at) = body_faults.BodyName at
bodies_fault (bad_bodies.BodyType at) = body_faults.BodyType at
bodies_fault (bad_bodies.BodyArity at) = body_faults.BodyArity at
bodies_fault (bad_bodies.Missing name) = body_faults.Missing name

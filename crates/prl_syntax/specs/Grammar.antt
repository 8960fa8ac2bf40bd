-- The grammar of programs. Its productions have the names of docs/formats.md, the parts before the whole.
use Rattle.std.specs.Prelude.{ℕ, true, false, List, [], ◌∷◌, ◌++◌, map, Some, None}
use Rattle.prl_base.specs.Ratios.{Fraction}
use Rattle.prl_base.specs.declared.operators.Op.{Op}
use Rattle.prl_base.specs.declared.operators.Op.TheVariants as ops
use Rattle.prl_base.specs.declared.places.Span.{Span}
use Rattle.prl_base.specs.declared.values.Ty.{Ty}
use Rattle.prl_base.specs.declared.values.Ty.TheVariants as types
use Rattle.prl_base.specs.declared.values.Value.{Value}
use Rattle.prl_base.specs.declared.values.Value.TheVariants as values
use Rattle.prl_ast.specs.declared.declarations.Device.{Device as DeviceTree}
use Rattle.prl_ast.specs.declared.declarations.Import.{Import as ImportTree}
use Rattle.prl_ast.specs.declared.declarations.Param.{Param}
use Rattle.prl_ast.specs.declared.declarations.Placed.{Placed}
use Rattle.prl_ast.specs.declared.declarations.Port.{Port}
use Rattle.prl_ast.specs.declared.declarations.Rate.{Rate as RateTree}
use Rattle.prl_ast.specs.declared.expressions.PlacedOp.{PlacedOp}
use Rattle.prl_ast.specs.Trees.{Tree, Root, const, group, Trees, none, EquationTree, NodeTree, ProgramTree}
use Rattle.prl_lex.specs.Numbers.{positive, negative}
use Rattle.prl_lex.specs.Productions.{Grammar as GrammarIn, give, many, placed, inner}
use Rattle.prl_lex.specs.Combinators.{◌=>◌, ◌means◌, ◌or◌, ◌&◌, ◌⊳◌, ◌⊲◌, maybe, list_of, place, named, number}
use Rattle.prl_lex.specs.Language.{Language}
use Rattle.prl_syntax.specs.declared.words.Fixed.{Fixed}
use Rattle.prl_syntax.specs.declared.words.Fixed.TheVariants as fixed
use Rattle.prl_syntax.specs.declared.parameters.Note.{Note as NoteTree}
use Rattle.prl_syntax.specs.declared.parameters.Item.{Item as ItemTree}
use Rattle.prl_syntax.specs.Words.{class_of}
use Rattle.prl_syntax.specs.Values.{small, ratio_with}
use Rattle.prl_syntax.specs.Trees.{joined, params_of, port_of, trees_from, StemTree, prefixed, tree_from, root_of_name, Declared, imported, sensor, actuator, node, program_of}

-- a grammar, in which stems stand in one another
abbrev pub Grammar : Type 0 → Type 1
Grammar = GrammarIn StemTree

-- a keyword or a symbol
abbrev pub the : Fixed → Grammar Span
the f = place (class_of f)

abbrev pub closed : {A : Type 0} → Grammar A → Grammar A
closed g = g ⊲ the fixed.Close

abbrev pub in_parens : {A : Type 0} → Grammar A → Grammar A
in_parens g = the fixed.Open ⊳ closed g

-- in parentheses, which may stand alone
abbrev pub maybe_in_parens : {A : Type 0} → A → Grammar A → Grammar A
maybe_in_parens nothing g = the fixed.Open ⊳ (the fixed.Close means nothing or closed g)

-- constants and ratios

unfoldable pub Const : Grammar Value
Const =
    the fixed.True means values.Bool true
    or the fixed.False means values.Bool false
    or the fixed.Minus ⊳ number => negative
    or number => positive

unfoldable pub Ratio : Grammar Fraction
Ratio = number & maybe (the fixed.Slash ⊳ number) => λ x. ratio_with x.0 x.1

-- expressions

unfoldable pub Postfix : Grammar PlacedOp
Postfix =
    the fixed.Up & number => (λ x. record { op = ops.Up (small x.1); at = x.0 })
    or the fixed.Down & number => (λ x. record { op = ops.Down (small x.1); at = x.0 })
    or the fixed.Shift & Ratio => (λ x. record { op = ops.Shift x.1; at = x.0 })

-- a stem and postfixes
unfoldable pub Expr : Grammar Tree
Expr = placed (inner & many Postfix) => λ x. tree_from x.0 x.1.0 x.1.1

unfoldable pub Exprs : Grammar Trees
Exprs = list_of (the fixed.Comma) Expr => trees_from

-- each base but a constant
unfoldable pub Base : Grammar Root
Base = named & maybe (maybe_in_parens none Exprs) => (λ x. root_of_name x.0 x.1) or in_parens Exprs => group

-- the last token of a prefix, and the stem that it is applied to
unfoldable pub Prefix : Fixed → Grammar (Op → StemTree)
Prefix f = the f & inner => λ x op. prefixed (record { op = op; at = x.0 }) x.1

-- what stands after a constant: the token there tells whether it belongs to a prefix
unfoldable pub AfterConst : Grammar (Value → StemTree)
AfterConst = Prefix fixed.Fby => (λ p c. p (ops.Fby c)) or Prefix fixed.Cons => (λ p c. p (ops.Cons c)) or give (λ c. ([], const c))

-- prefixes and a base
unfoldable pub Stem : Grammar StemTree
Stem = Base => (λ b. ([], b)) or Prefix fixed.Tail => (λ p. p ops.Tail) or Const & AfterConst => λ x. x.1 x.0

unfoldable pub programs : Language StemTree
programs = record { body = Stem }

-- names and equations

unfoldable pub Name : Grammar Placed
Name = named => λ n. record { name = n.0; at = n.1 }

unfoldable pub Names : Grammar (List Placed)
Names = list_of (the fixed.Comma) Name

unfoldable pub Left : Grammar (List Placed)
Left = in_parens Names or Name => λ n. n ∷ []

unfoldable pub Equation : Grammar EquationTree
Equation = placed (Left & the fixed.Equals ⊳ Expr ⊲ the fixed.Semicolon) => λ x. record { lefts = x.1.0; right = x.1.1; at = x.0 }

-- types, rates and notes

unfoldable pub TypeName : Grammar Ty
TypeName = the fixed.Int means types.Int or the fixed.Bool means types.Bool

unfoldable pub Rate : Grammar RateTree
Rate = the fixed.Rate ⊳ in_parens (number & the fixed.Comma ⊳ Ratio) => λ x. record { period = small x.0; phase = x.1 }

unfoldable pub Due : Grammar ℕ
Due = the fixed.Due ⊳ number => small

unfoldable pub Note : Grammar NoteTree
Note =
    Due => (λ d. record { ty = None; rate = None; due = Some d })
    or Rate & maybe Due => (λ x. record { ty = None; rate = Some x.0; due = x.1 })
    or TypeName & maybe Rate & maybe Due => (λ x. record { ty = Some x.0; rate = x.1.0; due = x.1.1 })

-- parameters

unfoldable pub Item : Grammar ItemTree
Item = Name & maybe (the fixed.Colon ⊳ Note) => λ x. record { name = x.0; note = x.1 }

-- names with notes, and commas between: a note belongs to the names before it, up to the last note
unfoldable pub Run : Grammar (List Param)
Run = list_of (the fixed.Comma) Item => params_of

unfoldable pub Params : Grammar (List Param)
Params = list_of (the fixed.Semicolon) Run => joined

unfoldable pub EndedRun : Grammar (List Param)
EndedRun = Run ⊲ the fixed.Semicolon

unfoldable pub Locals : Grammar (List Param)
Locals = the fixed.Var ⊳ (EndedRun & many EndedRun) => (λ x. x.0 ++ joined x.1) or give []

-- ports

unfoldable pub PortGroup : Grammar (List Port)
PortGroup = Names & the fixed.Colon ⊳ TypeName => λ x. map (port_of x.1) x.0

unfoldable pub NextGroup : Grammar (List Port)
NextGroup = (the fixed.Comma or the fixed.Semicolon) ⊳ PortGroup

unfoldable pub Ports : Grammar (List Port)
Ports = PortGroup & many NextGroup => λ x. x.0 ++ joined x.1

-- declarations

unfoldable pub Wcet : Grammar ℕ
Wcet = the fixed.Wcet ⊳ number ⊲ the fixed.Semicolon => small

unfoldable pub Import : Grammar ImportTree
Import = the fixed.Imported ⊳ the fixed.Node ⊳ named & maybe_in_parens [] Ports & the fixed.Returns ⊳ in_parens Ports & Wcet =>
    λ x. record { name = x.0.0; ins = x.1.0; outs = x.1.1.0; wcet = x.1.1.1; at = x.0.1 }

unfoldable pub Device : Fixed → Grammar DeviceTree
Device f = the f ⊳ named & Wcet => λ x. record { name = x.0.0; wcet = x.1; at = x.0.1 }

unfoldable pub Node : Grammar NodeTree
Node =
    the fixed.Node ⊳ named & maybe_in_parens [] Params & the fixed.Returns ⊳ in_parens Params & Locals
    & the fixed.Let ⊳ many Equation ⊲ the fixed.Tel ⊲ maybe (the fixed.Semicolon) =>
    λ x. record { name = x.0.0; ins = x.1.0; outs = x.1.1.0; locals = x.1.1.1.0; eqs = x.1.1.1.1; at = x.0.1 }

unfoldable pub Declaration : Grammar Declared
Declaration = Import => imported or Device fixed.Sensor => sensor or Device fixed.Actuator => actuator or Node => node

unfoldable pub Program : Grammar ProgramTree
Program = many Declaration => program_of

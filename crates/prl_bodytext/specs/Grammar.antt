-- The grammar of bodies. Its productions have the names of docs/formats.md, the parts before the whole.
use Rattle.std.specs.Prelude.{true, false, List}
use Rattle.prl_base.specs.declared.places.Span.{Span}
use Rattle.prl_base.specs.declared.values.Value.{Value}
use Rattle.prl_base.specs.declared.values.Value.TheVariants as values
use Rattle.prl_base.specs.declared.body_operators.Operator.{Operator}
use Rattle.prl_base.specs.declared.body_operators.Operator.TheVariants as operators
use Rattle.prl_base.specs.declared.body_operators.Prefix.{Prefix}
use Rattle.prl_base.specs.declared.body_operators.Prefix.TheVariants as prefixes
use Rattle.prl_body.specs.declared.texts.RegisterText.{RegisterText}
use Rattle.prl_body.specs.Texts.{Tree, constant, name, choice, StatementTree, TextTree}
use Rattle.prl_lex.specs.Numbers.{positive, negative}
use Rattle.prl_lex.specs.Productions.{Grammar as GrammarIn, many, inner}
use Rattle.prl_lex.specs.Combinators.{◌=>◌, ◌means◌, ◌or◌, ◌&◌, ◌⊳◌, ◌⊲◌, maybe, place, named, number}
use Rattle.prl_lex.specs.Language.{Language}
use Rattle.prl_bodytext.specs.declared.levels.Level.{Level}
use Rattle.prl_bodytext.specs.declared.levels.Level.TheVariants as levels
use Rattle.prl_bodytext.specs.declared.words.Fixed.{Fixed}
use Rattle.prl_bodytext.specs.declared.words.Fixed.TheVariants as fixed
use Rattle.prl_bodytext.specs.Words.{class_of}
use Rattle.prl_bodytext.specs.Trees.{Sign, OperatorAndRight, in_series, compared, prefixed}

-- a grammar, in which parentheses hold trees
abbrev pub Grammar : Type 0 → Type 1
Grammar = GrammarIn Tree

-- a keyword or a symbol
abbrev pub the : Fixed → Grammar Span
the f = place (class_of f)

unfoldable pub Constant : Grammar Value
Constant =
    the fixed.True means values.Bool true
    or the fixed.False means values.Bool false
    or the fixed.Minus ⊳ number => negative
    or number => positive

-- operators, by how strongly they bind

abbrev pub sign : Fixed → Operator → Grammar Sign
sign f operator = the f => λ at. (operator, at)

unfoldable pub Operators : Level → Grammar Sign
Operators levels.Disjunction = sign fixed.Or operators.Or or sign fixed.Xor operators.Xor
Operators levels.Conjunction = sign fixed.And operators.And
Operators levels.Comparison =
    sign fixed.Equals operators.Equal
    or sign fixed.Unequal operators.Unequal
    or sign fixed.Less operators.Less
    or sign fixed.AtMost operators.AtMost
    or sign fixed.Greater operators.Greater
    or sign fixed.AtLeast operators.AtLeast
Operators levels.Sum = sign fixed.Plus operators.Plus or sign fixed.Minus operators.Minus
Operators levels.Product = sign fixed.Star operators.Times or sign fixed.Slash operators.Over or sign fixed.Percent operators.Modulo

unfoldable pub RightOf : Level → Grammar Tree → Grammar OperatorAndRight
RightOf level operand = Operators level & operand

-- operands with operators of the level between, from left to right
unfoldable pub SeriesOf : Level → Grammar Tree → Grammar Tree
SeriesOf level operand = operand & many (RightOf level operand) => λ x. in_series x.0 x.1

-- two operands with an operator of the level between, or one
unfoldable pub PairOf : Level → Grammar Tree → Grammar Tree
PairOf level operand = operand & maybe (RightOf level operand) => λ x. compared x.0 x.1

-- a prefix so many times, and its operand
unfoldable pub RunOf : Fixed → Prefix → Grammar Tree → Grammar Tree
RunOf f prefix operand = many (the f) & operand => λ x. prefixed prefix x.0 x.1

-- expressions

-- in parentheses an expression is the expression
unfoldable pub Enclosed : Grammar Tree
Enclosed = the fixed.Open ⊳ inner ⊲ the fixed.Close

unfoldable pub Conditional : Grammar Tree
Conditional = the fixed.If & the fixed.Open ⊳ inner & the fixed.Comma ⊳ inner & the fixed.Comma ⊳ inner ⊲ the fixed.Close => λ x. choice x.0 x.1.0 x.1.1.0 x.1.1.1

unfoldable pub Primary : Grammar Tree
Primary =
    number => (λ n. constant (positive n))
    or the fixed.True means constant (values.Bool true)
    or the fixed.False means constant (values.Bool false)
    or named => (λ n. name n.0 n.1)
    or Enclosed
    or Conditional

unfoldable pub Unary : Grammar Tree
Unary = RunOf fixed.Minus prefixes.Negated Primary

unfoldable pub Product : Grammar Tree
Product = SeriesOf levels.Product Unary

unfoldable pub Sum : Grammar Tree
Sum = SeriesOf levels.Sum Product

unfoldable pub Comparison : Grammar Tree
Comparison = PairOf levels.Comparison Sum

unfoldable pub Negation : Grammar Tree
Negation = RunOf fixed.Not prefixes.Not Comparison

unfoldable pub Conjunction : Grammar Tree
Conjunction = SeriesOf levels.Conjunction Negation

unfoldable pub Expression : Grammar Tree
Expression = SeriesOf levels.Disjunction Conjunction

-- what operators of a level stand between
unfoldable pub Operand : Level → Grammar Tree
Operand levels.Disjunction = Conjunction
Operand levels.Conjunction = Negation
Operand levels.Comparison = Sum
Operand levels.Sum = Product
Operand levels.Product = Unary

unfoldable pub bodies : Language Tree
bodies = record { body = Expression }

-- registers, statements and bodies

unfoldable pub Register : Grammar RegisterText
Register = the fixed.Reg ⊳ named & the fixed.Equals ⊳ Constant ⊲ the fixed.Semicolon => λ x. record { name = x.0.0; first = x.1; at = x.0.1 }

unfoldable pub StatementLine : Grammar StatementTree
StatementLine = named & the fixed.Equals ⊳ inner ⊲ the fixed.Semicolon => λ x. record { left = x.0.0; right = x.1; at = x.0.1 }

unfoldable pub Body : Grammar TextTree
Body = the fixed.Body ⊳ named & the fixed.Begin ⊳ many Register & many StatementLine ⊲ the fixed.End => λ x. record { name = x.0.0; at = x.0.1; registers = x.1.0; statements = x.1.1 }

unfoldable pub Bodies : Grammar (List TextTree)
Bodies = many Body

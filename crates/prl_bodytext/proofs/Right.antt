-- One token of look-ahead decides in bodies: the test computes.
use Rattle.prl_base.proofs.Standard.{map, ◌≡◌, ◌<◌, ◌≤◌, List, length, Ok, refl, map-id}
use Rattle.prl_base.specs.declared.places.Span.{Span}
use Rattle.prl_body.specs.Texts.{Tree}
use Rattle.prl_body.specs.declared.texts.RegisterText.{RegisterText}
use Rattle.prl_lex.specs.Vocabulary.{Lexeme, ◌⊳◌, Grammar, many, placed, inner, inner_of, read_at, IsApart, shape}
use Rattle.prl_lex.proofs.Loops.{Steps, steps}
use Rattle.prl_lex.proofs.Nesting.{IsRight, text_fewer, text_left}
use Rattle.prl_bodytext.specs.Trees.{Sign}
use Rattle.prl_bodytext.specs.declared.levels.Level.{Level}
use Rattle.prl_bodytext.specs.declared.levels.Level.TheVariants as levels
use Rattle.prl_bodytext.specs.declared.words.Fixed.{Fixed}
use Rattle.prl_bodytext.specs.Grammar.{the, Constant, Operators, RightOf, SeriesOf, PairOf, RunOf, Enclosed, Conditional, Primary, Unary, Product, Sum, Comparison, Negation, Conjunction, Expression, Operand, bodies, Register, StatementLine, Body, Bodies}

pub right : IsRight bodies
unfolding bodies Expression Conjunction Negation Comparison Sum Product Unary RunOf PairOf SeriesOf RightOf Operators Primary Enclosed Conditional
right = record { apart = refl; guarded = refl; founded = refl; nullable = refl; first = refl; more = refl }

pub bodies_apart : IsApart (inner_of bodies) Bodies
unfolding Bodies Body StatementLine Register Constant bodies Expression Conjunction Negation Comparison Sum Product Unary RunOf PairOf SeriesOf RightOf Operators Primary Enclosed Conditional
bodies_apart = refl

-- what loops and calls need

pub register_loop : IsApart (inner_of bodies) (many Register)
unfolding Register Constant
register_loop = refl

pub statement_loop : IsApart (inner_of bodies) (many StatementLine)
unfolding StatementLine bodies Expression Conjunction Negation Comparison Sum Product Unary RunOf PairOf SeriesOf RightOf Operators Primary Enclosed Conditional
statement_loop = refl

pub body_loop : IsApart (inner_of bodies) (many Body)
unfolding Bodies
body_loop = bodies_apart

abbrev Loop : {A : Type 0} → Grammar Tree A → Type 0
Loop g = Steps (shape (inner_of bodies) g).first (read_at bodies g)

pub loop_steps : {A : Type 0} (g : Grammar Tree A) → IsApart (inner_of bodies) (many g) → Loop g
loop_steps g loop = steps right g loop

pub prefix_steps : (f : Fixed) → Loop (the f)
prefix_steps f = loop_steps (the f) refl

abbrev Decides : {A : Type 0} → Grammar Tree A → Type 0
Decides = IsApart (inner_of bodies)

level_apart : (level : Level) → Decides (many (RightOf level (Operand level))) × Decides (placed (Operators level)) × Decides (placed (Operand level))
unfolding Operand bodies Expression Conjunction Negation Comparison Sum Product Unary RunOf PairOf SeriesOf RightOf Operators Primary Enclosed Conditional
level_apart levels.Disjunction = (refl, refl, refl)
level_apart levels.Conjunction = (refl, refl, refl)
level_apart levels.Comparison = (refl, refl, refl)
level_apart levels.Sum = (refl, refl, refl)
level_apart levels.Product = (refl, refl, refl)

pub pair_steps : (level : Level) → Loop (RightOf level (Operand level))
pair_steps level = loop_steps (RightOf level (Operand level)) (level_apart level).0

pub operator_fewer : (level : Level) (ts : List Lexeme) (s : Sign) (rest : List Lexeme) → read_at bodies (Operators level) ts ≡ Ok (s, rest) → length rest < length ts
operator_fewer level = text_fewer bodies right (Operators level) (level_apart level).1

pub operand_fewer : (level : Level) (ts : List Lexeme) (t : Tree) (rest : List Lexeme) → read_at bodies (Operand level) ts ≡ Ok (t, rest) → length rest < length ts
operand_fewer level = text_fewer bodies right (Operand level) (level_apart level).2

pub token_fewer : (f : Fixed) (ts : List Lexeme) (p : Span) (rest : List Lexeme) → read_at bodies (the f) ts ≡ Ok (p, rest) → length rest < length ts
token_fewer f = text_fewer bodies right (the f) refl

pub after_fewer : (f : Fixed) (ts : List Lexeme) (t : Tree) (rest : List Lexeme) → read_at bodies (the f ⊳ inner) ts ≡ Ok (t, rest) → length rest < length ts
unfolding bodies Expression Conjunction Negation Comparison Sum Product Unary RunOf PairOf SeriesOf RightOf Operators Primary Enclosed Conditional
after_fewer f = text_fewer bodies right (the f ⊳ inner) refl

pub run_left : (f : Fixed) (ts : List Lexeme) (ats : List Span) (rest : List Lexeme) → read_at bodies (many (the f)) ts ≡ Ok (ats, rest) → length rest ≤ length ts
run_left f = text_left bodies right (many (the f)) refl

pub registers_seen : (rs : List RegisterText) → map (λ r. r) rs ≡ rs
registers_seen = map-id

-- A stem is read link by link.
use Rattle.std.specs.Prelude.{List, [], ◌++◌, Ok}
use Rattle.prl_base.specs.Reading.{◌>>=◌ as ◌then_read◌}
use Rattle.prl_base.specs.declared.values.Value.{Value}
use Rattle.prl_base.specs.declared.operators.Op.TheVariants as ops
use Rattle.prl_ast.specs.declared.expressions.PlacedOp.{PlacedOp}
use Rattle.prl_ast.specs.Trees.{Root, const, root_of}
use Rattle.prl_lex.specs.Lexemes.{Lexeme}
use Rattle.prl_lex.specs.code.Readers.{Read}
use Rattle.prl_lex.specs.Productions.{give}
use Rattle.prl_lex.specs.Combinators.{◌=>◌, ◌or◌, ◌&◌}
use Rattle.prl_lex.specs.code.Languages.{read_nested}
use Rattle.prl_syntax.specs.declared.words.Fixed.TheVariants as fixed
use Rattle.prl_syntax.specs.declared.expressions.Link.{Link}
use Rattle.prl_syntax.specs.declared.expressions.Link.TheVariants as links
use Rattle.prl_syntax.specs.Grammar.{Grammar, the, Const, Base, programs}
use Rattle.prl_syntax.specs.Trees.{StemTree, prefixed}

-- a prefix, or what the prefixes are applied to
pub data Step : Type 0 where
  prefix : PlacedOp → Step
  last : Root → Step

abbrev pub link_view : Link → Step
link_view (links.Prefix op) = prefix op
link_view (links.Base base) = last (root_of base)

-- what stands after a constant
unfoldable pub AfterLink : Grammar (Value → Step)
AfterLink =
    the fixed.Fby => (λ p c. prefix (record { op = ops.Fby c; at = p }))
    or the fixed.Cons => (λ p c. prefix (record { op = ops.Cons c; at = p }))
    or give (λ c. last (const c))

unfoldable pub ConstantLink : Grammar Step
ConstantLink = Const & AfterLink => λ x. x.1 x.0

unfoldable pub NextLink : Grammar Step
NextLink = Base => last or the fixed.Tail => (λ p. prefix (record { op = ops.Tail; at = p })) or ConstantLink

-- prefixes that were read before
abbrev pub with_prefixes : List PlacedOp → Read StemTree → Read StemTree
with_prefixes front read = read then_read (λ s. Ok ((front ++ s.0.0, s.0.1), s.1))

-- what comes after a link
abbrev pub after_step : Step → List Lexeme → Read StemTree
after_step (prefix op) ts = (read_nested programs ts) then_read (λ s. Ok (prefixed op s.0, s.1))
after_step (last root) ts = Ok (([], root), ts)

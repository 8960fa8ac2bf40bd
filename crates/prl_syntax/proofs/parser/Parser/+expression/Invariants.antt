use Rattle.std.proofs.Common.{◌≡◌, ◌≤◌, ◌+◌, ◌*◌, length, map}
use Rattle.prl_ast.specs.Trees.{tree_of}
use Rattle.prl_lex.specs.Vocabulary.{read_at, read_nested, many, ◌⊳◌, with_front}
use Rattle.prl_syntax.specs.declared.words.Fixed.TheVariants as fixed
use Rattle.prl_syntax.specs.Vocabulary.{with_prefixes, the, Expr, programs}
use Rattle.prl_syntax.proofs.parser.Parser.+expression.Given as goal

abbrev pub decreases-base : goal.decreases-base
decreases-base l = 8 * length l.self.now + 1

abbrev pub decreases-arguments : goal.decreases-arguments
decreases-arguments l = 8 * length l.self.now + 6

abbrev pub decreases-stem : goal.decreases-stem
decreases-stem l = 8 * length l.self.now + 3

abbrev pub decreases-closed_exprs : goal.decreases-closed_exprs
decreases-closed_exprs l = 8 * length l.self.now + 5

abbrev pub decreases-comma_expr : goal.decreases-comma_expr
decreases-comma_expr l = 8 * length l.self.now + 1

abbrev pub decreases-expr : goal.decreases-expr
decreases-expr l = 8 * length l.self.now + 4

abbrev pub decreases-more_exprs : goal.decreases-more_exprs
decreases-more_exprs l = 8 * length l.self.now + 2

abbrev pub decreases-read_link : goal.decreases-read_link
decreases-read_link l = 8 * length l.self.now + 2

abbrev pub invariant-stem-each : goal.invariant-stem-each
invariant-stem-each l = record {
  exact : with_prefixes l.prefixes.items (read_nested programs l.self) ≡ with_prefixes l.fn.front.items (read_nested programs l.fn.self);
  shorter : length l.self ≤ length l.fn.self;
}

abbrev pub decreases-stem-each : goal.decreases-stem-each
decreases-stem-each l = length l.self

abbrev pub invariant-more_exprs-more : goal.invariant-more_exprs-more
invariant-more_exprs-more l = record {
  exact : with_front (map tree_of l.exprs.items) (read_at programs (many (the fixed.Comma ⊳ Expr)) l.self) ≡ with_front (map tree_of l.fn.front.items) (read_at programs (many (the fixed.Comma ⊳ Expr)) l.fn.self);
  shorter : length l.self ≤ length l.fn.self;
}

abbrev pub decreases-more_exprs-more : goal.decreases-more_exprs-more
decreases-more_exprs-more l = length l.self

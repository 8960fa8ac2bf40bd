use Rattle.std.proofs.Common.{◌≡◌, length}
use Rattle.prl_lex.specs.Vocabulary.{read_at, many, ◌⊳◌, with_front}
use Rattle.prl_syntax.specs.declared.words.Fixed.TheVariants as fixed
use Rattle.prl_syntax.specs.Grammar.{the, Item, programs}
use Rattle.prl_syntax.proofs.parser.Parser.more_items.Given as goal

abbrev pub invariant-more : goal.invariant-more
invariant-more l = with_front l.items.items (read_at programs (many (the fixed.Comma ⊳ Item)) l.self) ≡ with_front l.fn.front.items (read_at programs (many (the fixed.Comma ⊳ Item)) l.fn.self)

abbrev pub decreases-more : goal.decreases-more
decreases-more l = length l.self

use Rattle.std.proofs.Common.{◌≡◌, length}
use Rattle.prl_lex.specs.Vocabulary.{read_at, many, ◌⊳◌}
use Rattle.prl_syntax.specs.declared.words.Fixed.TheVariants as fixed
use Rattle.prl_syntax.specs.Vocabulary.{the, Run, programs, with_joined}
use Rattle.prl_syntax.proofs.parser.Parser.more_runs.Given as goal

abbrev pub invariant-more : goal.invariant-more
invariant-more l = with_joined l.params.items (read_at programs (many (the fixed.Semicolon ⊳ Run)) l.self) ≡ with_joined l.fn.front.items (read_at programs (many (the fixed.Semicolon ⊳ Run)) l.fn.self)

abbrev pub decreases-more : goal.decreases-more
decreases-more l = length l.self

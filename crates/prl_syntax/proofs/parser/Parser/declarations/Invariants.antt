use Rattle.std.proofs.Common.{length, map}
use Rattle.prl_syntax.specs.Vocabulary.{declared_view, Declaration, programs}
use Rattle.prl_lex.specs.code.Loops.{GoesOn}
use Rattle.prl_syntax.proofs.parser.Parser.declarations.Given as goal

abbrev pub invariant-more : goal.invariant-more
invariant-more l = GoesOn programs Declaration l.fn.self (map declared_view l.declarations.items) l.self

abbrev pub decreases-more : goal.decreases-more
decreases-more l = length l.self

use Rattle.std.proofs.Common.{length}
use Rattle.prl_lex.specs.code.Loops.{GoesOn}
use Rattle.prl_syntax.specs.Grammar.{Postfix, programs}
use Rattle.prl_syntax.proofs.parser.Parser.postfixes.Given as goal

abbrev pub invariant-more : goal.invariant-more
invariant-more l = GoesOn programs Postfix l.fn.self (l.ops.items) l.self

abbrev pub decreases-more : goal.decreases-more
decreases-more l = length l.self

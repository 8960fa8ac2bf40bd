use Rattle.std.proofs.Common.{length}
use Rattle.prl_lex.specs.code.Loops.{GoesOn}
use Rattle.prl_bodytext.specs.Grammar.{the, bodies}
use Rattle.prl_bodytext.proofs.parser.Parser.prefixes.Given as goal

abbrev pub invariant-more : goal.invariant-more
invariant-more l = GoesOn bodies (the l.fn.fixed) l.fn.self l.ats.items l.self

abbrev pub decreases-more : goal.decreases-more
decreases-more l = length l.self

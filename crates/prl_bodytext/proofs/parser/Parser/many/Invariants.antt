use Rattle.std.proofs.Common.{length, map}
use Rattle.prl_lex.specs.code.Loops.{GoesOn}
use Rattle.prl_bodytext.specs.Grammar.{bodies}
use Rattle.prl_bodytext.proofs.parser.Parser.many.Given as goal

abbrev pub invariant-more : goal.invariant-more
invariant-more g l = GoesOn bodies g.T.Item.grammar l.fn.self (map g.T.Item.seen l.items.items) l.self

abbrev pub decreases-more : goal.decreases-more
decreases-more g l = length l.self

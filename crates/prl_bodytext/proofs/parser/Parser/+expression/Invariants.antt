use Rattle.std.proofs.Common.{◌≤◌, ◌+◌, ◌*◌, length, map}
use Rattle.prl_lex.specs.code.Loops.{GoesOn}
use Rattle.prl_bodytext.specs.Grammar.{RightOf, Operand, bodies}
use Rattle.prl_bodytext.specs.Trees.{pair_view}
use Rattle.prl_bodytext.proofs.Calls.{calls_of}
use Rattle.prl_bodytext.proofs.parser.Parser.+expression.Given as goal

abbrev pub decreases-enclosed : goal.decreases-enclosed
decreases-enclosed l = 32 * length l.self.now

abbrev pub decreases-conditional : goal.decreases-conditional
decreases-conditional l = 32 * length l.self.now

abbrev pub decreases-boxed_after : goal.decreases-boxed_after
decreases-boxed_after l = 32 * length l.self.now

abbrev pub decreases-closing : goal.decreases-closing
decreases-closing l = 32 * length l.self.now + 1

abbrev pub decreases-pair : goal.decreases-pair
decreases-pair l = 32 * length l.self.now

abbrev pub decreases-rights : goal.decreases-rights
decreases-rights l = 32 * length l.self.now + 1

abbrev pub decreases-primary : goal.decreases-primary
decreases-primary l = 32 * length l.self.now + 2

abbrev pub decreases-unary : goal.decreases-unary
decreases-unary l = 32 * length l.self.now + 3

abbrev pub decreases-operand : goal.decreases-operand
decreases-operand l = 32 * length l.self.now + calls_of l.level

abbrev pub decreases-series : goal.decreases-series
decreases-series l = 32 * length l.self.now + (calls_of l.level + 1)

abbrev pub decreases-comparison : goal.decreases-comparison
decreases-comparison l = 32 * length l.self.now + 10

abbrev pub decreases-negation : goal.decreases-negation
decreases-negation l = 32 * length l.self.now + 11

abbrev pub decreases-expression : goal.decreases-expression
decreases-expression l = 32 * length l.self.now + 16

abbrev pub invariant-rights-more : goal.invariant-rights-more
invariant-rights-more l = record {
  exact : GoesOn bodies (RightOf l.fn.level (Operand l.fn.level)) l.fn.self (map pair_view l.rights.items) l.self;
  shorter : length l.self ≤ length l.fn.self;
}

abbrev pub decreases-rights-more : goal.decreases-rights-more
decreases-rights-more l = length l.self

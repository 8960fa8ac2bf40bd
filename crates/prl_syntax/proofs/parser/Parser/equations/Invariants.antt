use Rattle.std.proofs.Common.{length, map}
use Rattle.prl_ast.specs.Trees.{equation_tree}
use Rattle.prl_lex.specs.code.Loops.{GoesOn}
use Rattle.prl_syntax.specs.Grammar.{Equation, programs}
use Rattle.prl_syntax.proofs.parser.Parser.equations.Given as goal

abbrev pub invariant-more : goal.invariant-more
invariant-more l = GoesOn programs Equation l.fn.self (map equation_tree l.equations.items) l.self

abbrev pub decreases-more : goal.decreases-more
decreases-more l = length l.self

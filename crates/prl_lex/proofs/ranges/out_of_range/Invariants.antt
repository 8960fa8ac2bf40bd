use Rattle.std.proofs.Common.{◌≡◌, drop, false}
use Rattle.prl_lex.specs.Ranges.{out_of_range}
use Rattle.prl_lex.proofs.ranges.out_of_range.Given as goal

abbrev pub invariant-each : goal.invariant-each
invariant-each g l = out_of_range g.S.Syntax.texts.ranges l.inside l.last (drop l.terminal-index l.terminals) ≡ out_of_range g.S.Syntax.texts.ranges false 0 l.terminals

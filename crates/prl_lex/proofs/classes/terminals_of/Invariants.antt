use Rattle.std.proofs.Common.{◌≡◌, take}
use Rattle.prl_lex.specs.Classes.{lexemes_of}
use Rattle.prl_lex.proofs.classes.terminals_of.Given as goal

abbrev pub invariant-each : goal.invariant-each
invariant-each g l = l.terminals.items ≡ lexemes_of g.S.Syntax.texts.vocabulary l.text (take l.token-index l.tokens)

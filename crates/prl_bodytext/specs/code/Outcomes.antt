-- What is told of a text that has no bodies.
use Rattle.prl_body.specs.declared.faults.BodyFault.{BodyFault}
use Rattle.prl_body.specs.declared.faults.BodyFault.TheVariants as faults
use Rattle.prl_lex.specs.declared.tokens.LexFault.TheVariants as lexical
use Rattle.prl_lex.specs.declared.texts.TextFault.{TextFault}
use Rattle.prl_lex.specs.declared.texts.TextFault.TheVariants as texts

abbrev pub of_text : TextFault → BodyFault
of_text (texts.Lexical (lexical.BadToken at)) = faults.Syntax at
of_text (texts.Lexical (lexical.NumberRange at)) = faults.Syntax at
of_text (texts.Lexical (lexical.Limit limit)) = faults.Limit limit
of_text (texts.Lexical lexical.Memory) = faults.Memory
of_text (texts.Unexpected at) = faults.Syntax at
of_text (texts.NumberRange at) = faults.Syntax at
of_text texts.Memory = faults.Memory

-- The program of a tree, and what is told of a text that has none.
use Rattle.std.specs.Prelude.{◌+◌, nat_le, length, Result, Ok, Err, if◌then◌else◌}
use Rattle.prl_base.specs.declared.limits.What.TheVariants as limits
use Rattle.prl_ast.specs.Trees.{ProgramTree}
use Rattle.prl_lex.specs.declared.tokens.LexFault.TheVariants as lexical
use Rattle.prl_lex.specs.declared.texts.TextFault.{TextFault}
use Rattle.prl_lex.specs.declared.texts.TextFault.TheVariants as texts
use Rattle.prl_syntax.specs.declared.parsing.TheConstants.{MAX_NODES}
use Rattle.prl_syntax.specs.declared.parsing.ParseFault.{ParseFault}
use Rattle.prl_syntax.specs.declared.parsing.ParseFault.TheVariants as faults

abbrev pub of_text : TextFault → ParseFault
of_text (texts.Lexical (lexical.BadToken at)) = faults.BadToken at
of_text (texts.Lexical (lexical.NumberRange at)) = faults.NumberRange at
of_text (texts.Lexical (lexical.Limit limit)) = faults.Limit limit
of_text (texts.Lexical lexical.Memory) = faults.Memory
of_text (texts.Unexpected at) = faults.Unexpected at
of_text (texts.NumberRange at) = faults.NumberRange at
of_text texts.Memory = faults.Memory

-- not too many nodes
abbrev pub limited : ProgramTree → Result ProgramTree ParseFault
limited tree = if nat_le (length tree.nodes) MAX_NODES then Ok tree else Err (faults.Limit (record { what = limits.Nodes; found = MAX_NODES + 1 }))

-- what comes of the tree of a text, or of its first fault
abbrev pub outcome_of : Result ProgramTree TextFault → Result ProgramTree ParseFault
outcome_of (Ok tree) = limited tree
outcome_of (Err fault) = Err (of_text fault)

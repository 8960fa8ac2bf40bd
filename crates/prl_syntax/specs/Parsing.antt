-- The program that a text is, or its first fault.
use Rattle.std.specs.Prelude.{◌≡◌, ◌<◌, ◌≤◌, ◌⊎◌, ◌+◌, ℕ, List, length, Result, Ok, Err}
use Rattle.prl_base.specs.declared.limits.Limit.{Limit}
use Rattle.prl_base.specs.declared.limits.What.TheVariants as limits
use Rattle.prl_ast.specs.Trees.{ProgramTree}
use Rattle.prl_lex.specs.declared.tokens.LexFault.TheVariants as lexical
use Rattle.prl_lex.specs.Lexing.{tokens_of}
use Rattle.prl_lex.specs.Texts.{Texts, IsTextOf, IsUnexpectedAt, IsOutOfRangeAt}
use Rattle.prl_syntax.specs.declared.parsing.TheConstants.{MAX_NODES}
use Rattle.prl_syntax.specs.declared.parsing.ParseFault.{ParseFault}
use Rattle.prl_syntax.specs.declared.parsing.ParseFault.TheVariants as faults
use Rattle.prl_syntax.specs.Grammar.{Program, programs}
use Rattle.prl_syntax.specs.Ranges.{program_ranges}
use Rattle.prl_syntax.specs.Trees.{StemTree}
use Rattle.prl_syntax.specs.Words.{program_vocabulary}

abbrev pub program_texts : Texts StemTree ProgramTree
program_texts = record { vocabulary = program_vocabulary; ranges = program_ranges; language = programs; whole = Program }

-- The text is the program: it has this tree, and not too many nodes.
pub record IsProgramOf (text : List ℕ) (tree : ProgramTree) : Type 0 where
  pub read : IsTextOf program_texts text tree
  pub nodes : length tree.nodes ≤ MAX_NODES

-- The text has a tree with too many nodes.
pub record HasTooManyNodes (text : List ℕ) (limit : Limit) : Type 0 where
  pub tree : ProgramTree
  pub read : IsTextOf program_texts text tree
  pub many : MAX_NODES < length tree.nodes
  pub is : limit ≡ record { what = limits.Nodes; found = MAX_NODES + 1 }

-- what each fault means for the text: it is one of its tokens, or one of the grammar, a range or the limit of nodes. Want of
-- memory is none.
abbrev pub Explains : List ℕ → ParseFault → Type 0
Explains text (faults.BadToken at) = tokens_of text ≡ Err (lexical.BadToken at)
Explains text (faults.Unexpected at) = IsUnexpectedAt program_texts text at
Explains text (faults.NumberRange at) = (tokens_of text ≡ Err (lexical.NumberRange at)) ⊎ IsOutOfRangeAt program_texts text at
Explains text (faults.Limit limit) = (tokens_of text ≡ Err (lexical.Limit limit)) ⊎ HasTooManyNodes text limit
Explains text faults.Memory = ⊥

-- what comes of a text: its program, or its first fault
abbrev pub IsParsed : List ℕ → Result ProgramTree ParseFault → Type 0
IsParsed text (Ok tree) = IsProgramOf text tree
IsParsed text (Err fault) = Explains text fault

-- The words of this crate that clauses and proofs use, from one place.
pub use Rattle.prl_syntax.specs.Grammar.{Grammar, in_parens, maybe_in_parens, the}
unfoldable pub use Rattle.prl_syntax.specs.Grammar.{AfterConst, Base, Const, Declaration, Device}
unfoldable pub use Rattle.prl_syntax.specs.Grammar.{Due, EndedRun, Equation, Expr, Exprs, Import}
unfoldable pub use Rattle.prl_syntax.specs.Grammar.{Item, Left, Locals, Name, Names, NextGroup}
unfoldable pub use Rattle.prl_syntax.specs.Grammar.{Node, Note, Params, PortGroup, Ports, Postfix}
unfoldable pub use Rattle.prl_syntax.specs.Grammar.{Prefix, Program, Rate, Ratio, Run, Stem}
unfoldable pub use Rattle.prl_syntax.specs.Grammar.{TypeName, Wcet, programs}
pub use Rattle.prl_syntax.specs.Parsing.{Explains, IsParsed, IsProgramOf, program_texts}
pub use Rattle.prl_syntax.specs.Ranges.{in_range, is_count, program_ranges}
pub use Rattle.prl_syntax.specs.Trees.{Declared, StemTree, actuator, first_note, imported, joined}
pub use Rattle.prl_syntax.specs.Trees.{note_or, param_of, params_of, port_of, prefixed, program_of}
pub use Rattle.prl_syntax.specs.Trees.{root_of_name, sensor, trees_from, with_declared}
pub use Rattle.prl_syntax.specs.Values.{ratio_of, ratio_with, small}
pub use Rattle.prl_syntax.specs.Words.{class_of, keyword_of, program_vocabulary, symbol_of}
pub use Rattle.prl_syntax.specs.code.Links.{Step, after_step, last, link_view, with_prefixes}
unfoldable pub use Rattle.prl_syntax.specs.code.Links.{AfterLink, ConstantLink, NextLink}
pub use Rattle.prl_syntax.specs.code.Loops.{with_joined}
pub use Rattle.prl_syntax.specs.code.Nodes.{declarations_view, followed_by}
unfoldable pub use Rattle.prl_syntax.specs.code.Nodes.{declared_view}
pub use Rattle.prl_syntax.specs.code.Outcomes.{limited, of_text, outcome_of}
pub use Rattle.prl_syntax.specs.declared.expressions.Link.{Link}
pub use Rattle.prl_syntax.specs.declared.parsing.ParseFault.{ParseFault}
pub use Rattle.prl_syntax.specs.declared.words.Fixed.{Fixed}

-- The words of this crate that clauses and proofs use, from one place.
pub use Rattle.prl_lex.specs.Classes.{class_in, kind_lexeme, lexeme_of, lexemes_of, symbol_class}
pub use Rattle.prl_lex.specs.Classes.{word_lexeme}
pub use Rattle.prl_lex.specs.Combinators.{list_of, maybe, named, number, place, ◌&◌, ◌=>◌, ◌⊲◌}
pub use Rattle.prl_lex.specs.Combinators.{◌⊳◌}
pub use Rattle.prl_lex.specs.FirstByte.{one_byte_symbol, symbol_by_bytes, token_by_first}
pub use Rattle.prl_lex.specs.Grammars.{One}
pub use Rattle.prl_lex.specs.Language.{Language, Text}
unfoldable pub use Rattle.prl_lex.specs.Language.{nested, within}
pub use Rattle.prl_lex.specs.Lexemes.{Lexeme, first_place}
pub use Rattle.prl_lex.specs.Lexing.{checked, depth_after, token_at}
pub use Rattle.prl_lex.specs.Lexing.{token_text, tokens_of, with_piece}
unfoldable pub use Rattle.prl_lex.specs.Lexing.{tokens_from}
pub use Rattle.prl_lex.specs.Numbers.{negative, positive}
pub use Rattle.prl_lex.specs.Productions.{Grammar, action, both, either, give, inner, many}
pub use Rattle.prl_lex.specs.Productions.{placed, token, written}
pub use Rattle.prl_lex.specs.Ranges.{Ranges, inside_after, is_fault}
unfoldable pub use Rattle.prl_lex.specs.Ranges.{out_of_range}
pub use Rattle.prl_lex.specs.Texts.{IsRead, IsTextOf, Texts}
pub use Rattle.prl_lex.specs.Tokens.{FitsPiece, begins, is_blank, is_number, is_one_byte_symbol}
pub use Rattle.prl_lex.specs.Tokens.{is_symbol, is_token, is_two_byte_symbol, kind_of, longest}
unfoldable pub use Rattle.prl_lex.specs.Tokens.{longest_up_to}
pub use Rattle.prl_lex.specs.Tokens.{piece_of, token_of_len}
pub use Rattle.prl_lex.specs.Whole.{IsFirstUnexpected, next_class}
pub use Rattle.prl_lex.specs.code.Languages.{inner_of, read_at}
unfoldable pub use Rattle.prl_lex.specs.code.Languages.{read_nested, read_within}
pub use Rattle.prl_lex.specs.code.LookAhead.{IsApart, disjoint, is_founded, is_guarded}
pub use Rattle.prl_lex.specs.code.Loops.{with_front}
pub use Rattle.prl_lex.specs.code.Readers.{Deep, Read, Stuck, choice, from_first, is_in}
pub use Rattle.prl_lex.specs.code.Readers.{many_at, next_in, one_at}
unfoldable pub use Rattle.prl_lex.specs.code.Readers.{many_up_to}
pub use Rattle.prl_lex.specs.code.Reads.{Begins, StopsBefore, either_shape, many_shape}
pub use Rattle.prl_lex.specs.code.Reads.{then_shape}
pub use Rattle.prl_lex.specs.code.Shapes.{read_with, shape}
pub use Rattle.prl_lex.specs.code.Stops.{stop_of}
pub use Rattle.prl_lex.specs.code.Texts.{of_stop, ranged}
unfoldable pub use Rattle.prl_lex.specs.code.Texts.{tree_of_text, tree_of_tokens}
pub use Rattle.prl_lex.specs.code.Whole.{all_at, ended, told}
pub use Rattle.prl_lex.specs.declared.pieces.Piece.{Piece}
pub use Rattle.prl_lex.specs.declared.reading.Stop.{Stop}
pub use Rattle.prl_lex.specs.declared.texts.TextFault.{TextFault}
pub use Rattle.prl_lex.specs.declared.tokens.Kind.{Kind}
pub use Rattle.prl_lex.specs.declared.tokens.LexFault.{LexFault}
pub use Rattle.prl_lex.specs.declared.tokens.Token.{Token}

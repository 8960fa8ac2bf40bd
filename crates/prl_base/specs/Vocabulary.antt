-- The words of this crate that clauses and proofs use, from one place.
pub use Rattle.prl_base.specs.Clocks.{IsClock, IsDate, date_at}
pub use Rattle.prl_base.specs.Decimals.{are_digits, decimal_of, integer_of, negative, positive}
pub use Rattle.prl_base.specs.Lines.{cut_line, is_line_feed, lines_of}
pub use Rattle.prl_base.specs.Names.{IsName, is_word, is_word_byte, is_word_start}
pub use Rattle.prl_base.specs.Operators.{IsOperatorFor, IsResultClock, Origin}
pub use Rattle.prl_base.specs.Operators.{constant, delays, instance, origin_of}
pub use Rattle.prl_base.specs.Operators.{preceding_number}
pub use Rattle.prl_base.specs.Ratios.{Fraction, IsSmallFraction}
pub use Rattle.prl_base.specs.Reading.{GivesBut, ◌>>=◌}
pub use Rattle.prl_base.specs.Reductions.{IsPast, IsReducedForm, IsReduction, signed}
pub use Rattle.prl_base.specs.Texts.{fraction_text, type_text, value_text}
pub use Rattle.prl_base.specs.Values.{FitsValue, IsOfType, type_of}
pub use Rattle.prl_base.specs.declared.operators.Op.{Op}
pub use Rattle.prl_base.specs.declared.ratios.Past.{Past}
pub use Rattle.prl_base.specs.declared.ratios.TheConstants.{MAX_PART}
pub use Rattle.prl_base.specs.declared.values.Value.{Value}

-- The words of this crate that clauses and proofs use, from one place.
pub use Rattle.prl_overlaps.specs.FirstClashes.{IsFirstClash}
pub use Rattle.prl_overlaps.specs.Overlaps.{AreApart, AreShort, Clash, Overlap}
pub use Rattle.prl_overlaps.specs.code.Spots.{Meet, Meets, spot_of}
pub use Rattle.prl_overlaps.specs.declared.entries.Entry.{Entry}
pub use Rattle.prl_tables.specs.CheckedTables.{CheckedView}
pub use Rattle.prl_tables.specs.Checks.{IsEarlier, IsFault, IsFirstDisorder, IsFirstNoPiece}
pub use Rattle.prl_tables.specs.Checks.{IsFirstNotWhole}
pub use Rattle.prl_tables.specs.TableTexts.{AreOrdered, FitsEntry, after_line, after_words}
pub use Rattle.prl_tables.specs.TableTexts.{comes_after, cut_number, entries_from, entries_of}
pub use Rattle.prl_tables.specs.TableTexts.{entry_if, entry_line, entry_of, entry_text, field}
pub use Rattle.prl_tables.specs.TableTexts.{is_blank, is_header, is_number, keeps_order, last_field}
pub use Rattle.prl_tables.specs.TableTexts.{next_entry, no_more, number_if, number_of, or_line}
pub use Rattle.prl_tables.specs.TableTexts.{tells_hyper, text_of}
pub use Rattle.prl_tables.specs.Tables.{ArePieces, AreWhole, IsGood, IsPiece, IsWhole, KeepsOrder}
pub use Rattle.prl_tables.specs.Tables.{classes, end_of, is_of, last_unit, units_of}
pub use Rattle.prl_tables.specs.Unrolled.{HaveActed, IsPlacing, Placing}
pub use Rattle.prl_tables.specs.code.Sums.{AreTaskSums, HasSums, IsBefore, no_sums, sums_of}
pub use Rattle.prl_tables.specs.code.Sums.{with_entry}
pub use Rattle.prl_tables.specs.declared.reading.TableFault.{TableFault}
pub use Rattle.prl_tables.specs.declared.sums.Sums.{Sums}

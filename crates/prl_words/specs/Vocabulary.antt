-- The words of this crate that clauses and proofs use, from one place.
pub use Rattle.prl_words.specs.Counts.{HaveCounts, IsCount, IsCountBefore}
pub use Rattle.prl_words.specs.GraphWords.{IsWordFault, constant_reads}
pub use Rattle.prl_words.specs.code.Holding.{IsHeld, IsLeading}
pub use Rattle.prl_words.specs.code.Shortest.{AreGaps, ClimbsBy, IsShortened, IsSteady, rise_of}
pub use Rattle.prl_words.specs.code.Steps.{AreBefore, AreZeros, FitsBefore, HasRoom, IsComposed}
pub use Rattle.prl_words.specs.code.Steps.{IsExtended, IsPast, IsSized, IsSoFar, IsStep}
pub use Rattle.prl_words.specs.code.Steps.{constants_of, number_before}
pub use Rattle.prl_words.specs.declared.graphs.WordFault.{WordFault}

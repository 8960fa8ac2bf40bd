-- The words of this crate that clauses and proofs use, from one place.
pub use Rattle.prl_evaluation.specs.Evaluations.{AreSolution}
pub use Rattle.prl_evaluation.specs.code.Dates.{AreAt, AreFull, IsFull, IsPart, IsRest, clocks_by}
pub use Rattle.prl_evaluation.specs.code.Dates.{place_after}
pub use Rattle.prl_evaluation.specs.code.Fronts.{CanGrow, HasGrown, IsPlain, IsReady, IsSet}
pub use Rattle.prl_evaluation.specs.code.Fronts.{IsThere, IsUnderWay, UnderWay, len, pushed}
pub use Rattle.prl_evaluation.specs.code.Runs.{HasStepped, HaveArguments, IsNew, IsRun, MayStep}
pub use Rattle.prl_evaluation.specs.code.Wholes.{AreWhole, IsFilling, IsGroup, Names, is_full}
pub use Rattle.prl_evaluation.specs.declared.runs.Run.{Run}
pub use Rattle.prl_evaluation.specs.declared.settings.Setting.{Setting}

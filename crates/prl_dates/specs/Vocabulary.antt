-- The words of this crate that clauses and proofs use, from one place.
pub use Rattle.prl_dates.specs.Faults.{EndsLoop, HasNarrowChain, IsDateFault}
pub use Rattle.prl_dates.specs.Faults.{IsLate, IsOfGraph, IsOfPeriod, IsSomehowLate}
pub use Rattle.prl_dates.specs.Faults.{NoneOfPeriod, jobs_of}
pub use Rattle.prl_dates.specs.code.Exits.{AreExits, AreExitsPart, IsExit, IsLinkInside, exit_at}
pub use Rattle.prl_dates.specs.code.Exits.{no_exit}
pub use Rattle.prl_dates.specs.code.Families.{AreBests, IsRound}
pub use Rattle.prl_dates.specs.code.Indices.{dates_of, index_of, jobs_before}
pub use Rattle.prl_dates.specs.code.Lanes.{AreEachLane, AreGreatest, AreLanes, AreLanesOf}
pub use Rattle.prl_dates.specs.code.Lanes.{IsGreatestBefore, IsJoined, IsLane, IsLink, IsLinkOf}
pub use Rattle.prl_dates.specs.code.Lanes.{Joins, JoinsAt, link_at, no_link}
pub use Rattle.prl_dates.specs.code.Leaps.{MayRepeat, RepeatsAlong, gain_of}
pub use Rattle.prl_dates.specs.code.Runs.{AreFitting, Rises}
pub use Rattle.prl_dates.specs.code.Spreads.{AreEndsAcross, AreRaisedAcross, AreSpreadEnds}
pub use Rattle.prl_dates.specs.code.Spreads.{HasCeiling, IsBelow, IsLeastAbove, IsRising, IsTableOf}
pub use Rattle.prl_dates.specs.code.Spreads.{IsTablePart, KeepsLanes, bound_of}
pub use Rattle.prl_dates.specs.code.Tables.{AreBelow, AreFinal, AreRaised, AreRound}
pub use Rattle.prl_dates.specs.code.Tables.{AreRounds, AreSettled, AreUnderWay, AreUpperDates}
pub use Rattle.prl_dates.specs.code.Tables.{AreWithin, IsFirstAbove, IsListed, ListsRisen}
pub use Rattle.prl_dates.specs.code.Tables.{AreLowered, HoldAll, HoldAt, HoldsAt, IsFirstTable, IsNowhereAbove, LeaveAll}
pub use Rattle.prl_dates.specs.code.Tables.{Leaves, Meets, first_of}
pub use Rattle.prl_dates.specs.code.Turns.{IsTurnUnder, StepsBy}
pub use Rattle.prl_dates.specs.code.Windows.{AreWindows, AreWindowsOf, window_of}
pub use Rattle.prl_dates.specs.declared.bests.First.{First}
pub use Rattle.prl_dates.specs.declared.exits.Exit.{Exit}
pub use Rattle.prl_dates.specs.declared.exits.Exits.{Exits}
pub use Rattle.prl_dates.specs.declared.faults.DateFault.{DateFault}
pub use Rattle.prl_dates.specs.declared.lanes.Lane.{Lane}
pub use Rattle.prl_dates.specs.declared.lanes.Link.{Link}
pub use Rattle.prl_dates.specs.declared.spreads.Bound.{Bound}
pub use Rattle.prl_dates.specs.declared.turns.Turn.{Turn}

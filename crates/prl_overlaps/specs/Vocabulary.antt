-- The words of this crate that clauses and proofs use, from one place.
pub use Rattle.prl_overlaps.specs.FirstClashes.{IsFirstClash}
pub use Rattle.prl_overlaps.specs.Overlaps.{AreApart, AreShort, Clash, IsShort, Overlap}
pub use Rattle.prl_overlaps.specs.code.Spots.{AreSorted, AreSpots, IsFirstMeeting, IsFirstMet}
pub use Rattle.prl_overlaps.specs.code.Spots.{IsHighest, IsLeastMeeting, Meet, Meets, MeetsSome}
pub use Rattle.prl_overlaps.specs.code.Spots.{lower, no_spot, spot_of, with_meeting}
pub use Rattle.prl_overlaps.specs.declared.clashes.Spot.{Spot}
pub use Rattle.prl_overlaps.specs.declared.entries.Entry.{Entry}
pub use Rattle.prl_overlaps.specs.Demand.{IsFirstOverload, IsGreatest, IsOverloaded, cost_within}
pub use Rattle.prl_overlaps.specs.Demand.{demand, is_within, sum_of_jobs, wcets_of}
pub use Rattle.prl_overlaps.specs.code.Starts.{cost_at, starts_at}

use Rattle.prl_overlaps.specs.code.Spots.{IsHighest, IsLeastMeeting}
use Rattle.prl_overlaps.proofs.clashes.first_meeting.Given as goal

-- the highest end so far, and the first entry so far that meets another one
abbrev pub invariant-loop-p : goal.invariant-loop-p
invariant-loop-p l = record {
  highest : IsHighest l.spots l.p l.before;
  first : IsLeastMeeting l.hyper l.spots l.p l.least;
}

use Rattle.prl_overlaps.proofs.Spotted.{first_meets, is_first_clash, none_clash}
use Rattle.prl_overlaps.proofs.clashes.first_of_spots.Goals as goal

pub returns-in-None : goal.returns-in-None
returns-in-None c =
    none_clash c.args.hyper c.args.entries.now c.args.spots.now c.requires.short c.requires.spots c.requires.sorted c.in-None.ensures.first

pub second_meeting-requires-clause-some : goal.second_meeting-requires-clause-some
second_meeting-requires-clause-some c =
    first_meets c.args.hyper c.args.entries.now c.args.spots.now c.requires.short c.requires.spots c.requires.sorted c.in-Some.first c.in-Some.ensures.first

pub returns-in-Some : goal.returns-in-Some
returns-in-Some c =
    is_first_clash c.args.hyper c.args.entries.now c.args.spots.now c.requires.short c.requires.spots c.requires.sorted c.in-Some.first c.second_meeting.result c.in-Some.ensures.first
    c.second_meeting.ensures.first

use Rattle.std.proofs.Common.{◌+◌, ◌<◌, length, sym, subst}
use Rattle.prl_overlaps.specs.code.Spots.{no_spot, IsHighest, IsLeastMeeting}
use Rattle.prl_overlaps.proofs.Spotted.{least_within, meets_step, more_highest}
use Rattle.prl_overlaps.proofs.clashes.first_meeting.Goals as goal

pub loop-p-preserved : goal.loop-p-preserved
loop-p-preserved c =
    let inside : c.loop-p.p < length c.args.spots.now = c.loop-p-test.true in
    record {
      highest = subst (IsHighest c.args.spots.now (c.loop-p.p + 1)) (sym c.max-before.ensures) (more_highest c.args.spots.now c.loop-p.p c.loop-p.before no_spot inside c.loop-p.invariant.highest);
      first = subst (IsLeastMeeting c.args.hyper c.args.spots.now (c.loop-p.p + 1)) (sym c.with_entry-least.ensures)
          (meets_step c.args.hyper c.args.spots.now c.loop-p.p c.loop-p.least no_spot inside c.loop-p.invariant.first c.meets_some-meets.result c.meets_some-meets.ensures.yes
          c.meets_some-meets.ensures.no);
    }

pub returns-clause-within : goal.returns-clause-within
returns-clause-within c = least_within c.args.hyper c.args.entries.now c.args.spots.now c.loop-p.p c.requires.spots c.loop-p.least c.loop-p.invariant.first

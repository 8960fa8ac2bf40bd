use Rattle.prl_overlaps.proofs.Spotted.{first_met, met_within, none_met}
use Rattle.prl_overlaps.proofs.clashes.second_meeting.Goals as goal

pub returns-then-meets_entry-clause-first : goal.returns-then-meets_entry-clause-first
returns-then-meets_entry-clause-first c = first_met c.args.hyper c.args.entries.now c.args.first c.loop-k.k c.loop-k.invariant c.if-meets_entry.ensures.yes

pub loop-k-preserved : goal.loop-k-preserved
loop-k-preserved c = none_met c.args.hyper c.args.entries.now c.args.first c.loop-k.k c.loop-k.invariant c.if-meets_entry.ensures.no

pub unreachable-requires : goal.unreachable-requires
unreachable-requires c = met_within c.args.hyper c.args.entries.now c.args.first c.loop-k.k c.loop-k-test.false c.loop-k.invariant c.requires.some

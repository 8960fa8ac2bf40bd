use Rattle.prl_calendar.proofs.Chained.{adding_step}
use Rattle.prl_calendar.proofs.kinds.add_kind.Goals as goal

pub loop-place-preserved : goal.loop-place-preserved
loop-place-preserved c =
    rw c.in_ok-push.ensures.items
    (adding_step c.args.clocks.now c.args.following.now c.args.first c.args.due.now.items c.loop-place.place c.loop-place.due.items c.requires.chains c.loop-place-test.true c.loop-place.invariant)

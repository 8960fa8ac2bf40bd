use Rattle.prl_base.proofs.Standard.{map}
use Rattle.prl_times.specs.Rows.{about}
use Rattle.prl_times.proofs.RowLists.{ages_more}
use Rattle.prl_times.proofs.collected.push_ages.Goals as goal

pub loop-a-preserved : goal.loop-a-preserved
loop-a-preserved c = (
  ages_more c.args.plan.now.graph c.args.sensor c.args.actuator c.loop-a.a (map about c.args.rows.now.items) (map about c.loop-a.rows.items) (map about c.push_actuator.new.rows.items) c.loop-a.invariant.0
      c.in_ok-push_actuator.ensures.about,
  λ until all. c.in_ok-push_actuator.ensures.rows until (c.loop-a.invariant.1 until all),
)

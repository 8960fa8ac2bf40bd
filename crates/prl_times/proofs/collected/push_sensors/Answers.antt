use Rattle.prl_base.proofs.Standard.{map}
use Rattle.prl_times.specs.Rows.{about}
use Rattle.prl_times.proofs.RowLists.{sensors_more}
use Rattle.prl_times.proofs.collected.push_sensors.Goals as goal

pub loop-s-preserved : goal.loop-s-preserved
loop-s-preserved c = (
  sensors_more c.args.plan.now.graph c.args.only c.args.a.0 c.loop-s.s (map about c.args.rows.now.items) (map about c.loop-s.rows.items) (map about c.push_sensor.new.rows.items) c.loop-s.invariant.0
      c.in_ok-push_sensor.ensures.about,
  λ until all. c.in_ok-push_sensor.ensures.rows until (c.loop-s.invariant.1 until all),
)

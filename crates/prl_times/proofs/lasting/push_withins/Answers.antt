use Rattle.prl_base.proofs.Standard.{map}
use Rattle.prl_times.specs.Rows.{about}
use Rattle.prl_times.proofs.RowLists.{withins_more}
use Rattle.prl_times.proofs.lasting.push_withins.Goals as goal

pub loop-i-preserved : goal.loop-i-preserved
loop-i-preserved c = (
  withins_more c.args.plan.now c.args.from c.args.to c.loop-i.i (map about c.args.rows.now.items) (map about c.loop-i.rows.items) (map about c.push_within.new.rows.items) c.loop-i.invariant.0
      c.in_ok-push_within.ensures.about,
  λ until all. c.in_ok-push_within.ensures.rows until (c.loop-i.invariant.1 until all),
)

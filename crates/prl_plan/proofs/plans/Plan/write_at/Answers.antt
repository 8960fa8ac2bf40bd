use Rattle.std.proofs.Common.{rules}
use Rattle.prl_plan.proofs.ActionLists.{write_passed, write_other}
use Rattle.prl_plan.proofs.plans.Plan.write_at.Goals.{then-comes_from+in-Err, else-comes_from}
use Rattle.prl_plan.proofs.plans.Plan.write_at.Goals as goal

pub loop-e-preserved : goal.loop-e-preserved
loop-e-preserved c = elim c.if-comes_from.branch [
  | then-comes_from+in-Err w ↦ rw w.left-is
      (write_passed c.args.self.now c.args.i.0 c.args.n c.loop-e.e (search rules) c.args.place c.loop-e.left w.in-Err.rest w.if-comes_from.ensures.yes c.loop-e.invariant w.in-Err.ensures)
  | else-comes_from w ↦ rw w.left-is (write_other c.args.self.now c.args.i.0 c.args.n c.loop-e.e (search rules) c.args.place c.loop-e.left w.if-comes_from.ensures.no c.loop-e.invariant)
]

use Rattle.prl_base.proofs.Standard.{ap, arith}
use Rattle.prl_base.specs.declared.numbers.TaskNo.{TaskNo}
use Rattle.prl_ages.proofs.Counted.{consumer_inside}
use Rattle.prl_ages.proofs.needs.last_read.Goals as goal

pub bounds-counts-to : goal.bounds-counts-to
bounds-counts-to c =
    let same = ap (λ (t : TaskNo). t.0) c.consumer_of-to.ensures.to in
    omega (arith, same, consumer_inside c.args.plan.now.graph c.consumer_of-to.ensures.plan.graph c.args.e.0 c.requires.edge, c.requires.long)

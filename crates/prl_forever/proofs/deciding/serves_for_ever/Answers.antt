use Rattle.prl_base.proofs.Standard.{ap, subst, arith}
use Rattle.prl_plan.specs.Vocabulary.{constants_of}
use Rattle.prl_plan.specs.declared.graphs.TaskGraph.{TaskGraph}
use Rattle.prl_overlaps.specs.Demand.{wcets_of}
use Rattle.prl_edf.specs.declared.analysis.Verdict.{Verdict}
use Rattle.prl_edf.specs.declared.analysis.Verdict.TheVariants as verdicts
use Rattle.prl_edf.specs.Verdicts.{IsVerdict}
use Rattle.prl_forever.proofs.deciding.serves_for_ever.Goals as goal

pub returns-in-Ok-Run-clause-found : goal.returns-in-Ok-Run-clause-found
returns-in-Ok-Run-clause-found c =
    let hyper = ap (λ (g : TaskGraph). g.hyper) c.graph.ensures.graph in
    let verdict : IsVerdict (constants_of c.args.plan.now c.in-Ok.horizon) (wcets_of c.args.plan.now) (verdicts.Run c.in-Ok-Run.field-0-0) =
    subst (λ (v : Verdict). IsVerdict (constants_of c.args.plan.now c.in-Ok.horizon) (wcets_of c.args.plan.now) v) c.in-Ok-Run.field-0-is c.in-Ok-Run.ensures in
    c.served_for_ever.ensures.enough c.args.plan.now c.plan_is_one.ensures (omega (arith, hyper, c.if-load-hyper.false, c.load_of-load.ensures))
    c.latest_start.result c.latest_start.ensures.start.by c.in-Ok.horizon (omega (arith, hyper, c.in-Ok.ensures.1)) verdict.0

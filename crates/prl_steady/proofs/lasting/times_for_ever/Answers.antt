use Rattle.prl_base.proofs.Standard.{subst}
use Rattle.prl_plan.specs.Horizons.{constants_of}
use Rattle.prl_overlaps.specs.Demand.{wcets_of}
use Rattle.prl_edf.specs.declared.analysis.Verdict.{Verdict}
use Rattle.prl_edf.specs.declared.analysis.Verdict.TheVariants as verdicts
use Rattle.prl_edf.specs.Verdicts.{IsVerdict}
use Rattle.prl_steady.proofs.lasting.times_for_ever.Goals as goal

pub unreachable-requires : goal.unreachable-requires
unreachable-requires c =
    let verdict : IsVerdict (constants_of c.args.plan.now c.in-Ok.horizon) (wcets_of c.args.plan.now) (verdicts.Overload c.in-Ok-Overload.field-0-0 c.in-Ok-Overload.field-0-1 c.in-Ok-Overload.field-0-2) =
    subst (λ (v : Verdict). IsVerdict (constants_of c.args.plan.now c.in-Ok.horizon) (wcets_of c.args.plan.now) v) c.in-Ok-Overload.field-0-is c.in-Ok-Overload.ensures in
    c.requires c.in-Ok.horizon c.in-Ok-Overload.field-0-0 c.in-Ok-Overload.field-0-1 verdict.0.overloaded

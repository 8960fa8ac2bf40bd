use Rattle.prl_base.proofs.Standard.{inl, inr, map, refl, string_bytes, sym}
use Rattle.prl_times.proofs.Refusals.{unfit_misfit}
use Rattle.prl_times.proofs.asked.actuator_asked.Goals as goal

pub returns-in-None-clause-refused : goal.returns-in-None-clause-refused
returns-in-None-clause-refused c =
    unfit_misfit c.args.plan.now (map string_bytes c.args.words.now) _ c.no_task.result c.no_task.ensures
    (inr (inl (c.in-Some.name.now, sym c.in-Some.ensures, c.in-None.ensures.none, refl)))

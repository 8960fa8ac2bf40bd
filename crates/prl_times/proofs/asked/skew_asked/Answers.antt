use Rattle.prl_base.proofs.Standard.{◌∙◌, List, Option, IfOk-weaker, codes, err_from_is_err_and, inl, inr, map, string_bytes, sym, subst}
use Rattle.prl_base.specs.declared.numbers.TaskNo.{TaskNo}
use Rattle.prl_times.specs.Told.{AreTasksAsked, IsActuatorAsked}
use Rattle.prl_times.specs.Refused.{LacksTask}
use Rattle.prl_times.proofs.Refusals.{other_skew, outcome_refused, refused_by_unfit, refused_by_usage}
use Rattle.prl_times.proofs.asked.skew_asked.Goals as goal

pub returns-clause-shape : goal.returns-clause-shape
returns-clause-shape c =
    IfOk-weaker c.skew_rows.result _ _
    (λ rows shape. (
      shape.0,
      shape.1,
      shape.2,
      subst (λ (xs : List TaskNo). AreTasksAsked c.args.plan.now (map string_bytes c.args.words.now) (codes "--skew") xs) (sym c.deref.ensures.value ∙ shape.3) c.in_ok-sensors.ensures.told,
      subst (λ (o : Option TaskNo). IsActuatorAsked c.args.plan.now (map string_bytes c.args.words.now) o) shape.4 c.in_ok-actuator.ensures.told,
      shape.5,
    ))
    c.skew_rows.ensures.shape

pub returns-in_err-sensors-clause-refused : goal.returns-in_err-sensors-clause-refused
returns-in_err-sensors-clause-refused c =
    let p = err_from_is_err_and c.from_residual.result c.from_residual.ensures.1 in
    rw (p.1, p.2)
    (refused_by_unfit c.args.plan.now (map string_bytes c.args.words.now) (LacksTask c.args.plan.now (map string_bytes c.args.words.now) (codes "--skew")) c.in_err-sensors.field-0.0
    c.in_err-sensors.ensures.lacks (λ why lacks. inr (inr (inr (inl lacks)))))

pub returns-clause-refused : goal.returns-clause-refused
returns-clause-refused c =
    outcome_refused c.skew_rows.result _ _ c.skew_rows.ensures.other
    (λ fault is. refused_by_usage c.args.plan.now (map string_bytes c.args.words.now) _ fault is
    (λ other. inr (inr (inr (
      c.in_ok-sensors.sensors.items,
      c.in_ok-sensors.ensures.told,
      c.requires,
      other_skew c.args.plan.now (map string_bytes c.args.words.now) c.in_ok-sensors.sensors.items c.deref.result.now c.in_ok-actuator.actuator c.deref.ensures.value c.in_ok-actuator.ensures.told other,
    )))))

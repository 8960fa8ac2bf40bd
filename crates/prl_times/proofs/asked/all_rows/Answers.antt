use Rattle.prl_base.proofs.Standard.{◌++◌, ◌∙◌, List, [], ◌∷◌, All, All-cons, All-nil, ap, length, map, refl, sym, subst}
use Rattle.prl_times.specs.Rows.{IsRow, Subject, about, ages_at}
use Rattle.prl_timetext.specs.declared.rows.Row.{Row}
use Rattle.prl_times.proofs.asked.all_rows.Goals as goal

pub returns-clause-told : goal.returns-clause-told
returns-clause-told c =
    let told = c.in_ok-push_until.ensures.told in
    let asked = c.in_ok-push_asked.ensures.about in
    let first = ap (λ (xs : List Row). map about xs) c.in_ok-rows.ensures ∙ ap (λ (x : Subject). x ∷ []) c.load_row.ensures.about in
    let with_ever = asked.2 ∙ ap (λ (xs : List Subject). xs ++ asked.0) first in
    let second = c.in_ok-push_ages.ensures.about
    ∙ ap (λ (xs : List Subject). xs ++ ages_at c.args.plan.now.graph c.in_ok-sensor.sensor c.in_ok-actuator.actuator (length c.args.plan.now.graph.tasks)) with_ever in
    let third = told.3 ∙ ap (λ (xs : List Subject). xs ++ told.1) second in (
      told.0,
      (refl, (c.in_ok-sensor.sensor, c.in_ok-actuator.actuator, told.1, asked.0, c.in_ok-sensor.ensures.told, c.in_ok-actuator.ensures.told, told.2, asked.1, third)),
      told.4
          (c.in_ok-push_ages.ensures.rows told.0 (c.in_ok-push_asked.ensures.rows told.0 (subst (λ (xs : List Row). All (IsRow c.args.plan.now [] told.0) xs) (sym c.in_ok-rows.ensures)
          (All-cons (IsRow c.args.plan.now [] told.0) c.load_row.result [] (c.load_row.ensures.row [] told.0) (All-nil (IsRow c.args.plan.now [] told.0)))))),
    )

use Rattle.prl_base.proofs.Standard.{rules, arith, ◌≡◌, ◌≢◌, ℕ, ◌+◌, ap, sym, ◌∙◌, subst, vec_items, ◌++◌, [], ◌∷◌, length, List, Ok, Err, All, All-push}
use borrow.Author.Tests.{eqb-false}
use Rattle.prl_base.specs.Vocabulary.{lines_of, ◌>>=◌}
use Rattle.prl_base.proofs.LineCuts.{option_map_none, length_cut}
use Rattle.prl_schedules.specs.declared.schedules.ScheduleFault.TheVariants as faults
use Rattle.prl_schedules.specs.Schedules.{or_line, event_of, events_from, schedule_of, IsOfTasks}
use Rattle.prl_schedules.proofs.Lines.{with_front, with_front_event, with_front_fault, with_front_last}
use Rattle.prl_schedules.proofs.schedules.events_of.Goals as goal

pub returns-in_err-event_at-clause-exact : goal.returns-in_err-event_at-clause-exact
returns-in_err-event_at-clause-exact c =
    let at : c.in_err-event_at.field-0.0 ≢ faults.Memory → schedule_of c.args.names.now c.args.text.now ≡ Err c.in_err-event_at.field-0.0 =
    λ told. sym c.loop-line.invariant.told
    ∙ with_front_fault c.args.names.now c.loop-line.number (vec_items c.loop-line.events) c.loop-line.rest.now c.in-Some.line.now c.in-Some.after.now c.in_err-event_at.field-0.0 (sym c.in-Some.ensures)
    (ap (λ (line : List ℕ). or_line c.loop-line.number (event_of c.args.names.now line)) (sym c.without_return.ensures) ∙ c.in_err-event_at.ensures.exact told) in
    search rules

pub loop-line-preserved : goal.loop-line-preserved
loop-line-preserved c =
    let read = ap (λ (line : List ℕ). or_line c.loop-line.number (event_of c.args.names.now line)) (sym c.without_return.ensures) ∙ c.in_ok-event_at.ensures.exact in
    let shorter = length_cut c.loop-line.rest.now c.in-Some.line.now c.in-Some.after.now (sym c.in-Some.ensures) in
    record {
      told = ap (λ front. with_front front (events_from c.args.names.now (c.loop-line.number + 1) (lines_of c.in-Some.after.now))) c.in_ok-push.ensures.items
          ∙ with_front_event c.args.names.now c.loop-line.number (vec_items c.loop-line.events) c.loop-line.rest.now c.in-Some.line.now c.in-Some.after.now c.in_ok-event_at.field-0 (sym c.in-Some.ensures) read
          ∙ c.loop-line.invariant.told;
      tasks = subst (All (IsOfTasks (length c.args.names.now))) (sym c.in_ok-push.ensures.items)
          (All-push (IsOfTasks (length c.args.names.now)) _ _ c.loop-line.invariant.tasks c.in_ok-event_at.ensures.tasks);
      few = omega (arith, shorter, c.loop-line.invariant.few);
    }

pub returns-in_err-event_at-2-clause-exact : goal.returns-in_err-event_at-2-clause-exact
returns-in_err-event_at-2-clause-exact c =
    let cut = option_map_none _ c.cut_line.result _ c.cut_line.ensures c.in_default.not-Some in
    let some : length c.loop-line.rest.now ≡ 0 → ⊥ = eqb-false _ _ (sym c.is_empty.ensures ∙ c.if-is_empty.false) in
    let at : c.in_err-event_at-2.field-0.0 ≢ faults.Memory → schedule_of c.args.names.now c.args.text.now ≡ Err c.in_err-event_at-2.field-0.0 =
    λ told. sym c.loop-line.invariant.told
    ∙ with_front_last c.args.names.now c.loop-line.number (vec_items c.loop-line.events) c.loop-line.rest.now cut some
    ∙ ap (λ r. r >>= λ event. Ok (vec_items c.loop-line.events ++ event ∷ [])) (c.in_err-event_at-2.ensures.exact told) in
    search rules

pub returns-clause-exact : goal.returns-clause-exact
returns-clause-exact c =
    let cut = option_map_none _ c.cut_line.result _ c.cut_line.ensures c.in_default.not-Some in
    let some : length c.loop-line.rest.now ≡ 0 → ⊥ = eqb-false _ _ (sym c.is_empty.ensures ∙ c.if-is_empty.false) in
    sym c.loop-line.invariant.told
    ∙ with_front_last c.args.names.now c.loop-line.number (vec_items c.loop-line.events) c.loop-line.rest.now cut some
    ∙ ap (λ r. r >>= λ event. Ok (vec_items c.loop-line.events ++ event ∷ [])) c.in_ok-event_at-2.ensures.exact
    ∙ ap Ok (sym c.in_ok-push-2.ensures.items)

pub returns-clause-tasks : goal.returns-clause-tasks
returns-clause-tasks c =
    subst (All (IsOfTasks (length c.args.names.now))) (sym c.in_ok-push-2.ensures.items)
    (All-push (IsOfTasks (length c.args.names.now)) _ _ c.loop-line.invariant.tasks c.in_ok-event_at-2.ensures.tasks)

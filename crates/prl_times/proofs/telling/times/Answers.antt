use Rattle.prl_base.proofs.Standard.{◌≡◌, ◌∙◌, ℕ, List, Some, IfOk-weaker, IfSome, ap, codes, inl, inr, map, string_bytes, subst, sym}
use Rattle.prl_io.specs.Faults.{IsUnfit}
use Rattle.prl_plan.specs.Plans.{PlanView}
use Rattle.prl_plantext.specs.ReadTexts.{IsTextFault, IsTextOf}
use Rattle.prl_plantext.specs.declared.plans.PlanFault.{PlanFault}
use Rattle.prl_times.proofs.Refusals.{file_named, outcome_refused}
use Rattle.prl_times.proofs.telling.times.Goals as goal

pub returns-in-Ok-clause-told : goal.returns-in-Ok-clause-told
returns-in-Ok-clause-told g c =
    let is_text = subst (λ (bytes : List ℕ). IsTextOf c.in-Ok.plan bytes) c.deref.ensures.value c.in-Ok.ensures in
    IfOk-weaker c.told.result _ _
    (λ text is_told. (
      c.file_of-name.result.now,
      c.in_ok-source.source.items,
      file_named (map string_bytes c.args.words.now) (sym c.is_command.ensures ∙ c.if-not-is_command.false) ∙ ap Some (sym c.file_of-name.ensures),
      c.in_ok-source.ensures.content,
      (c.in-Ok.plan, is_text, is_told),
    ))
    c.told.ensures.told

pub returns-in-Ok-clause-refused : goal.returns-in-Ok-clause-refused
returns-in-Ok-clause-refused g c =
    let is_text = subst (λ (bytes : List ℕ). IsTextOf c.in-Ok.plan bytes) c.deref.ensures.value c.in-Ok.ensures in
    let named = file_named (map string_bytes c.args.words.now) (sym c.is_command.ensures ∙ c.if-not-is_command.false) in
    let has = subst (λ (n : List ℕ). IfSome (g.F.Files.seen c.args.files.now).folder (λ f. f n ≡ Some c.in_ok-source.source.items)) c.file_of-name.ensures c.in_ok-source.ensures.content in
    outcome_refused c.told.result _ _ c.told.ensures.refused
    (λ fault is. inr (inr (inr (inr (c.in_ok-source.source.items, c.in-Ok.plan, (named, has), is_text, is)))))

pub returns-in-Err-NotPlan-clause-refused : goal.returns-in-Err-NotPlan-clause-refused
returns-in-Err-NotPlan-clause-refused g c =
    let named = file_named (map string_bytes c.args.words.now) (sym c.is_command.ensures ∙ c.if-not-is_command.false) in
    let has = subst (λ (n : List ℕ). IfSome (g.F.Files.seen c.args.files.now).folder (λ f. f n ≡ Some c.in_ok-source.source.items)) c.file_of-name.ensures c.in_ok-source.ensures.content in
    let unfit = subst (λ (n : List ℕ). IsUnfit n (codes "not the text of a plan") c.no_plan.result) c.file_of-name.ensures c.no_plan.ensures in
    inr (inr (inr (inl (
      c.in_ok-source.source.items,
      (named, has),
      (λ (plan : PlanView) text. subst (λ (f : PlanFault). IsTextFault c.deref.result.now f) c.in-Err-NotPlan.field-0-is c.in-Err-NotPlan.ensures plan (subst (λ (bytes : List ℕ). IsTextOf plan bytes) (sym c.deref.ensures.value) text)),
      unfit,
    ))))

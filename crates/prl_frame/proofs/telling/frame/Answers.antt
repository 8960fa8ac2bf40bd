use Rattle.prl_base.proofs.Standard.{◌≡◌, ◌∙◌, ℕ, List, Some, IfOk-weaker, IfSome, codes, inl, inr, map, string_bytes, subst, sym}
use Rattle.prl_io.specs.Faults.{Folder, IsUnfit}
use Rattle.prl_plan.specs.Plans.{PlanView}
use Rattle.prl_plantext.specs.ReadTexts.{IsTextFault, IsTextOf}
use Rattle.prl_plantext.specs.declared.plans.PlanFault.{PlanFault}
use Rattle.prl_frame.specs.Told.{IsTableTold}
use Rattle.prl_frame.proofs.Refusals.{plan_named}
use Rattle.prl_frame.proofs.telling.frame.Goals as goal

pub returns-in-Ok-clause-told : goal.returns-in-Ok-clause-told
returns-in-Ok-clause-told g c =
    let is_text = subst (λ (bytes : List ℕ). IsTextOf c.in-Ok.plan bytes) c.deref.ensures.value c.in-Ok.ensures in
    let named = plan_named (map string_bytes c.args.words.now) (sym c.is_command.ensures ∙ c.if-not-is_command.false) in
    let has = subst (λ (n : List ℕ). IfSome (g.F.Files.seen c.args.files.now).folder (λ f. f n ≡ Some c.in_ok-source.source.items)) c.file_of-name.ensures c.in_ok-source.ensures.content in
    IfOk-weaker c.table_told.result _ _
    (λ text is_told. (
      c.in_ok-source.source.items,
      c.in-Ok.plan,
      (named, has),
      is_text,
      subst (λ (f : Folder). IsTableTold f (map string_bytes c.args.words.now) c.in-Ok.plan c.args.json text.items) c.in_ok-source.ensures.kept is_told,
    ))
    c.table_told.ensures.told

pub returns-in-Err-NotPlan-clause-refused : goal.returns-in-Err-NotPlan-clause-refused
returns-in-Err-NotPlan-clause-refused g c =
    let named = plan_named (map string_bytes c.args.words.now) (sym c.is_command.ensures ∙ c.if-not-is_command.false) in
    let has = subst (λ (n : List ℕ). IfSome (g.F.Files.seen c.args.files.now).folder (λ f. f n ≡ Some c.in_ok-source.source.items)) c.file_of-name.ensures c.in_ok-source.ensures.content in
    let unfit = subst (λ (n : List ℕ). IsUnfit n (codes "not the text of a plan") c.no_plan.result) c.file_of-name.ensures c.no_plan.ensures in
    inr (inr (inr (inl (
      c.in_ok-source.source.items,
      (named, has),
      (λ (plan : PlanView) text. subst (λ (f : PlanFault). IsTextFault c.deref.result.now f) c.in-Err-NotPlan.field-0-is c.in-Err-NotPlan.ensures plan (subst (λ (bytes : List ℕ). IsTextOf plan bytes) (sym c.deref.ensures.value) text)),
      unfit,
    ))))

use Rattle.std.proofs.Common.{◌++◌, ◌∙◌, ◌-◌, ℕ, List, Option, Some, ap, subst, sym}
use Rattle.prl_base.specs.Decimals.{decimal_of}
use Rattle.prl_schedules.specs.Vocabulary.{IsFinding, finding_text}
use Rattle.prl_schedules.specs.declared.causes.Finding.{Finding}
use Rattle.prl_schedules.specs.ScheduleTexts.{task_names}
use Rattle.prl_explain.proofs.Lines.{line_is}
use Rattle.prl_explain.proofs.details.of_line.Goals as goal

pub returns-in_ok-push_finding-in-Some-2 : goal.returns-in_ok-push_finding-in-Some-2
returns-in_ok-push_finding-in-Some-2 c =
    let plan = c.args.plan.now in
    let events = c.args.events.now in
    let finding = c.in-Some-2.finding in
    let is = subst (λ (f : Option Finding). IsFinding plan events (c.in-Some.line - 1) c.args.rule f) c.in-Some-2.is c.in_ok-finding_at.ensures in
    line_is plan events c.in-Some.line c.args.rule c.push_finding.new.text.items (decimal_of c.args.argument.now) (Some finding)
    (sym c.decimal_of.ensures ∙ c.in-Some.is) c.if-line-eq0.false is
    (c.in_ok-push_finding-in-Some-2.ensures ∙ ap (λ (xs : List ℕ). xs ++ finding_text (task_names plan) finding) c.new-text.ensures.items)

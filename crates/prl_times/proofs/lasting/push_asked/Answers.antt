use Rattle.prl_base.proofs.Standard.{◌∙◌, [], append-nil, map, string_bytes, sym}
use Rattle.prl_times.specs.Rows.{about}
use Rattle.prl_times.proofs.Refusals.{outcome_refused, refused_by_long}
use Rattle.prl_times.proofs.RowLists.{ever_asked, ever_not_asked, ok_weaker}
use Rattle.prl_times.proofs.lasting.push_asked.Goals as goal

pub returns-then-not-has-clause-about : goal.returns-then-not-has-clause-about
returns-then-not-has-clause-about c = (
  [],
  ever_not_asked c.args.plan.now (map string_bytes c.args.words.now) (sym c.has.ensures ∙ c.if-not-has.true),
  sym (append-nil (map about c.args.rows.now.items)),
)

pub returns-in-Ok-clause-about : goal.returns-in-Ok-clause-about
returns-in-Ok-clause-about c =
    ok_weaker c.push_found.result _ _ c.push_found.ensures.about
    (λ told. (told.0, ever_asked c.args.plan.now (map string_bytes c.args.words.now) told.0 (sym c.has.ensures ∙ c.if-not-has.false) told.1, told.2))

pub returns-in-Ok-clause-refused : goal.returns-in-Ok-clause-refused
returns-in-Ok-clause-refused c =
    outcome_refused c.push_found.result _ _ c.push_found.ensures.refused
    (λ fault is. refused_by_long c.args.plan.now (map string_bytes c.args.words.now) fault (sym c.has.ensures ∙ c.if-not-has.false) is)

pub returns-in-Err-clause-refused : goal.returns-in-Err-clause-refused
returns-in-Err-clause-refused c =
    refused_by_long c.args.plan.now (map string_bytes c.args.words.now) c.no_answer.result (sym c.has.ensures ∙ c.if-not-has.false) (c.no_answer.ensures c.args.plan.now c.in-Err.ensures.cause)

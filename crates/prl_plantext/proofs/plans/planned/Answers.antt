use Rattle.std.proofs.Common.{rules}
use Rattle.prl_plantext.proofs.NoPlan.{cells_refused, words_refused}
use Rattle.prl_plantext.proofs.plans.planned.Goals as goal

pub returns-in_err-words : goal.returns-in_err-words
returns-in_err-words c =
    let law = c.words_begin_with_constants.ensures in
    let refused = words_refused c.args.graph c.in_err-words.field-0.0 law.first law.one c.requires c.in_err-words.ensures in
    search rules

pub returns-in_err-cells : goal.returns-in_err-cells
returns-in_err-cells c =
    let dates = c.in_ok-dates.ensures.dates in
    let refused = cells_refused c.args.graph c.in_ok-dates.dates c.in_err-cells.field-0.0 c.plan_is_unique.ensures.dates dates.0 dates.2 c.in_err-cells.ensures.cells in
    search rules

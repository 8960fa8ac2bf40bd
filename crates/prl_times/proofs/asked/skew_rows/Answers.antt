use Rattle.prl_base.proofs.Standard.{List, [], All, All-cons, All-nil, sym, subst}
use Rattle.prl_times.specs.Rows.{IsRow}
use Rattle.prl_timetext.specs.declared.rows.Row.{Row}
use Rattle.prl_times.proofs.asked.skew_rows.Goals as goal

pub returns-in_ok-one_row-in-len2-Some-clause-right :
    goal.returns-in_ok-one_row-in-len2-Some-clause-right
returns-in_ok-one_row-in-len2-Some-clause-right c = λ tasks until.
    subst (λ (xs : List Row). All (IsRow c.args.plan.now tasks until) xs) (sym c.in_ok-one_row-in-len2-Some.ensures)
    (All-cons (IsRow c.args.plan.now tasks until) c.in_ok-skew_row-in-len2-Some.field-0 [] (c.in_ok-skew_row-in-len2-Some.ensures.row tasks until) (All-nil (IsRow c.args.plan.now tasks until)))

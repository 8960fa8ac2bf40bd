use Rattle.prl_base.proofs.Standard.{List, [], All, All-cons, All-nil, sym, subst}
use Rattle.prl_times.specs.Rows.{IsRow}
use Rattle.prl_timetext.specs.declared.rows.Row.{Row}
use Rattle.prl_times.proofs.asked.chain_rows.Goals as goal

pub returns-in_ok-one_row-in-len2-up-clause-right :
    goal.returns-in_ok-one_row-in-len2-up-clause-right
returns-in_ok-one_row-in-len2-up-clause-right c = λ until.
    subst (λ (xs : List Row). All (IsRow c.args.plan.now c.args.chain.now until) xs) (sym c.in_ok-one_row-in-len2-up.ensures)
    (All-cons (IsRow c.args.plan.now c.args.chain.now until) c.in_ok-chain_row-in-len2-up.field-0 [] (c.in_ok-chain_row-in-len2-up.ensures.row until) (All-nil (IsRow c.args.plan.now c.args.chain.now until)))

use Rattle.prl_clock.specs.code.Composition.{over_period, over_start}
use Rattle.prl_clock.proofs.Terms.{on_err, past_terms, quotient_product, sum_back}
use Rattle.prl_clock.proofs.timings.over.Goals as goal

pub returns-in_err-period-clause-past : goal.returns-in_err-period-clause-past
returns-in_err-period-clause-past c =
    let e = c.in_err-period.ensures in
    on_err c.from_residual.result _ (over_period e.0 (past_terms _ _ e.0 e.1.0 e.1.1) (quotient_product c.args.first.period e.0 c.args.whole.period e.1.0))

pub returns-in_err-start-clause-past : goal.returns-in_err-start-clause-past
returns-in_err-start-clause-past c =
    let e = c.in_err-start.ensures in
    let q = c.in_ok-period.ensures in
    on_err c.from_residual-in_err-start.result _
    (over_start e.0 c.in_ok-period.period q.0.positive (past_terms _ _ e.0 e.1.0 e.1.1)
    (quotient_product c.args.first.period c.in_ok-period.period c.args.whole.period q.0)
    (sum_back c.args.whole.start c.args.first.start c.in_ok-period.period _ e.0 c.negated.ensures.num c.negated.ensures.den e.1.0.equal))

pub returns-clause-composed : goal.returns-clause-composed
returns-clause-composed c =
    record {
      period = quotient_product c.args.first.period c.in_ok-period.period c.args.whole.period c.in_ok-period.ensures.0;
      start = sum_back c.args.whole.start c.args.first.start c.in_ok-period.period _ c.in_ok-start.start c.negated.ensures.num c.negated.ensures.den c.in_ok-start.ensures.0.equal;
    }

use Rattle.prl_base.proofs.Standard.{ℕ, List, subst}
use Rattle.prl_ages.specs.code.Windows.{AreAllCounted}
use Rattle.prl_ages.proofs.Windows.{all_ready}
use Rattle.prl_ages.proofs.verdicts.ready_job.Goals as goal

pub returns-then-are_all_counted-clause-ready : goal.returns-then-are_all_counted-clause-ready
returns-then-are_all_counted-clause-ready c =
    all_ready c.args.plan.now.graph c.args.chain.now c.args.a.0 c.args.most c.more.k c.args.lags.now c.in_ok-counts.counts.items c.in_ok-counts.ensures
    (subst (λ (xs : List ℕ). AreAllCounted c.args.lags.now xs) c.deref.ensures.value c.if-are_all_counted.ensures)

use Rattle.prl_base.proofs.Standard.{◌+◌, Option, sym, subst}
use Rattle.prl_ages.specs.code.Farther.{IsGreatestBelow}
use Rattle.prl_ages.specs.declared.skews.Skew.{Skew}
use Rattle.prl_ages.proofs.GreatestSkews.{greatest_more}
use Rattle.prl_ages.proofs.skews.greatest_below.Goals as goal

pub loop-k-preserved : goal.loop-k-preserved
loop-k-preserved c =
    subst (λ (x : Option Skew). IsGreatestBelow c.args.plan.now.graph c.args.s.0 c.args.r.0 c.args.a.0 (c.loop-k.k + 1) x) (sym c.farther-most.ensures)
    (greatest_more c.args.plan.now.graph c.args.s.0 c.args.r.0 c.args.a.0 c.loop-k.k c.loop-k.most c.skew_at.result c.loop-k.invariant c.skew_at.ensures)

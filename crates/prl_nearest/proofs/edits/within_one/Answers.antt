use Rattle.prl_base.proofs.Standard.{◌∙◌, sym, bytes_eq-Decides}
use Rattle.prl_nearest.proofs.Within.{one_after}
use Rattle.prl_nearest.proofs.edits.within_one.Goals as goal

pub returns-then-one_here : goal.returns-then-one_here
returns-then-one_here c =
    one_after c.common-i.result c.args.a.now c.args.b.now c.up_to.result.now c.up_to-2.result.now c.from-rest.result.now c.from-other.result.now c.up_to.ensures c.up_to-2.ensures
    ((bytes_eq-Decides c.up_to.result.now c.up_to-2.result.now).0 (sym c.eq.ensures ∙ c.if-eq.true)) c.from-rest.ensures c.from-other.ensures c.if-one_here.ensures

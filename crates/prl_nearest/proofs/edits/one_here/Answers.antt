use Rattle.prl_base.proofs.Standard.{◌∙◌, sym, bytes_eq-Decides}
use Rattle.prl_nearest.proofs.Within.{one_less, one_more, one_other}
use Rattle.prl_nearest.proofs.edits.one_here.Goals as goal

pub returns-then-eq : goal.returns-then-eq
returns-then-eq c =
    one_other c.args.a.now c.args.b.now c.behind.result.now c.behind-2.result.now c.behind.ensures c.behind-2.ensures
    ((bytes_eq-Decides c.behind.result.now c.behind-2.result.now).0 (sym c.eq.ensures ∙ c.if-eq.true))

pub returns-then-eq-2 : goal.returns-then-eq-2
returns-then-eq-2 c =
    one_less c.args.a.now c.args.b.now c.behind-3.result.now c.behind-3.ensures
    ((bytes_eq-Decides c.behind-3.result.now c.args.b.now).0 (sym c.eq-2.ensures ∙ c.if-eq-2.true))

pub returns-then-eq-3 : goal.returns-then-eq-3
returns-then-eq-3 c =
    one_more c.args.a.now c.args.b.now c.behind-4.result.now c.behind-4.ensures
    ((bytes_eq-Decides c.args.a.now c.behind-4.result.now).0 (sym c.eq-3.ensures ∙ c.if-eq-3.true))

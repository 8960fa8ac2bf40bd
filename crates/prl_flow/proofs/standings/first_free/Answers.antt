use Rattle.std.proofs.Common.{◌<◌, length, sym, ap, ◌∙◌, below_more, arith}
use Rattle.prl_flow.specs.declared.standings.Standing.{Standing}
use Rattle.prl_flow.proofs.StandingsAt.{item_is, some_clock, still_some}
use Rattle.prl_flow.proofs.standings.first_free.Goals as goal

pub loop-i-preserved : goal.loop-i-preserved
loop-i-preserved c =
    let here : c.loop-i.i < length c.args.standings.now = omega arith in
    below_more _ _ c.loop-i.invariant (some_clock c.args.standings.now c.loop-i.i (λ e.
    still_some c.index-standings-i.result.clock c.is_none.result c.is_none.ensures c.if-is_none.false
    (ap (λ (s : Standing). s.clock) (c.index-standings-i.is ∙ sym (item_is c.args.standings.now c.loop-i.i c.index-standings-i.result here)) ∙ e)))

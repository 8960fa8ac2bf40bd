use Rattle.std.proofs.Common.{sym, ap, ◌∙◌}
use Rattle.prl_board.specs.Lones.{LoneView}
use Rattle.prl_board.proofs.lone.Lone.now.Goals as goal

pub returns : goal.returns
returns c = λ r has.
    let lent = c.self.invariant.1 c.requires.0 (ap (λ (l : LoneView). l.view.constants) c.self.view_is ∙ c.requires.1) in
    c.shown.ensures ∙ sym (lent.ticks.same.same r (ap (λ (l : LoneView). l.view.clock) c.self.view_is ∙ has)).0

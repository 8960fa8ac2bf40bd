use Rattle.std.proofs.Common.{ap, subst, ◌∙◌}
use Rattle.prl_board.specs.Lones.{IsWhole, LoneView}
use Rattle.prl_board.proofs.lone.Lone.stands.Goals as goal

pub returns : goal.returns
returns c = λ k known.
    let lent = c.self.invariant.1 k (ap (λ (l : LoneView). l.view.constants) c.self.view_is ∙ known) in
    subst (λ (l : LoneView). IsWhole k l) c.self.view_is (record {
      tasks = lent.tasks;
      each = λ i s has. ((lent.each i s has).task, (lent.each i s has).stands);
      clock = lent.ticks.part;
    })

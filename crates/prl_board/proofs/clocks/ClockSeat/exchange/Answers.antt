use Rattle.std.proofs.Common.{◌≡◌, [], sym, ap, subst, ◌∙◌, Some}
use Rattle.atomic_table.specs.Table.{Me}
use Rattle.prl_rule.specs.declared.views.ClockPart.{ClockPart}
use Rattle.prl_rule.specs.declared.views.Constants.{Constants}
use Rattle.prl_rule.specs.declared.views.View.{View}
use Rattle.prl_board.specs.ClockSeats.{AreDueBy, ClockSeatView, IsClockData}
use Rattle.prl_board.proofs.clocks.ClockSeat.exchange.Goals as goal

pub invariant_of-self : goal.invariant_of-self
invariant_of-self c =
    let own : (k : Constants) → c.args.other.now.me.0.constants ≡ Some k → c.self.inside.seat.me.0.constants ≡ Some k = λ k has. ap (λ (s : ClockSeatView). s.view.constants) c.self.view_is ∙ c.requires.run k has in
    let P : Me (Unit {0}) View → Type 0 = λ me. (me.1 ≡ []) × IsClockData me.0 c.self.inside.now c.self.inside.looks.items
    × ((k : Constants) → me.0.constants ≡ Some k → AreDueBy k c.self.inside.looks.items c.self.inside.due) in
    subst P (sym (ap (λ s. s.me) c.swap.ensures.x_after)) (
      c.requires.slots,
      record {
        same = subst (λ (s : ClockSeatView). (r : ClockPart) → c.args.other.now.me.0.clock ≡ Some r → (r.now ≡ s.now) × (r.looks ≡ s.looks)) (sym c.self.view_is) c.requires.same;
        within = λ k has. c.self.invariant.1.within k (own k has);
        wide = λ k has. c.self.invariant.1.wide k (own k has);
      },
      (λ k has. c.self.invariant.2 k (own k has)),
    )

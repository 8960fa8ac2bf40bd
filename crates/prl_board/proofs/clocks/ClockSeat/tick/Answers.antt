use Rattle.std.proofs.Common.{arith, ◌≡◌, refl, ap, ◌∙◌}
use Rattle.prl_rule.specs.declared.views.View.{View}
use Rattle.prl_board.specs.ClockSeats.{ClockSeatView, IsSaidBy}
use Rattle.prl_board.proofs.clocks.ClockSeat.tick.Goals as goal

pub returns-in-Some-clause-answer : goal.returns-in-Some-clause-answer
returns-in-Some-clause-answer c = λ r is.
    let view : c.self.inside.seat.me.0 ≡ c.args.self.now.view = ap (λ (s : ClockSeatView). s.view) c.self.view_is in
    let stands = c.self.invariant.1.same r (ap (λ (v : View). v.clock) view ∙ is.part) in
    let said : IsSaidBy c.args.self.now r = record {
      now = stands.0 ∙ ap (λ (s : ClockSeatView). s.now) c.self.view_is;
      looks = stands.1 ∙ ap (λ (s : ClockSeatView). s.looks) c.self.view_is;
    } in
    let now = stands.0 in let before = c.if-self-end.false in let end = c.end.ensures in
    (c.if-is_gated.ensures.yes, omega (arith, now, before, end), c.in-Some.ensures r said, refl)

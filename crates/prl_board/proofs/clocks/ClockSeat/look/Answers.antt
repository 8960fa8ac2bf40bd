use Rattle.std.proofs.Common.{◌≡◌, ap, subst, ◌∙◌}
use Rattle.prl_rule.specs.Vocabulary.{LookTold, looked}
use Rattle.prl_rule.specs.declared.views.View.{View}
use Rattle.prl_board.specs.ClockSeats.{ClockSeatView}
use Rattle.prl_board.proofs.ClockAfter.{clock_after}
use Rattle.prl_board.proofs.clocks.ClockSeat.look.Goals as goal

pub returns-clause-told : goal.returns-clause-told
returns-clause-told c = λ r is.
    let same : c.self.inside.seat.me.0 ≡ c.args.self.now.view = ap (λ (s : ClockSeatView). s.view) c.self.view_is in
    subst (λ (view : View). LookTold c.args.board.now.known c.args.task.0 r view c.load_done-ended.result c.load_done-ended.new.seat.me.0) same
    (c.load_done-ended.ensures.told r (ap (λ (view : View). view.clock) same ∙ is.part))

pub returns-clause-seat : goal.returns-clause-seat
returns-clause-seat c =
    let is = c.requires.seat in
    let same : c.self.inside.seat.me.0 ≡ c.args.self.now.view = ap (λ (s : ClockSeatView). s.view) c.self.view_is in
    let told = subst (λ (view : View). LookTold c.args.board.now.known c.args.task.0 is.0 view c.load_done-ended.result c.load_done-ended.new.seat.me.0) same
    (c.load_done-ended.ensures.told is.0 (ap (λ (view : View). view.clock) same ∙ is.1.part)) in (
      looked c.args.task.0 c.load_done-ended.result is.0,
      clock_after c.args.board.now c.args.self.now _
          is.0 (looked c.args.task.0 c.load_done-ended.result is.0) is.1 (c.load_done-ended.ensures.same.0 ∙ ap (λ (s : ClockSeatView). s.table) c.self.view_is) told.view,
    )

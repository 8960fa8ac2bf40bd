use Rattle.std.proofs.Common.{◌≡◌, ap, subst, ◌∙◌}
use Rattle.prl_rule.specs.Vocabulary.{ClockStopTold, clock_stop_loaded}
use Rattle.prl_rule.specs.declared.views.View.{View}
use Rattle.prl_board.specs.ClockSeats.{ClockSeatView}
use Rattle.prl_board.proofs.ClockAfter.{clock_after}
use Rattle.prl_board.proofs.clocks.ClockSeat.stopped.Goals as goal

pub returns-clause-seat : goal.returns-clause-seat
returns-clause-seat c =
    let is = c.requires in
    let same : c.self.inside.seat.me.0 ≡ c.args.self.now.view = ap (λ (s : ClockSeatView). s.view) c.self.view_is in
    let told = subst (λ (view : View). ClockStopTold c.args.board.now.known is.0 view c.load_clock_stop-word.result c.load_clock_stop-word.new.seat.me.0) same
    (c.load_clock_stop-word.ensures.told is.0 (ap (λ (view : View). view.clock) same ∙ is.1.part)) in (
      clock_stop_loaded c.load_clock_stop-word.result is.0,
      clock_after c.args.board.now c.args.self.now _
          is.0 (clock_stop_loaded c.load_clock_stop-word.result is.0) is.1 (c.load_clock_stop-word.ensures.same.0 ∙ ap (λ (s : ClockSeatView). s.table) c.self.view_is) told.view,
    )

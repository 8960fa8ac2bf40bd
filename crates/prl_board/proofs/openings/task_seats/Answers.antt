use Rattle.std.proofs.Common.{arith, ◌+◌, ◌<◌, [], ◌∷◌, length, length-append, sym, ap, subst, ◌∙◌, vec_items}
use Rattle.prl_rule.specs.Known.{run_of}
use Rattle.prl_rule.specs.declared.views.View.{View}
use Rattle.prl_seats.specs.JobSeats.{HasFirstPart, IsFirstSeat, IsSeatOf}
use Rattle.prl_board.specs.Openings.{AreLeft}
use Rattle.prl_board.proofs.Opened.{first_given, next_left, seats_more}
use Rattle.prl_board.proofs.openings.task_seats.Goals as goal

pub first-requires-clause-part : goal.first-requires-clause-part
first-requires-clause-part c =
    let below : c.loop-i.i < (run_of c.args.board.now.known).tasks = omega (arith, c.tasks-i-end.ensures, c.loop-i-test.true) in
    let me = c.split-own.ensures.part.1 in (
      subst (λ (v : View). HasFirstPart c.args.board.now.known c.loop-i.i v) (sym (ap (λ m. m.0) me))
          (first_given c.args.board.now.known c.loop-i.i c.loop-i.seat.me.0 c.loop-i.invariant.left below),
      ap (λ m. m.1) me,
    )

pub loop-i-preserved : goal.loop-i-preserved
loop-i-preserved c = record {
  table = c.split-own.ensures.rest.0 ∙ c.loop-i.invariant.table;
  same = ap (λ m. m.1) c.split-own.ensures.rest.2 ∙ c.loop-i.invariant.same;
  left = subst (λ (v : View). AreLeft c.args.board.now.known (c.loop-i.i + 1) v) (sym (ap (λ m. m.0) c.split-own.ensures.rest.2))
      (next_left c.args.board.now.known c.loop-i.i c.loop-i.seat.me.0 c.loop-i.invariant.left);
  long = (let e = ap length c.in_ok-push.ensures.items in let l = length-append (vec_items c.loop-i.seats) (c.in_ok-first.field-0 ∷ []) in let long = c.loop-i.invariant.long in omega (arith, e, l, long));
  each = seats_more (λ j s. IsSeatOf c.args.board.now s × IsFirstSeat c.args.board.now.known (record { 0 = j }) s) (vec_items c.loop-i.seats) (vec_items c.push.new.self) c.loop-i.i c.in_ok-first.field-0
      c.in_ok-push.ensures.items c.loop-i.invariant.long c.loop-i.invariant.each (c.in_ok-first.ensures.seat, c.in_ok-first.ensures.first);
}

use Rattle.std.proofs.Common.{sym, ap, subst, ◌∙◌}
use Rattle.prl_seats.specs.JobSeats.{Ends, JobSeatView}
use Rattle.prl_board.specs.Vocabulary.{MayFinish, place_of, IsElsewhere}
use Rattle.prl_board.proofs.Called.{answer_after, elsewhere_with, same_after, seat_returned}
use Rattle.prl_board.proofs.lends.finish_lent.Goals as goal

pub finish-requires-clause-place : goal.finish-requires-clause-place
finish-requires-clause-place c = subst (λ (s : JobSeatView). MayFinish (place_of s.stage)) (sym c.lend.ensures.taken) c.requires.place

pub returns-clause-same : goal.returns-clause-same
returns-clause-same c = same_after c.args.seat.now c.finish.new.self c.lend.ensures.taken c.take_back.ensures.taken c.take_back.ensures.given c.finish.ensures.same.table c.finish.ensures.same.task

pub returns-clause-returned : goal.returns-clause-returned
returns-clause-returned c =
    let taken = c.lend.ensures.taken in
    let elsewhere : IsElsewhere c.args.seat.now.task.0 c.args.whole.now.me.0 c.finish.new.self.view =
    subst (λ (s : JobSeatView). IsElsewhere s.task.0 s.view c.finish.new.self.view) taken (elsewhere_with c.lend.new.seat.task.0 _ c.lend.new.seat.view c.finish.new.self.view c.finish.ensures.told.told) in
    seat_returned c.args.board.now c.args.seat.now.task c.args.whole.now.me.0 c.take_back.new.whole.me.0 c.lend.new.whole.table_id c.lend.new.whole.id c.finish.new.self c.take_back.new.seat
    c.finish.ensures.seat (c.finish.ensures.same.task ∙ ap (λ (s : JobSeatView). s.task) taken) elsewhere (ap (λ m. m.0) c.take_back.ensures.given.2) c.take_back.ensures.taken c.take_back.ensures.stands

pub returns-clause-answer : goal.returns-clause-answer
returns-clause-answer c =
    answer_after c.args.seat.now c.finish.new.self (λ s t. Ends c.args.board.now.known s t) c.lend.ensures.taken c.take_back.ensures.taken c.take_back.ensures.given c.finish.ensures.told

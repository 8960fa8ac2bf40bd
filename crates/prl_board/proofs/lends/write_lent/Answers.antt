use Rattle.std.proofs.Common.{sym, ap, subst, ◌∙◌}
use Rattle.prl_seats.specs.JobSeats.{JobSeatView}
use Rattle.prl_board.specs.Vocabulary.{AnswersWrite, MayWrite, place_of, IsElsewhere}
use Rattle.prl_board.proofs.Called.{answer_after, same_after, seat_returned, write_elsewhere}
use Rattle.prl_board.proofs.lends.write_lent.Goals as goal

pub write-answer-requires-clause-place : goal.write-answer-requires-clause-place
write-answer-requires-clause-place c = subst (λ (s : JobSeatView). MayWrite (place_of s.stage)) (sym c.lend.ensures.taken) c.requires.place

pub returns-clause-same : goal.returns-clause-same
returns-clause-same c =
    same_after c.args.seat.now c.write-answer.new.self c.lend.ensures.taken c.take_back.ensures.taken c.take_back.ensures.given c.write-answer.ensures.same.table c.write-answer.ensures.same.task

pub returns-clause-returned : goal.returns-clause-returned
returns-clause-returned c =
    let taken = c.lend.ensures.taken in
    let elsewhere : IsElsewhere c.args.seat.now.task.0 c.args.whole.now.me.0 c.write-answer.new.self.view =
    subst (λ (s : JobSeatView). IsElsewhere s.task.0 s.view c.write-answer.new.self.view) taken (write_elsewhere c.args.board.now.known c.lend.new.seat c.write-answer.new.self c.write-answer.result c.lend.new.seat.stage c.write-answer.ensures.answer) in
    seat_returned c.args.board.now c.args.seat.now.task c.args.whole.now.me.0 c.take_back.new.whole.me.0 c.lend.new.whole.table_id c.lend.new.whole.id c.write-answer.new.self c.take_back.new.seat
    c.write-answer.ensures.seat (c.write-answer.ensures.same.task ∙ ap (λ (s : JobSeatView). s.task) taken) elsewhere (ap (λ m. m.0) c.take_back.ensures.given.2) c.take_back.ensures.taken c.take_back.ensures.stands

pub returns-clause-answer : goal.returns-clause-answer
returns-clause-answer c =
    answer_after c.args.seat.now c.write-answer.new.self (λ s t. AnswersWrite c.args.board.now.known s t c.write-answer.result s.stage) c.lend.ensures.taken c.take_back.ensures.taken
    c.take_back.ensures.given c.write-answer.ensures.answer

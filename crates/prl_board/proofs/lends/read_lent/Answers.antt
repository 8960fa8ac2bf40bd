use Rattle.std.proofs.Common.{sym, ap, subst, ◌∙◌}
use Rattle.prl_seats.specs.JobSeats.{JobSeatView}
use Rattle.prl_board.specs.Vocabulary.{AnswersRead, MayRead, place_of, IsElsewhere}
use Rattle.prl_board.proofs.Called.{answer_after, read_elsewhere, same_after, seat_returned}
use Rattle.prl_board.proofs.lends.read_lent.Goals as goal

pub read-answer-requires-clause-place : goal.read-answer-requires-clause-place
read-answer-requires-clause-place c = subst (λ (s : JobSeatView). MayRead (place_of s.stage)) (sym c.lend.ensures.taken) c.requires.place

pub returns-clause-same : goal.returns-clause-same
returns-clause-same c =
    same_after c.args.seat.now c.read-answer.new.self c.lend.ensures.taken c.take_back.ensures.taken c.take_back.ensures.given c.read-answer.ensures.same.table c.read-answer.ensures.same.task

pub returns-clause-returned : goal.returns-clause-returned
returns-clause-returned c =
    let taken = c.lend.ensures.taken in
    let elsewhere : IsElsewhere c.args.seat.now.task.0 c.args.whole.now.me.0 c.read-answer.new.self.view =
    subst (λ (s : JobSeatView). IsElsewhere s.task.0 s.view c.read-answer.new.self.view) taken (read_elsewhere c.args.board.now.known c.lend.new.seat c.read-answer.new.self c.read-answer.result c.lend.new.seat.stage c.read-answer.ensures.answer) in
    seat_returned c.args.board.now c.args.seat.now.task c.args.whole.now.me.0 c.take_back.new.whole.me.0 c.lend.new.whole.table_id c.lend.new.whole.id c.read-answer.new.self c.take_back.new.seat
    c.read-answer.ensures.seat (c.read-answer.ensures.same.task ∙ ap (λ (s : JobSeatView). s.task) taken) elsewhere (ap (λ m. m.0) c.take_back.ensures.given.2) c.take_back.ensures.taken c.take_back.ensures.stands

pub returns-clause-answer : goal.returns-clause-answer
returns-clause-answer c =
    answer_after c.args.seat.now c.read-answer.new.self (λ s t. AnswersRead c.args.board.now.known s t c.read-answer.result s.stage) c.lend.ensures.taken c.take_back.ensures.taken
    c.take_back.ensures.given c.read-answer.ensures.answer

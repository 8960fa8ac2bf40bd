use Rattle.std.proofs.Common.{sym, ap, subst, ◌∙◌}
use Rattle.prl_seats.specs.JobSeats.{AnswersRelease, JobSeatView}
use Rattle.prl_board.specs.Vocabulary.{MayRelease, place_of, IsElsewhere}
use Rattle.prl_board.proofs.Called.{answer_after, release_elsewhere, same_after, seat_returned}
use Rattle.prl_board.proofs.lends.release_lent.Goals as goal

pub release-answer-requires-clause-place : goal.release-answer-requires-clause-place
release-answer-requires-clause-place c = subst (λ (s : JobSeatView). MayRelease (place_of s.stage)) (sym c.lend.ensures.taken) c.requires.place

pub returns-clause-same : goal.returns-clause-same
returns-clause-same c =
    same_after c.args.seat.now c.release-answer.new.self c.lend.ensures.taken c.take_back.ensures.taken c.take_back.ensures.given c.release-answer.ensures.same.table c.release-answer.ensures.same.task

pub returns-clause-returned : goal.returns-clause-returned
returns-clause-returned c =
    let taken = c.lend.ensures.taken in
    let elsewhere : IsElsewhere c.args.seat.now.task.0 c.args.whole.now.me.0 c.release-answer.new.self.view =
    subst (λ (s : JobSeatView). IsElsewhere s.task.0 s.view c.release-answer.new.self.view) taken (release_elsewhere c.args.board.now.known c.lend.new.seat c.release-answer.new.self c.release-answer.result c.release-answer.ensures.answer) in
    seat_returned c.args.board.now c.args.seat.now.task c.args.whole.now.me.0 c.take_back.new.whole.me.0 c.lend.new.whole.table_id c.lend.new.whole.id c.release-answer.new.self c.take_back.new.seat
    c.release-answer.ensures.seat (c.release-answer.ensures.same.task ∙ ap (λ (s : JobSeatView). s.task) taken) elsewhere (ap (λ m. m.0) c.take_back.ensures.given.2) c.take_back.ensures.taken c.take_back.ensures.stands

pub returns-clause-answer : goal.returns-clause-answer
returns-clause-answer c =
    answer_after c.args.seat.now c.release-answer.new.self (λ s t. AnswersRelease c.args.board.now.known s t c.release-answer.result) c.lend.ensures.taken c.take_back.ensures.taken
    c.take_back.ensures.given c.release-answer.ensures.answer

pub returns-clause-place : goal.returns-clause-place
returns-clause-place c = ap (λ (s : JobSeatView). s.place) c.take_back.ensures.taken ∙ c.release-answer.ensures.place ∙ ap (λ (s : JobSeatView). s.place) c.lend.ensures.taken

use Rattle.std.proofs.Common.{◌≡◌, ℕ, sym, ap, subst, ◌∙◌}
use lib.ListN.{get_elem?}
use Rattle.prl_rule.specs.Vocabulary.{stop_loaded, with_part, part_at, part_of}
use Rattle.prl_rule.specs.declared.views.View.{View}
use Rattle.prl_seats.specs.JobSeats.{Follows, HasPartOf, JobSeatView}
use Rattle.prl_seats.specs.declared.jobs.Stage.{Stage}
use Rattle.prl_seats.proofs.Following.{known_once}
use Rattle.prl_board.proofs.Lending.{bare_has_none, stop_keeps_halves, stop_settles}
use Rattle.prl_board.proofs.lone.settle_seat.Goals as goal

pub exchange-requires-clause-run : goal.exchange-requires-clause-run
exchange-requires-clause-run c = λ j has. ap (λ (v : View). v.constants) c.requires.lent.given ∙ (sym c.requires.whole.2 ∙ has)

pub exchange-requires-clause-stands : goal.exchange-requires-clause-stands
exchange-requires-clause-stands c = λ j has part.
    known_once c.args.whole.now.me.0 c.args.board.now.known (λ k. Follows k c.args.whole.now.me.0 c.args.seat.now.task.0 c.args.seat.now.job c.args.seat.now.place c.args.seat.now.stage) c.requires.whole.2 c.requires.lent.stands j has

pub stopped-requires : goal.stopped-requires
stopped-requires c =
    let taken = c.exchange.ensures.taken in record {
      seat = record {
        table = ap (λ (s : JobSeatView). s.table) taken ∙ c.requires.whole.0;
        known = ap (λ (s : JobSeatView). s.view.constants) taken ∙ c.requires.whole.2;
        part = subst (λ (s : JobSeatView). HasPartOf s.task.0 s.view) (sym taken) c.requires.lent.stands.at.part;
      };
    }

pub exchange-requires-2-clause-slots : goal.exchange-requires-2-clause-slots
exchange-requires-2-clause-slots c = ap (λ m. m.1) c.exchange.ensures.given.2

pub exchange-requires-2-clause-run : goal.exchange-requires-2-clause-run
exchange-requires-2-clause-run c = λ j has.
    c.stopped.ensures.seat.known ∙ (sym (ap (λ m. m.0.constants) c.exchange.ensures.given.2 ∙ ap (λ (v : View). v.constants) c.requires.lent.given) ∙ has)

pub exchange-requires-2-clause-stands : goal.exchange-requires-2-clause-stands
exchange-requires-2-clause-stands c = λ j has part.
    absurd (bare_has_none c.args.board.now.known c.stopped.new.self.task.0 (subst (HasPartOf c.stopped.new.self.task.0) (ap (λ m. m.0) c.exchange.ensures.given.2 ∙ c.requires.lent.given) part))

pub returns-clause-same : goal.returns-clause-same
returns-clause-same c =
    let told : c.stopped.new.self.view ≡ with_part c.args.seat.now.task.0 (stop_loaded c.stopped.ensures.answer.word (part_at c.args.board.now.known c.args.seat.now.task.0 c.args.seat.now.place c.args.whole.now.me.0)) c.args.whole.now.me.0 =
    subst (λ (s : JobSeatView). c.stopped.new.self.view ≡ with_part s.task.0 (stop_loaded c.stopped.ensures.answer.word (part_at c.args.board.now.known s.task.0 s.place s.view)) s.view) c.exchange.ensures.taken c.stopped.ensures.answer.told.view in (
      c.exchange-2.ensures.given.0 ∙ c.stopped.ensures.same.table ∙ ap (λ (s : JobSeatView). s.table) c.exchange.ensures.taken,
      ap (λ m. m.1) c.exchange-2.ensures.given.2,
      ap (λ m. m.0.constants) c.exchange-2.ensures.given.2 ∙ c.stopped.ensures.seat.known,
      ap (λ m. m.0.clock) c.exchange-2.ensures.given.2 ∙ ap (λ (v : View). v.clock) told,
    )

pub returns-clause-others : goal.returns-clause-others
returns-clause-others c = λ j p ne has.
    let told : c.stopped.new.self.view ≡ with_part c.args.seat.now.task.0 (stop_loaded c.stopped.ensures.answer.word (part_at c.args.board.now.known c.args.seat.now.task.0 c.args.seat.now.place c.args.whole.now.me.0)) c.args.whole.now.me.0 =
    subst (λ (s : JobSeatView). c.stopped.new.self.view ≡ with_part s.task.0 (stop_loaded c.stopped.ensures.answer.word (part_at c.args.board.now.known s.task.0 s.place s.view)) s.view) c.exchange.ensures.taken c.stopped.ensures.answer.told.view in
    let settles = stop_settles c.args.board.now.known c.args.whole.now.me.0 c.stopped.new.self.view c.args.seat.now.task.0 c.args.seat.now.job c.args.seat.now.place c.stopped.ensures.answer.word c.args.seat.now.stage c.requires.lent.stands told in
    ap (λ m. get_elem? m.0.tasks j) c.exchange-2.ensures.given.2 ∙ settles.2 j p ne has

pub returns-clause-stays : goal.returns-clause-stays
returns-clause-stays c =
    let first = c.exchange.ensures.taken in
    let second = c.exchange-2.ensures.taken in (
      ap (λ (s : JobSeatView). s.task) second ∙ c.stopped.ensures.same.task ∙ ap (λ (s : JobSeatView). s.task) first,
      record {
        job = ap (λ (s : JobSeatView). s.job) second ∙ c.stopped.ensures.stays.job ∙ ap (λ (s : JobSeatView). s.job) first;
        place = ap (λ (s : JobSeatView). s.place) second ∙ c.stopped.ensures.stays.place ∙ ap (λ (s : JobSeatView). s.place) first;
        stage = ap (λ (s : JobSeatView). s.stage) second ∙ c.stopped.ensures.stays.stage ∙ ap (λ (s : JobSeatView). s.stage) first;
      },
    )

pub returns-clause-lent : goal.returns-clause-lent
returns-clause-lent c =
    let second = c.exchange-2.ensures.taken in
    let task = c.stopped.ensures.same.task ∙ ap (λ (s : JobSeatView). s.task) c.exchange.ensures.taken in
    let P : View × ℕ × ℕ × ℕ × Stage → Type 0 = λ z. Follows c.args.board.now.known z.0 z.1 z.2 z.3 z.4 in
    record {
      task = ap (λ (s : JobSeatView). s.task) second ∙ task;
      given = ap (λ (s : JobSeatView). s.view) second ∙ ap (λ m. m.0) c.exchange.ensures.given.2 ∙ c.requires.lent.given;
      stands = subst P
          (λ h. (ap (λ m. m.0) (sym c.exchange-2.ensures.given.2) h, (task h).0, ap (λ (s : JobSeatView). s.job) (sym second) h, ap (λ (s : JobSeatView). s.place) (sym second) h, ap (λ (s : JobSeatView). s.stage) (sym second) h))
          (c.stands.ensures c.args.board.now.known c.stopped.ensures.seat.known c.stopped.ensures.seat.part);
    }

pub returns-clause-settled : goal.returns-clause-settled
returns-clause-settled c =
    let first = c.exchange.ensures.taken in
    let second = c.exchange-2.ensures.taken in
    let told : c.stopped.new.self.view ≡ with_part c.args.seat.now.task.0 (stop_loaded c.stopped.ensures.answer.word (part_at c.args.board.now.known c.args.seat.now.task.0 c.args.seat.now.place c.args.whole.now.me.0)) c.args.whole.now.me.0 =
    subst (λ (s : JobSeatView). c.stopped.new.self.view ≡ with_part s.task.0 (stop_loaded c.stopped.ensures.answer.word (part_at c.args.board.now.known s.task.0 s.place s.view)) s.view) first c.stopped.ensures.answer.told.view in
    let settles = stop_settles c.args.board.now.known c.args.whole.now.me.0 c.stopped.new.self.view c.args.seat.now.task.0 c.args.seat.now.job c.args.seat.now.place c.stopped.ensures.answer.word c.args.seat.now.stage c.requires.lent.stands told in (
      ap (λ m. (part_of c.args.seat.now.task.0 m.0).stand.ended) c.exchange-2.ensures.given.2 ∙ settles.3
          ∙ sym (ap (λ (s : JobSeatView). s.job) second ∙ c.stopped.ensures.stays.job ∙ ap (λ (s : JobSeatView). s.job) first),
      ap (λ m. (part_of c.args.seat.now.task.0 m.0).stand.place) c.exchange-2.ensures.given.2 ∙ settles.4
          ∙ sym (ap (λ (s : JobSeatView). s.place) second ∙ c.stopped.ensures.stays.place ∙ ap (λ (s : JobSeatView). s.place) first),
    )

pub returns-clause-halves : goal.returns-clause-halves
returns-clause-halves c =
    let told : c.stopped.new.self.view ≡ with_part c.args.seat.now.task.0 (stop_loaded c.stopped.ensures.answer.word (part_at c.args.board.now.known c.args.seat.now.task.0 c.args.seat.now.place c.args.whole.now.me.0)) c.args.whole.now.me.0 =
    subst (λ (s : JobSeatView). c.stopped.new.self.view ≡ with_part s.task.0 (stop_loaded c.stopped.ensures.answer.word (part_at c.args.board.now.known s.task.0 s.place s.view)) s.view) c.exchange.ensures.taken c.stopped.ensures.answer.told.view in
    stop_keeps_halves c.args.board.now.known c.args.whole.now.me.0 c.exchange-2.new.other.me.0 c.args.seat.now.task.0 c.args.seat.now.place c.stopped.ensures.answer.word c.requires.lent.stands.at.part
    (ap (λ m. m.0) c.exchange-2.ensures.given.2 ∙ told)

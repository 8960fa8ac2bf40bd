use Rattle.std.proofs.Common.{◌≡◌, ◌<◌, ℕ, length, set, sym, ap, subst, ◌∙◌, vec_items, Some}
use lib.ListN.{get_elem?}
use Rattle.prl_base.specs.declared.numbers.TaskNo.{TaskNo}
use Rattle.prl_seats.specs.JobSeats.{JobSeatView}
use Rattle.prl_board.specs.Vocabulary.{LoneView, StandAs, AreLent, IsLent, IsSettled, KeepHalves}
use Rattle.prl_seats.proofs.Following.{known_once}
use Rattle.prl_board.proofs.Lending.{relent, set_is, stands_set}
use Rattle.prl_board.proofs.Lists.{read_there}
use Rattle.prl_board.proofs.lone.Lone.settle.Goals as goal

pub settle_seat-requires-clause-whole : goal.settle_seat-requires-clause-whole
settle_seat-requires-clause-whole c =
    (ap (λ (l : LoneView). l.table) c.self.view_is ∙ c.requires.lone.table, c.self.invariant.0, ap (λ (l : LoneView). l.view.constants) c.self.view_is ∙ c.requires.lone.known)

pub settle_seat-requires-clause-lent : goal.settle_seat-requires-clause-lent
settle_seat-requires-clause-lent c =
    let inside : c.args.i < length (vec_items c.self.inside.seats) = subst (λ (l : LoneView). c.args.i < length l.seats) (sym c.self.view_is) c.requires.task in
    let there = read_there (vec_items c.self.inside.seats) c.args.i c.index_mut.result.now inside c.index_mut.ensures.value in
    let known : c.self.inside.whole.me.0.constants ≡ Some c.args.board.now.known = ap (λ (l : LoneView). l.view.constants) c.self.view_is ∙ c.requires.lone.known in
    let its = (c.self.invariant.1 c.args.board.now.known known).each c.args.i c.index_mut.result.now there in
    subst (λ (n : ℕ). IsLent c.args.board.now.known c.self.inside.whole.me.0 n c.index_mut.result.now) (sym (ap (λ (t : TaskNo). t.0) its.task)) its

pub invariant_of-self : goal.invariant_of-self
invariant_of-self c =
    let inside : c.args.i < length (vec_items c.self.inside.seats) = subst (λ (l : LoneView). c.args.i < length l.seats) (sym c.self.view_is) c.requires.task in
    let there = read_there (vec_items c.self.inside.seats) c.args.i c.index_mut.result.now inside c.index_mut.ensures.value in
    let known : c.self.inside.whole.me.0.constants ≡ Some c.args.board.now.known = ap (λ (l : LoneView). l.view.constants) c.self.view_is ∙ c.requires.lone.known in
    let lent = c.self.invariant.1 c.args.board.now.known known in
    let its = lent.each c.args.i c.index_mut.result.now there in
    let task : c.index_mut.result.now.task.0 ≡ c.args.i = ap (λ (t : TaskNo). t.0) its.task in
    let mine : IsLent c.args.board.now.known c.settle_seat.new.whole.me.0 c.args.i c.settle_seat.new.seat = subst (λ (n : ℕ). IsLent c.args.board.now.known c.settle_seat.new.whole.me.0 n c.settle_seat.new.seat) task c.settle_seat.ensures.lent in (
      c.settle_seat.ensures.same.1,
      known_once c.settle_seat.new.whole.me.0 c.args.board.now.known (λ k. AreLent k c.settle_seat.new.whole.me.0 (set (vec_items c.self.inside.seats) c.args.i c.settle_seat.new.seat) c.self.inside.clock) c.settle_seat.ensures.same.2
          (relent c.args.board.now.known c.self.inside.whole.me.0 c.settle_seat.new.whole.me.0 c.args.i (vec_items c.self.inside.seats) c.settle_seat.new.seat c.self.inside.clock lent known c.settle_seat.ensures.same.2
          (λ j p ne has. c.settle_seat.ensures.others j p (λ e. ne (e ∙ task)) has) c.settle_seat.ensures.same.3 mine),
    )

pub returns-clause-lone : goal.returns-clause-lone
returns-clause-lone c = record {
  table = c.settle_seat.ensures.same.0 ∙ ap (λ (l : LoneView). l.table) c.self.view_is ∙ c.requires.lone.table;
  known = c.settle_seat.ensures.same.2;
}

pub returns-clause-seats : goal.returns-clause-seats
returns-clause-seats c =
    let inside : c.args.i < length (vec_items c.self.inside.seats) = subst (λ (l : LoneView). c.args.i < length l.seats) (sym c.self.view_is) c.requires.task in
    let there = read_there (vec_items c.self.inside.seats) c.args.i c.index_mut.result.now inside c.index_mut.ensures.value in
    subst (λ (l : LoneView). StandAs l.seats (set (vec_items c.self.inside.seats) c.args.i c.settle_seat.new.seat)) c.self.view_is
    (stands_set (vec_items c.self.inside.seats) c.args.i c.index_mut.result.now c.settle_seat.new.seat there c.settle_seat.ensures.stays.0 c.settle_seat.ensures.stays.1)

pub returns-clause-clock : goal.returns-clause-clock
returns-clause-clock c = c.settle_seat.ensures.same.3 ∙ ap (λ (l : LoneView). l.view.clock) c.self.view_is

pub returns-clause-settled : goal.returns-clause-settled
returns-clause-settled c = λ s has.
    let inside : c.args.i < length (vec_items c.self.inside.seats) = subst (λ (l : LoneView). c.args.i < length l.seats) (sym c.self.view_is) c.requires.task in
    let there = read_there (vec_items c.self.inside.seats) c.args.i c.index_mut.result.now inside c.index_mut.ensures.value in
    let known : c.self.inside.whole.me.0.constants ≡ Some c.args.board.now.known = ap (λ (l : LoneView). l.view.constants) c.self.view_is ∙ c.requires.lone.known in
    let its = (c.self.invariant.1 c.args.board.now.known known).each c.args.i c.index_mut.result.now there in
    let P : ℕ × JobSeatView → Type 0 = λ z. IsSettled c.settle_seat.new.whole.me.0 z.0 z.1 in
    let is = set_is (vec_items c.self.inside.seats) c.args.i c.index_mut.result.now c.settle_seat.new.seat s there has in
    subst P (λ h. (ap (λ (t : TaskNo). t.0) its.task h, is h)) c.settle_seat.ensures.settled

pub returns-clause-others : goal.returns-clause-others
returns-clause-others c = λ j p ne has.
    let inside : c.args.i < length (vec_items c.self.inside.seats) = subst (λ (l : LoneView). c.args.i < length l.seats) (sym c.self.view_is) c.requires.task in
    let there = read_there (vec_items c.self.inside.seats) c.args.i c.index_mut.result.now inside c.index_mut.ensures.value in
    let known : c.self.inside.whole.me.0.constants ≡ Some c.args.board.now.known = ap (λ (l : LoneView). l.view.constants) c.self.view_is ∙ c.requires.lone.known in
    let its = (c.self.invariant.1 c.args.board.now.known known).each c.args.i c.index_mut.result.now there in
    let task : c.index_mut.result.now.task.0 ≡ c.args.i = ap (λ (t : TaskNo). t.0) its.task in
    c.settle_seat.ensures.others j p (λ e. ne (e ∙ task)) (ap (λ (l : LoneView). get_elem? l.view.tasks j) c.self.view_is ∙ has)

pub returns-clause-halves : goal.returns-clause-halves
returns-clause-halves c = subst (λ (l : LoneView). KeepHalves l.view c.settle_seat.new.whole.me.0) c.self.view_is c.settle_seat.ensures.halves

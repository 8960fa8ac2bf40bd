use Rattle.std.proofs.Common.{◌≡◌, ◌∙◌, ap}
use Rattle.prl_seats.specs.JobSeats.{AnswersRelease}
use Rattle.prl_board.specs.Vocabulary.{IsReleasedBy, LoneView, MayRelease}
use Rattle.prl_board.proofs.Called.{call_after, has_index, kept_after, lone_after, may_lend, release_is_exact, seen_with, taken, taken_lent, taken_placed}
use Rattle.prl_board.proofs.lone.Lone.release.Goals as goal

pub index_mut-requires : goal.index_mut-requires
index_mut-requires g c = has_index c.args.task.0 c.self.view_is c.requires.place.1 c.self.inside.seats.ok.0

pub release_lent-requires : goal.release_lent-requires
release_lent-requires g c =
    let its = taken c.args.task c.self.view_is c.requires.lone c.self.invariant.1 c.requires.place.1 c.index_mut.ensures.value in
    record { whole = may_lend c.self.view_is c.requires.lone c.self.invariant.0; lent = taken_lent its; place = taken_placed MayRelease c.self.view_is its c.requires.place }

pub invariant_of-self : goal.invariant_of-self
invariant_of-self g c = (c.release_lent.ensures.same.1, kept_after (taken c.args.task c.self.view_is c.requires.lone c.self.invariant.1 c.requires.place.1 c.index_mut.ensures.value) c.release_lent.ensures.returned)

pub returns-clause-lone : goal.returns-clause-lone
returns-clause-lone g c = lone_after c.self.view_is c.requires.lone c.release_lent.ensures.same.0 c.release_lent.ensures.returned.known

pub returns-clause-call : goal.returns-clause-call
returns-clause-call g c =
    call_after (λ s t. AnswersRelease c.args.board.now.known s t c.release_lent.result × (t.place ≡ s.place)) c.self.view_is
    (taken c.args.task c.self.view_is c.requires.lone c.self.invariant.1 c.requires.place.1 c.index_mut.ensures.value) c.release_lent.ensures.same.2 c.release_lent.ensures.returned (c.release_lent.ensures.answer, c.release_lent.ensures.place)

pub returns-clause-exact : goal.returns-clause-exact
returns-clause-exact g c = λ s r has clock.
    let its = taken c.args.task c.self.view_is c.requires.lone c.self.invariant.1 c.requires.place.1 c.index_mut.ensures.value in
    seen_with (λ seats x. IsReleasedBy c.args.board.now.known x r.now c.release_lent.result) c.self.view_is its has
    (release_is_exact c.args.board.now.known _ _ r c.release_lent.result c.release_lent.ensures.answer (ap (λ (l : LoneView). l.view.clock) c.self.view_is ∙ clock))

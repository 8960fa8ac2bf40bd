use Rattle.std.proofs.Common.{vec_items}
use Rattle.prl_rule.specs.Known.{run_of}
use Rattle.prl_board.specs.Vocabulary.{FindsTag, AnswersRead, MayRead}
use Rattle.prl_board.proofs.Called.{call_after, has_index, kept_after, lone_after, may_lend, seen_with, taken, taken_lent, taken_placed}
use Rattle.prl_board.proofs.Found.{read_is_exact}
use Rattle.prl_board.proofs.lone.Lone.read.Goals as goal

pub index_mut-requires : goal.index_mut-requires
index_mut-requires g c = has_index c.args.task.0 c.self.view_is c.requires.place.1 c.self.inside.seats.ok.0

pub read_lent-requires : goal.read_lent-requires
read_lent-requires g c =
    let its = taken c.args.task c.self.view_is c.requires.lone c.self.invariant.1 c.requires.place.1 c.index_mut.ensures.value in
    record { whole = may_lend c.self.view_is c.requires.lone c.self.invariant.0; lent = taken_lent its; place = taken_placed MayRead c.self.view_is its c.requires.place }

pub invariant_of-self : goal.invariant_of-self
invariant_of-self g c = (c.read_lent.ensures.same.1, kept_after (taken c.args.task c.self.view_is c.requires.lone c.self.invariant.1 c.requires.place.1 c.index_mut.ensures.value) c.read_lent.ensures.returned)

pub returns-clause-lone : goal.returns-clause-lone
returns-clause-lone g c = lone_after c.self.view_is c.requires.lone c.read_lent.ensures.same.0 c.read_lent.ensures.returned.known

pub returns-clause-call : goal.returns-clause-call
returns-clause-call g c =
    call_after (λ s t. AnswersRead c.args.board.now.known s t c.read_lent.result s.stage) c.self.view_is
    (taken c.args.task c.self.view_is c.requires.lone c.self.invariant.1 c.requires.place.1 c.index_mut.ensures.value) c.read_lent.ensures.same.2 c.read_lent.ensures.returned c.read_lent.ensures.answer

pub returns-clause-exact : goal.returns-clause-exact
returns-clause-exact g c = λ s has.
    let its = taken c.args.task c.self.view_is c.requires.lone c.self.invariant.1 c.requires.place.1 c.index_mut.ensures.value in
    seen_with (λ seats x. FindsTag (run_of c.args.board.now.known) seats x.stage c.read_lent.result) c.self.view_is its has
    (read_is_exact c.args.board.now.known _ _ c.read_lent.result (vec_items c.self.inside.seats) (λ j x there. (its.lent.each j x there).stands) c.read_lent.ensures.answer)

use Rattle.std.proofs.Common.{set, vec_items, refl}
use Rattle.prl_rule.specs.Known.{run_of}
use Rattle.prl_board.specs.Vocabulary.{LeavesTag, AnswersWrite, MayWrite}
use Rattle.prl_board.proofs.Called.{call_after, has_index, kept_after, lone_after, may_lend, seen_with, taken, taken_lent, taken_placed}
use Rattle.prl_board.proofs.Found.{write_is_exact}
use Rattle.prl_board.proofs.Lists.{set_here}
use Rattle.prl_board.proofs.lone.Lone.write.Goals as goal

pub index_mut-requires : goal.index_mut-requires
index_mut-requires g c = has_index c.args.task.0 c.self.view_is c.requires.place.1 c.self.inside.seats.ok.0

pub write_lent-requires : goal.write_lent-requires
write_lent-requires g c =
    let its = taken c.args.task c.self.view_is c.requires.lone c.self.invariant.1 c.requires.place.1 c.index_mut.ensures.value in
    record { whole = may_lend c.self.view_is c.requires.lone c.self.invariant.0; lent = taken_lent its; place = taken_placed MayWrite c.self.view_is its c.requires.place }

pub invariant_of-self : goal.invariant_of-self
invariant_of-self g c = (c.write_lent.ensures.same.1, kept_after (taken c.args.task c.self.view_is c.requires.lone c.self.invariant.1 c.requires.place.1 c.index_mut.ensures.value) c.write_lent.ensures.returned)

pub returns-clause-lone : goal.returns-clause-lone
returns-clause-lone g c = lone_after c.self.view_is c.requires.lone c.write_lent.ensures.same.0 c.write_lent.ensures.returned.known

pub returns-clause-call : goal.returns-clause-call
returns-clause-call g c =
    call_after (λ s t. AnswersWrite c.args.board.now.known s t c.write_lent.result s.stage) c.self.view_is
    (taken c.args.task c.self.view_is c.requires.lone c.self.invariant.1 c.requires.place.1 c.index_mut.ensures.value) c.write_lent.ensures.same.2 c.write_lent.ensures.returned c.write_lent.ensures.answer

pub returns-clause-exact : goal.returns-clause-exact
returns-clause-exact g c = λ s has.
    let its = taken c.args.task c.self.view_is c.requires.lone c.self.invariant.1 c.requires.place.1 c.index_mut.ensures.value in
    seen_with (λ seats x. LeavesTag (run_of c.args.board.now.known) (set (vec_items c.self.inside.seats) c.args.task.0 c.write_lent.new.seat) x.stage) c.self.view_is its has
    (write_is_exact c.args.board.now.known c.keeps_facts.ensures c.args.task.0 _ _ c.write_lent.new.seat c.write_lent.result (set (vec_items c.self.inside.seats) c.args.task.0 c.write_lent.new.seat)
    (its.lent.each c.args.task.0 _ its.there).stands c.write_lent.ensures.answer (set_here (vec_items c.self.inside.seats) c.args.task.0 c.write_lent.new.seat _ its.there) refl refl)

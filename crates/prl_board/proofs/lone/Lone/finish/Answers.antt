use Rattle.prl_seats.specs.JobSeats.{Ends}
use Rattle.prl_board.specs.TaskSeats.{MayFinish}
use Rattle.prl_board.proofs.Called.{call_after, has_index, kept_after, lone_after, may_lend, taken, taken_lent, taken_placed}
use Rattle.prl_board.proofs.lone.Lone.finish.Goals as goal

pub index_mut-requires : goal.index_mut-requires
index_mut-requires g c = has_index c.args.task.0 c.self.view_is c.requires.place.1 c.self.inside.seats.ok.0

pub finish_lent-requires : goal.finish_lent-requires
finish_lent-requires g c =
    let its = taken c.args.task c.self.view_is c.requires.lone c.self.invariant.1 c.requires.place.1 c.index_mut.ensures.value in
    record { whole = may_lend c.self.view_is c.requires.lone c.self.invariant.0; lent = taken_lent its; place = taken_placed MayFinish c.self.view_is its c.requires.place }

pub invariant_of-self : goal.invariant_of-self
invariant_of-self g c = (c.finish_lent.ensures.same.1, kept_after (taken c.args.task c.self.view_is c.requires.lone c.self.invariant.1 c.requires.place.1 c.index_mut.ensures.value) c.finish_lent.ensures.returned)

pub returns-clause-lone : goal.returns-clause-lone
returns-clause-lone g c = lone_after c.self.view_is c.requires.lone c.finish_lent.ensures.same.0 c.finish_lent.ensures.returned.known

pub returns-clause-call : goal.returns-clause-call
returns-clause-call g c =
    call_after (λ s t. Ends c.args.board.now.known s t) c.self.view_is
    (taken c.args.task c.self.view_is c.requires.lone c.self.invariant.1 c.requires.place.1 c.index_mut.ensures.value) c.finish_lent.ensures.same.2 c.finish_lent.ensures.returned c.finish_lent.ensures.answer

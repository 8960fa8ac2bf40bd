use Rattle.prl_base.proofs.Standard.{List, length, sym, subst}
use Rattle.prl_edf.specs.declared.pieces.Piece.{Piece}
use Rattle.prl_responses.specs.code.PieceTimes.{AllFitOwn, AreAllTimes}
use Rattle.prl_responses.specs.Responses.{times_at}
use Rattle.prl_responses.proofs.OwnWindows.{all_fit}
use Rattle.prl_responses.proofs.PieceTimes.{over_all}
use Rattle.prl_responses.proofs.responses.times_of.Goals as goal

pub times_over-requires : goal.times_over-requires
times_over-requires c =
    subst (λ (xs : List Piece). AllFitOwn c.args.plan.now.graph xs) (sym c.as_slice.ensures)
    (all_fit c.args.plan.now c.plan_is_one.ensures c.args.horizon c.requires.horizon c.plan_facts.ensures c.args.timed.now c.requires.run)

pub returns-clause-times : goal.returns-clause-times
returns-clause-times c = λ i inside.
    (let all : AreAllTimes c.args.plan.now.graph c.args.timed.now.pieces (length c.args.timed.now.pieces) c.in_ok-list.list.items =
    subst (λ (xs : List Piece). AreAllTimes c.args.plan.now.graph xs (length xs) c.in_ok-list.list.items) c.as_slice.ensures c.in_ok-list.ensures in
    over_all c.args.plan.now.graph c.args.timed.now.pieces c.requires.run.longest i (times_at c.in_ok-list.list.items i) (all.each i inside))

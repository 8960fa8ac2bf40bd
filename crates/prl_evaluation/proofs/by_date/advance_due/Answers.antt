use Rattle.std.proofs.Common.{arith}
use Rattle.prl_evaluation.proofs.ByDate.{all_behind, place_within, step_can_grow, step_part, step_rest}
use Rattle.prl_evaluation.proofs.by_date.advance_due.Goals as goal

pub bounds-rest-place : goal.bounds-rest-place
bounds-rest-place c =
    place_within c.args.setting.now c.requires.set c.args.rest.now c.loop-place.flows c.loop-place.invariant.1 c.args._date c.requires.before c.args.due.now c.requires.due c.loop-place.place-index c.loop-place-test.true

pub advance-requires-clause-ready : goal.advance-requires-clause-ready
advance-requires-clause-ready c =
    step_can_grow c.args.setting.now c.requires.set c.args.rest.now c.loop-place.flows c.loop-place.invariant.1 c.args._date c.requires.before c.args.due.now c.requires.due c.loop-place.place-index
    c.loop-place-test.true c.loop-place.invariant.2

pub loop-place-preserved : goal.loop-place-preserved
loop-place-preserved c = (
  c.in_ok-advance.ensures.under_way,
  step_rest c.args.setting.now c.requires.set c.args.rest.now c.loop-place.flows c.loop-place.invariant.1 c.args._date c.requires.before c.args.due.now c.requires.due c.loop-place.place-index
      c.loop-place-test.true c.advance.new.flows c.in_ok-advance.ensures.grown,
  step_part c.args.setting.now c.requires.set c.args.rest.now c.loop-place.flows c.loop-place.invariant.1 c.args._date c.requires.before c.args.due.now c.requires.due c.loop-place.place-index
      c.loop-place-test.true c.loop-place.invariant.2 c.advance.new.flows c.in_ok-advance.ensures.grown,
)

pub returns-clause-at : goal.returns-clause-at
returns-clause-at c =
    all_behind c.args.setting.now c.requires.set c.args.rest.now c.loop-place.flows c.loop-place.invariant.1 c.args._date c.requires.before c.args.due.now c.requires.due c.loop-place.place-index
    (omega arith) c.loop-place.invariant.2

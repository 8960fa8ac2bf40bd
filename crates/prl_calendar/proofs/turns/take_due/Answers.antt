use Rattle.prl_base.proofs.Standard.{arith, MatchOption-at_some}
use Rattle.prl_calendar.specs.Turns.{HasTurned, last}
use Rattle.prl_calendar.proofs.Turning.{turned_first, turned_later, turning_step, turns_fall}
use Rattle.prl_calendar.proofs.turns.take_due.Goals as goal

pub add_kind-requires-clause-first : goal.add_kind-requires-clause-first
add_kind-requires-clause-first c =
    let turned = MatchOption-at_some _ (λ first. HasTurned c.args.clocks.now c.args.date first c.loop-first.turns c.turn.new.turns) c.in-Some.first c.in-Some.is c.in_ok-first.ensures.some in
    turned_first c.args.clocks.now last c.args.date c.in-Some.first c.loop-first.turns c.turn.new.turns c.loop-first.due.items c.loop-first.invariant turned

pub loop-first-smaller : goal.loop-first-smaller
loop-first-smaller c =
    let turned = MatchOption-at_some _ (λ first. HasTurned c.args.clocks.now c.args.date first c.loop-first.turns c.turn.new.turns) c.in-Some.first c.in-Some.is c.in_ok-first.ensures.some in
    turns_fall c.args.clocks.now c.args.date c.in-Some.first c.loop-first.turns c.turn.new.turns turned
    (turned_later c.args.clocks.now c.requires.periods last c.args.date c.in-Some.first c.loop-first.turns c.turn.new.turns c.loop-first.due.items c.requires.before (omega arith) c.loop-first.invariant turned)

pub loop-first-preserved : goal.loop-first-preserved
loop-first-preserved c =
    let turned = MatchOption-at_some _ (λ first. HasTurned c.args.clocks.now c.args.date first c.loop-first.turns c.turn.new.turns) c.in-Some.first c.in-Some.is c.in_ok-first.ensures.some in
    turning_step c.args.clocks.now c.requires.periods last c.args.date c.in-Some.first c.loop-first.turns c.turn.new.turns c.loop-first.due.items c.add_kind.new.due.items
    c.requires.before (omega arith) c.loop-first.invariant turned c.in_ok-add_kind.ensures

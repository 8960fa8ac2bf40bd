use Rattle.std.proofs.Common.{◌+◌, ◌≤◌, sym, ◌∙◌, arith}
use Rattle.prl_plan.specs.Horizons.{constants_of}
use Rattle.prl_overlaps.specs.Demand.{wcets_of}
use Rattle.prl_edf.proofs.Skips.{room, passes, tells}
use Rattle.prl_edf.proofs.unrolling.unroll_piece.Goals as goal
use Rattle.prl_edf.proofs.unrolling.unroll_piece.Goals.{After-plan_facts}

-- a tick at least is left to the piece
room_here : (c : After-plan_facts) → c.args.now + 1 ≤ c.args.piece.to
room_here c =
    let s = c.requires.so_far in
    room (constants_of c.args.plan.now c.args.horizon) c.plan_facts.ensures (wcets_of c.args.plan.now) c.args.pieces.now
    c.requires.longest c.requires.run s.0 c.args.piece s.1 s.2 c.args.now c.args.list.now.items s.4

pub overflow_sub-piece : goal.overflow_sub-piece
overflow_sub-piece c = omega (arith, room_here (goal.at.overflow_sub-piece c).After-plan_facts)

pub overflow_sub-piece-then-last : goal.overflow_sub-piece-then-last
overflow_sub-piece-then-last c = omega (arith, room_here (goal.at.overflow_sub-piece-then-last c).After-plan_facts)

pub overflow_sub-result : goal.overflow_sub-result
overflow_sub-result c = omega (arith, room_here (goal.at.overflow_sub-result c).After-plan_facts)

pub returns-then-last : goal.returns-then-last
returns-then-last c = λ k rest at is so_far.
    tells (constants_of c.args.plan.now c.args.horizon) c.plan_facts.ensures (wcets_of c.args.plan.now) c.args.pieces.now
    c.requires.longest c.requires.run k c.args.piece rest at c.args.now c.args.list.now.items so_far
    (sym is ∙ c.if-last.true) c.push_ticks.new.events.items c.push_acts.new.events.items c.in_ok-push_ticks.ensures c.in_ok-push_acts.ensures

pub returns : goal.returns
returns c = λ k rest at is so_far.
    passes (constants_of c.args.plan.now c.args.horizon) c.plan_facts.ensures (wcets_of c.args.plan.now) c.args.pieces.now
    c.requires.longest c.requires.run k c.args.piece rest at c.args.now c.args.list.now.items so_far
    (sym is ∙ c.if-last.false)

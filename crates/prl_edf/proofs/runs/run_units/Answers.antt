use Rattle.std.proofs.Common.{ℕ, List, map, vec_items, sym, subst}
use Rattle.prl_plan.specs.Vocabulary.{constants_of, RunConstants}
use Rattle.prl_edf.specs.Vocabulary.{Piece, IsFeasibleRun, units_of}
use Rattle.prl_edf.proofs.Making.{of_all, waits, is_whole, misses}
use Rattle.prl_edf.proofs.runs.run_units.Goals as goal

pub returns-then-best-horizon : goal.returns-then-best-horizon
returns-then-best-horizon c =
    let k : RunConstants = constants_of c.args.plan.now c.args.horizon in
    let u : ℕ → ℕ → ℕ = units_of (map vec_items c.args.units.now) in
    let chosen = of_all c.deref.result.now c.loop-pieces.rests.items c.loop-pieces.now k.end k.tasks c.choose-best.result
    c.deref.ensures.value c.loop-pieces.invariant.going.kept_rests.tasks c.choose-best.ensures in
    subst (λ (l : List Piece). IsFeasibleRun k u (record { pieces = l })) (sym c.new.ensures)
    (is_whole k c.plan_facts.ensures u c.loop-pieces.pieces.items c.loop-pieces.now c.loop-pieces.rests.items c.loop-pieces.invariant c.choose-best.result chosen c.in-None.is c.if-best-horizon.true)

pub loop-pieces-preserved-in-None : goal.loop-pieces-preserved-in-None
loop-pieces-preserved-in-None c =
    let k : RunConstants = constants_of c.args.plan.now c.args.horizon in
    let chosen = of_all c.deref.result.now c.loop-pieces.rests.items c.loop-pieces.now k.end k.tasks c.choose-best.result
    c.deref.ensures.value c.loop-pieces.invariant.going.kept_rests.tasks c.choose-best.ensures in
    (waits k c.plan_facts.ensures (units_of (map vec_items c.args.units.now)) c.loop-pieces.pieces.items c.loop-pieces.now c.loop-pieces.rests.items c.loop-pieces.invariant
    c.choose-best.result chosen c.in-None.is c.if-best-horizon.false).1

pub returns-then-ready-now : goal.returns-then-ready-now
returns-then-ready-now c =
    let k : RunConstants = constants_of c.args.plan.now c.args.horizon in
    let chosen = of_all c.deref.result.now c.loop-pieces.rests.items c.loop-pieces.now k.end k.tasks c.choose-best.result
    c.deref.ensures.value c.loop-pieces.invariant.going.kept_rests.tasks c.choose-best.ensures in
    misses k c.plan_facts.ensures (units_of (map vec_items c.args.units.now)) c.loop-pieces.pieces.items c.loop-pieces.now c.loop-pieces.rests.items c.loop-pieces.invariant c.choose-best.result chosen
    c.in-Some.ready c.in-Some.is c.if-ready-now.true

use Rattle.prl_base.proofs.Standard.{◌≡◌, ◌+◌, ◌<◌, ℕ, List, length, get_or, drop, sym, ap, subst, ◌∙◌, arith, slice_get-get_or}
use Rattle.prl_plan.specs.Vocabulary.{constants_of, RunConstants}
use Rattle.prl_plan.specs.declared.events.Event.{Event}
use Rattle.prl_plan.specs.declared.graphs.TaskGraph.{TaskGraph}
use Rattle.prl_edf.specs.Vocabulary.{Piece, run_of, wcets_of, IsUnrolling}
use Rattle.prl_edf.proofs.Skips.{piece_job, piece_at, told_last, lasts_length, none_left, unrolls, unrolled}
use Rattle.prl_edf.proofs.unrolling.unroll.Goals as goal

abbrev zero_piece : Piece
zero_piece = record { task = record { 0 = 0 }; job = 0; from = 0; to = 0 }

pub lasts_of-requires : goal.lasts_of-requires
lasts_of-requires c = λ at p is.
    let same : length c.graph.result.now.tasks ≡ length c.args.plan.now.graph.tasks = ap (λ (x : TaskGraph). length x.tasks) c.graph.ensures.graph in
    let job = piece_job (constants_of c.args.plan.now c.args.horizon) c.plan_facts.ensures (wcets_of c.args.plan.now) c.args.pieces.now c.requires.longest c.requires.run at p is in
    omega (arith, same, c.len.ensures, job.task)

pub loop-k-init : goal.loop-k-init
loop-k-init c = subst (λ (l : List Event). IsUnrolling (constants_of c.args.plan.now c.args.horizon) (run_of c.args.pieces.now) c.args.pieces.now 0 l) (sym c.new-list.ensures.items)
    (unrolls (constants_of c.args.plan.now c.args.horizon) c.args.pieces.now)

pub index-last-requires : goal.index-last-requires
index-last-requires c =
    omega (arith, lasts_length c.args.pieces.now c.in_ok-lasts.lasts.items c.in_ok-lasts.ensures, c.loop-k-test.true)

pub unroll_piece-requires-clause-job : goal.unroll_piece-requires-clause-job
unroll_piece-requires-clause-job c =
    let k : RunConstants = constants_of c.args.plan.now c.args.horizon in
    let ps : List Piece = c.args.pieces.now in
    let at : ℕ = c.loop-k.k in
    let inside : at < length ps = c.loop-k-test.true in
    let p : Piece = get_or ps at zero_piece in
    piece_job k c.plan_facts.ensures (wcets_of c.args.plan.now) ps c.requires.longest c.requires.run at p (slice_get-get_or ps at zero_piece inside)

pub unroll_piece-requires-clause-so_far : goal.unroll_piece-requires-clause-so_far
unroll_piece-requires-clause-so_far c =
    let ps : List Piece = c.args.pieces.now in
    let at : ℕ = c.loop-k.k in
    let inside : at < length ps = c.loop-k-test.true in
    let p : Piece = get_or ps at zero_piece in
    let stands = piece_at ps at zero_piece inside in (
      at,
      drop (at + 1) ps,
      stands,
      c.index-last.ensures ∙ told_last ps c.in_ok-lasts.lasts.items at p (drop (at + 1) ps) c.index-last.result.now c.in_ok-lasts.ensures inside stands,
      c.loop-k.invariant,
    )

pub loop-k-preserved : goal.loop-k-preserved
loop-k-preserved c =
    let ps : List Piece = c.args.pieces.now in
    let at : ℕ = c.loop-k.k in
    let inside : at < length ps = c.loop-k-test.true in
    let p : Piece = get_or ps at zero_piece in
    let stands = piece_at ps at zero_piece inside in
    c.in_ok-now.ensures at (drop (at + 1) ps) stands
    (c.index-last.ensures ∙ told_last ps c.in_ok-lasts.lasts.items at p (drop (at + 1) ps) c.index-last.result.now c.in_ok-lasts.ensures inside stands) c.loop-k.invariant

pub returns : goal.returns
returns c =
    let k : RunConstants = constants_of c.args.plan.now c.args.horizon in
    let ps : List Piece = c.args.pieces.now in
    unrolled k c.plan_facts.ensures (wcets_of c.args.plan.now) (run_of ps) c.requires.run c.loop-k.now c.loop-k.list.items
    (subst (λ (l : List Piece). IsUnrolling k (run_of ps) l c.loop-k.now c.loop-k.list.items) (none_left ps c.loop-k.k c.loop-k-test.false) c.loop-k.invariant)

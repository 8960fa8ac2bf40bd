use Rattle.std.proofs.Common.{ℕ, List, subst}
use Rattle.prl_plan.specs.Vocabulary.{constants_of, RunConstants}
use Rattle.prl_edf.specs.Vocabulary.{Piece, run_of, wcets_of, IsUnrolled, totals}
use Rattle.prl_edf.proofs.EventsLegal.{events_legal}
use Rattle.prl_edf.proofs.Skips.{total_units, total_edf, total_met}
use Rattle.prl_edf.proofs.unrolling.events_of.Goals as goal

pub returns : goal.returns
returns c =
    let k : RunConstants = constants_of c.args.plan.now c.args.horizon in
    let ps : List Piece = c.args.timed.now.pieces in
    let is : IsUnrolled k (totals k (run_of ps)) (run_of ps) c.in_ok-list.list.items =
    subst (λ (l : List Piece). IsUnrolled k (totals k (run_of l)) (run_of l) c.in_ok-list.list.items) c.as_slice.ensures c.in_ok-list.ensures in
    let cost : ℕ → ℕ → ℕ = wcets_of c.args.plan.now in
    let facts = c.plan_facts.ensures in
    let met = c.requires.run in
    let both = events_legal k facts (c.actions_end_once.ensures c.args.plan.now c.args.horizon) cost (totals k (run_of ps)) (run_of ps)
    (total_units k facts cost (run_of ps) met) (total_edf k facts cost (run_of ps) met) (total_met k facts cost (run_of ps) met) c.in_ok-list.list.items is in
    record { unrolled = is; legal = both.0; complete = both.1 }

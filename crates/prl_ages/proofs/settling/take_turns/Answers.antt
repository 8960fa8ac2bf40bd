use Rattle.prl_base.proofs.Standard.{◌≡◌, ◌+◌, ◌∙◌, ℕ, List, set, max, slice_index, ap, sym, subst, arith}
use Rattle.prl_base.specs.declared.numbers.TaskNo.{TaskNo}
use Rattle.prl_plan.specs.Vocabulary.{edge_at}
use Rattle.prl_ages.specs.code.Windows.{AreTurns}
use Rattle.prl_ages.proofs.Counted.{consumer_inside}
use Rattle.prl_ages.proofs.Turning.{turned}
use Rattle.prl_ages.proofs.settling.take_turns.Goals as goal

pub bounds-turns-to : goal.bounds-turns-to
bounds-turns-to c =
    let same = ap (λ (t : TaskNo). t.0) c.consumer_of-to.ensures.to in
    omega (arith, same, consumer_inside c.args.plan.now.graph c.consumer_of-to.ensures.plan.graph c.args.e.0 c.requires.edge, c.requires.are.long)

pub bounds-turns-to-2 : goal.bounds-turns-to-2
bounds-turns-to-2 c =
    let same = ap (λ (t : TaskNo). t.0) c.consumer_of-to.ensures.to in
    omega (arith, same, consumer_inside c.args.plan.now.graph c.consumer_of-to.ensures.plan.graph c.args.e.0 c.requires.edge, c.requires.are.long)

pub returns : goal.returns
returns c =
    let graph = c.args.plan.now.graph in
    let here = c.turns_of_constants-here.result in
    let same : c.consumer_of-to.result.0 ≡ (edge_at c.args.plan.now.graph c.args.e.0).to.0 = ap (λ (t : TaskNo). t.0) c.consumer_of-to.ensures.to in
    let value : c.max.result ≡ max c.turns_of_constants-here.result (slice_index c.args.turns.now (edge_at c.args.plan.now.graph c.args.e.0).to.0) =
    c.max.ensures ∙ ap (λ (x : ℕ). max c.turns_of_constants-here.result (slice_index c.args.turns.now x)) same in
    subst (λ (x : ℕ). AreTurns c.args.plan.now.graph (c.args.e.0 + 1) (set c.args.turns.now x c.max.result)) (sym same)
    (subst (λ (x : ℕ). AreTurns c.args.plan.now.graph (c.args.e.0 + 1) (set c.args.turns.now (edge_at c.args.plan.now.graph c.args.e.0).to.0 x)) (sym value)
    (turned graph c.consumer_of-to.ensures.plan.graph c.args.e.0 here c.args.turns.now c.requires.edge c.requires.are
    c.turns_of_constants-here.ensures.covers c.turns_of_constants-here.ensures.few))

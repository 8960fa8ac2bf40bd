use Rattle.prl_base.proofs.Standard.{◌≡◌, ◌+◌, ℕ, List, Some, length, sym, ap, subst, ◌∙◌, arith, slice_get, slice_get_within}
use Rattle.prl_base.specs.declared.operators.Op.{Op}
use Rattle.prl_plan.specs.Vocabulary.{IsWordOf, AreWords, first_reader}
use Rattle.prl_plan.specs.declared.graphs.Edge.{Edge}
use Rattle.prl_plan.specs.declared.words.Word.{Word}
use Rattle.prl_words.proofs.Constants.{edge_few, edge_jobs, edge_read}
use Rattle.prl_plan.proofs.ReaderLaws.{is_first_reader}
use Rattle.prl_plan.proofs.WordNumbers.{first_after_prefix, one_first}
use Rattle.prl_words.proofs.Listed.{AreSoMany, one_more, same_sum}
use Rattle.prl_words.proofs.graphs.listed.Goals as goal

pub word_of-requires-clause-counts : goal.word_of-requires-clause-counts
word_of-requires-clause-counts c =
    edge_jobs c.args.graph.now c.requires.well _ c.loop-edge.edge-index c.edge-item.result c.as_slice-edge-items.ensures c.loop-edge-test.true c.edge-item.is _ c.as_slice.ensures

pub word_of-requires-clause-few : goal.word_of-requires-clause-few
word_of-requires-clause-few c =
    edge_few c.args.graph.now c.requires.well _ c.loop-edge.edge-index c.edge-item.result c.as_slice-edge-items.ensures c.loop-edge-test.true c.edge-item.is _ c.as_slice.ensures

pub loop-edge-preserved : goal.loop-edge-preserved
loop-edge-preserved c =
    let graph = c.args.graph.now in
    let i = c.loop-edge.edge-index in
    let edge = c.edge-item.result in
    let found : slice_get graph.edges i ≡ Some edge =
    edge_read c.as_slice-edge-items.result.now graph.edges i edge c.as_slice-edge-items.ensures c.loop-edge-test.true c.edge-item.is in
    let is : IsWordOf edge.ops c.in_ok-word.word = subst (λ (ops : List Op). IsWordOf ops c.in_ok-word.word) c.as_slice.ensures c.in_ok-word.ensures in
    subst (λ (xs : List Word). AreSoMany graph.edges (i + 1) xs) (sym c.in_ok-push.ensures.items)
    (one_more graph.edges i c.loop-edge.words.items edge c.in_ok-word.word c.loop-edge.invariant found is)

pub returns : goal.returns
returns c =
    let graph = c.args.graph.now in
    let all : length graph.edges ≡ c.loop-edge.edge-index = omega (arith, ap length c.as_slice-edge-items.ensures) in
    let long : length c.loop-edge.words.items ≡ length graph.edges = c.loop-edge.invariant.0 ∙ sym all in
    let each : (e : ℕ) (edge : Edge) → slice_get graph.edges e ≡ Some edge → (w : Word) × (slice_get c.loop-edge.words.items e ≡ Some w) × IsWordOf edge.ops w =
    λ e edge found. c.loop-edge.invariant.1 e edge (omega (arith, all, slice_get_within graph.edges e edge found)) found in
    let first : (e : ℕ) (edge : Edge) → slice_get graph.edges e ≡ Some edge → (w : Word) × (slice_get c.loop-edge.words.items e ≡ Some w) × (length w.prefix ≡ first_reader edge.ops) =
    λ e edge found. (let w = each e edge found in (
      w.0,
      w.1,
      one_first edge.ops (length w.0.prefix) (first_reader edge.ops) (first_after_prefix edge.ops w.0 w.2)
          (is_first_reader edge.ty edge.ops (c.requires.well.edges e edge found).operators),
    )) in
    subst (λ (xs : List Word). AreWords graph xs) (sym c.new.ensures)
    (record {
      few = (let sums = same_sum graph.edges c.loop-edge.words.items long first in omega (arith, sums, c.requires.few));
      long = long;
      each = each;
    })

-- What words and cells count to: the same for each graph, whatever words and cells are listed.
use Rattle.prl_base.proofs.Standard.{◌≡◌, ◌+◌, ◌<◌, ℕ, suc, List, [], ◌∷◌, Some, length, take, sum, slice_get, refl, ap, sym, ◌∙◌, subst, arith, pos, slice_index, slice_index_or, sum_by, ext_get_or}
use Rattle.prl_base.proofs.Standard.{slice_get-get_or}
use Rattle.prl_base.specs.declared.operators.Op.{Op}
use Rattle.prl_plan.specs.Vocabulary.{AreLeastCells, Fits, HasCells, IsOverBy, no_used, used_at, Family, encoded_deadline, encoded_release, IsFirstReader, first_reader, IsWellFormed, edge_at, no_edge}
use Rattle.prl_plan.specs.Vocabulary.{AreWords, IsWordOf, constants_in}
use Rattle.prl_plan.specs.declared.graphs.Edge.{Edge}
use Rattle.prl_plan.specs.declared.graphs.Producer.{Producer}
use Rattle.prl_plan.specs.declared.graphs.TaskGraph.{TaskGraph}
use Rattle.prl_plan.specs.declared.tables.Used.{Used}
use Rattle.prl_plan.specs.declared.tables.Window.{Window}
use Rattle.prl_plan.specs.declared.words.Word.{Word}
use Rattle.prl_plan.specs.declared.graphs.Producer.TheVariants as producers
use Rattle.prl_plan.proofs.ReaderLaws.{is_first_reader}
use Rattle.prl_plan.proofs.RepeatLaws.{agree_below}
use Rattle.prl_words.specs.GraphWords.{constant_reads}
use Rattle.prl_words.proofs.Listed.{same_sum}

-- words: each has as many constants as jobs come before the first reader

abbrev pub FirstReaders : Type 0
FirstReaders = (ops : List Op) (w : Word) → IsWordOf ops w → IsFirstReader ops (length w.prefix)

abbrev pub OneFirstReader : Type 0
OneFirstReader = (ops : List Op) (p q : ℕ) → IsFirstReader ops p → IsFirstReader ops q → p ≡ q

pub constants_are : (graph : TaskGraph) (words : List Word) → FirstReaders → OneFirstReader → IsWellFormed graph → AreWords graph words →
    constants_in words ≡ constant_reads graph
constants_are graph words first one well are =
    same_sum graph.edges words are.long
    (λ e edge at.
    let word = are.each e edge at in (
      word.0,
      word.1,
      one edge.ops (length word.0.prefix) (first_reader edge.ops) (first edge.ops word.0 word.2)
          (is_first_reader edge.ty edge.ops (well.edges e edge at).operators),
    ))

-- cells: all enumerations of used instances lead to the same counts

fits_too : (edge : Edge) (i : ℕ) (release deadline : Family) (a b : Used) (cells : ℕ) → ((k : ℕ) → used_at a k ≡ used_at b k) →
    Fits edge i release deadline a cells → Fits edge i release deadline b cells
fits_too edge i release deadline a b cells same fits = λ k.
    subst (λ m. IsOverBy edge deadline m (release i (pos (used_at b (k + cells))))) (same k)
    (subst (λ m. IsOverBy edge deadline (used_at a k) (release i (pos m))) (same (k + cells)) (fits k))

same_count : (edge : Edge) (from : Producer) (release deadline : Family) (before base count before' base' count' : ℕ) (used used' : Used) →
    HasCells edge from release deadline before base count used → HasCells edge from release deadline before' base' count' used' → count ≡ count'
same_count edge (producers.Constant value) release deadline before base count before' base' count' used used' a b = a.1 ∙ sym b.1
same_count edge (producers.Port task out) release deadline before base count before' base' count' used used' a b =
    let same : (k : ℕ) → used_at used k ≡ used_at used' k = λ k. agree_below edge used used' a.1 b.1 (suc k) k (omega arith) in
    let back : (k : ℕ) → used_at used' k ≡ used_at used k = λ k. sym (same k) in
    let down = a.2.least count' b.2.some (fits_too edge task.0 release deadline used' used count' back b.2.fits) in
    let up = b.2.least count a.2.some (fits_too edge task.0 release deadline used used' count same a.2.fits) in
    omega (arith, down, up)

pub counts_are_one : (graph : TaskGraph) (windows : List (List Window)) (bases counts bases' counts' : List ℕ) (used used' : List Used) →
    AreLeastCells graph windows bases counts used → AreLeastCells graph windows bases' counts' used' → counts ≡ counts'
counts_are_one graph windows bases counts bases' counts' used used' a b =
    ext_get_or 0 counts counts' (a.lengths.1 ∙ sym b.lengths.1)
    (λ e below.
    let inside : e < length graph.edges = omega (arith, below, a.lengths.1) in
    let found : slice_get graph.edges e ≡ Some (edge_at graph e) = slice_get-get_or graph.edges e no_edge inside in
    same_count (edge_at graph e) (edge_at graph e).from (encoded_release graph windows) (encoded_deadline graph windows)
    (sum (take e counts)) (slice_index bases e) (slice_index counts e) (sum (take e counts')) (slice_index bases' e) (slice_index counts' e)
    (slice_index_or used e no_used) (slice_index_or used' e no_used) (a.cells e (edge_at graph e) found) (b.cells e (edge_at graph e) found))

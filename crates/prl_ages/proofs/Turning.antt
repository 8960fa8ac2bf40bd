-- Within how many hyperperiods each task has read the constants that come first on its edges, edge by edge.
use Rattle.prl_base.proofs.Standard.{◌≡◌, ◌≢◌, ◌+◌, ◌*◌, ◌<◌, ◌≤◌, ◌⊎◌, inl, inr, List, ℕ, zero, suc, length, set, slice_index, get_or-set_same, get_or-set_other, length-set, replicate, length-replicate, refl, sym, ◌∙◌, ap, subst, arith, cases_eq, cases_lt, max, mul-le-mul_right}
use Rattle.prl_plan.specs.declared.graphs.TaskGraph.{TaskGraph}
use Rattle.prl_plan.specs.declared.limits.TheConstants.{MAX_PREFIX}
use Rattle.prl_plan.specs.Vocabulary.{edge_at, IsWellFormed, IsFirstReader, sum_below}
use Rattle.prl_plan.proofs.WordNumbers.{one_first}
use Rattle.prl_ages.specs.Reaching.{jobs_of}
use Rattle.prl_ages.specs.code.Lags.{CoversConstants}
use Rattle.prl_ages.specs.code.Windows.{AreTurns, IsSettledAfter}
use Rattle.prl_ages.proofs.Counted.{consumer_inside, none_counted, none_at}

-- the turns with those of one edge more
pub turned : (graph : TaskGraph) → IsWellFormed graph → (e here : ℕ) (turns : List ℕ) → e < length graph.edges → AreTurns graph e turns → CoversConstants graph e here → here ≤ MAX_PREFIX →
    AreTurns graph (e + 1) (set turns (edge_at graph e).to.0 (max here (slice_index turns (edge_at graph e).to.0)))
turned graph good e here turns inside are covers small = record {
  long = length-set turns (edge_at graph e).to.0 most ∙ are.long;
  cover = λ k first below reader. cover_now k first reader (cases_lt k e) below;
  few = λ t. few_now t (cases_eq t (edge_at graph e).to.0);
}
  where
    to : ℕ
    to = (edge_at graph e).to.0

    most : ℕ
    most = max here (slice_index turns (edge_at graph e).to.0)

    in_turns : (edge_at graph e).to.0 < length turns
    in_turns = omega (arith, are.long, consumer_inside graph good e inside)

    at_here : slice_index (set turns (edge_at graph e).to.0 (max here (slice_index turns (edge_at graph e).to.0))) (edge_at graph e).to.0
        ≡ max here (slice_index turns (edge_at graph e).to.0)
    at_here = get_or-set_same turns (edge_at graph e).to.0 (max here (slice_index turns (edge_at graph e).to.0)) 0 in_turns

    rises : (t : ℕ) → (t ≡ (edge_at graph e).to.0) ⊎ (t ≢ (edge_at graph e).to.0) →
        slice_index turns t ≤ slice_index (set turns (edge_at graph e).to.0 (max here (slice_index turns (edge_at graph e).to.0))) t
    rises t (inl same) =
        let was : slice_index turns t ≡ slice_index turns (edge_at graph e).to.0 = ap (λ (x : ℕ). slice_index turns x) same in
        let now = ap (λ (x : ℕ). slice_index (set turns (edge_at graph e).to.0 (max here (slice_index turns (edge_at graph e).to.0))) x) same ∙ at_here in
        omega (arith, was, now)
    rises t (inr other) = (let now = get_or-set_other turns (edge_at graph e).to.0 t (max here (slice_index turns (edge_at graph e).to.0)) 0 other in omega (arith, now))

    cover_now : (k first : ℕ) → IsFirstReader (edge_at graph k).ops first → (k < e) ⊎ (e ≤ k) → k < e + 1 →
        first ≤ slice_index (set turns (edge_at graph e).to.0 (max here (slice_index turns (edge_at graph e).to.0))) (edge_at graph k).to.0 * jobs_of graph (edge_at graph k).to.0
    cover_now k first reader (inl less) below =
        let old = are.cover k first less reader in
        let up = mul-le-mul_right (jobs_of graph (edge_at graph k).to.0) (rises (edge_at graph k).to.0 (cases_eq (edge_at graph k).to.0 (edge_at graph e).to.0)) in
        omega (arith, old, up)
    cover_now k first reader (inr now) below =
        let same : k ≡ e = omega (arith, now, below) in
        let here_reader : IsFirstReader (edge_at graph e).ops first = subst (λ (x : ℕ). IsFirstReader (edge_at graph x).ops first) same reader in
        let one : first ≡ covers.first = one_first (edge_at graph e).ops first covers.first here_reader covers.reader in
        let large : here ≤ slice_index (set turns (edge_at graph e).to.0 (max here (slice_index turns (edge_at graph e).to.0))) (edge_at graph e).to.0 = omega (arith, at_here) in
        let up = mul-le-mul_right (jobs_of graph (edge_at graph e).to.0) large in
        let fits : first ≤ slice_index (set turns (edge_at graph e).to.0 (max here (slice_index turns (edge_at graph e).to.0))) (edge_at graph e).to.0 * jobs_of graph (edge_at graph e).to.0 =
        omega (arith, one, covers.within, up) in
        subst (λ (x : ℕ). first ≤ slice_index (set turns (edge_at graph e).to.0 (max here (slice_index turns (edge_at graph e).to.0))) (edge_at graph x).to.0 * jobs_of graph (edge_at graph x).to.0) (sym same) fits

    few_now : (t : ℕ) → (t ≡ (edge_at graph e).to.0) ⊎ (t ≢ (edge_at graph e).to.0) →
        slice_index (set turns (edge_at graph e).to.0 (max here (slice_index turns (edge_at graph e).to.0))) t ≤ MAX_PREFIX
    few_now t (inl same) =
        let now = ap (λ (x : ℕ). slice_index (set turns (edge_at graph e).to.0 (max here (slice_index turns (edge_at graph e).to.0))) x) same ∙ at_here in
        omega (arith, now, small, are.few (edge_at graph e).to.0)
    few_now t (inr other) = (let now = get_or-set_other turns (edge_at graph e).to.0 t (max here (slice_index turns (edge_at graph e).to.0)) 0 other in omega (arith, now, are.few t))

-- the turns to begin with
pub none_turned : (graph : TaskGraph) → AreTurns graph 0 (none_counted (length graph.tasks))
none_turned graph = record {
  long = length-replicate (length graph.tasks) 0;
  cover = λ e first below reader. absurd (omega (arith, below));
  few = λ t. (let z = none_at (length graph.tasks) t in omega (arith, z));
}

pub turns_settle : (graph : TaskGraph) (turns : List ℕ) (sum : ℕ) → AreTurns graph (length graph.edges) turns →
    sum ≡ sum_below (λ (x : ℕ). slice_index turns x) (length graph.tasks) → IsSettledAfter graph sum
turns_settle graph turns sum are is = ((λ x. slice_index turns x), are.cover, omega (arith, is))

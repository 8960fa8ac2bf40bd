-- What feeds a job: no fresher than what reaches it.
use Rattle.prl_base.proofs.Standard.{◌≡◌, ◌+◌, ◌-◌, ◌<◌, ◌≤◌, ℕ, zero, suc, [], length, refl, subst, arith}
use Rattle.prl_plan.specs.declared.graphs.TaskGraph.{TaskGraph}
use Rattle.prl_plan.specs.Vocabulary.{IsWellFormed}
use Rattle.prl_plan.proofs.RoundLaws.{source_inside}
use Rattle.prl_ages.specs.Reaching.{Takes, Reaches, IsFreshest}
use Rattle.prl_ages.specs.Reaching as reaching
use Rattle.prl_ages.proofs.Reaching.{rises}
use Rattle.prl_influence.specs.Influence.{Feeds, AgreeOnFeeding, AgreeUpToFreshest}
use Rattle.prl_influence.specs.Influence as feeding

-- later jobs are fed too
kept_by : (graph : TaskGraph) (s m t n more : ℕ) → Feeds graph s m t n → Feeds graph s m t (n + more)
kept_by graph s m t n zero feeds = (let e : n ≡ n + 0 = omega arith in subst (λ (x : ℕ). Feeds graph s m t x) e feeds)
kept_by graph s m t n (suc more) feeds =
    let e : n + more + 1 ≡ n + suc more = omega arith in
    subst (λ (x : ℕ). Feeds graph s m t x) e (feeding.kept t (n + more) (kept_by graph s m t n more feeds))

pub kept_on : (graph : TaskGraph) (s m t n l : ℕ) → Feeds graph s m t n → n ≤ l → Feeds graph s m t l
kept_on graph s m t n l feeds past =
    let e : n + (l - n) ≡ l = omega (arith, past) in
    subst (λ (x : ℕ). Feeds graph s m t x) e (kept_by graph s m t n (l - n) feeds)

-- what feeds a job reaches it, or a later instance does
pub feeds_reaches : (graph : TaskGraph) → IsWellFormed graph → (s m t n : ℕ) → Feeds graph s m t n → (l : ℕ) × (m ≤ l) × Reaches graph [] s l t n
feeds_reaches graph good s m t n (feeding.itself b c task number) = (m, omega arith, reaching.itself t n task number)
feeds_reaches graph good s m t n (feeding.through b c i j takes rest) =
    let up = feeds_reaches graph good s m i j rest in
    (up.0, up.1, reaching.through t n i j takes up.2)
feeds_reaches graph good s m t n (feeding.kept b c rest) =
    let up = feeds_reaches graph good s m b c rest in
    let on = rises graph [] good s up.0 b c (c + 1) up.2 (omega arith) in
    (on.0, omega (arith, up.1, on.1), on.2)

pub none_fresher : (graph : TaskGraph) → IsWellFormed graph → (s m t n f : ℕ) → Feeds graph s m t n → IsFreshest graph [] s f t n → m ≤ f
none_fresher graph good s m t n f feeds fresh =
    let up = feeds_reaches graph good s m t n feeds in
    let most = fresh.latest up.0 up.2 in
    omega (arith, up.1, most)

-- what feeds a job of a task of the graph is of a task of the graph
pub feeds_inside : (graph : TaskGraph) → IsWellFormed graph → (s m t n : ℕ) → Feeds graph s m t n → t < length graph.tasks → s < length graph.tasks
feeds_inside graph good s m t n (feeding.itself b c task number) inside = subst (λ (x : ℕ). x < length graph.tasks) task inside
feeds_inside graph good s m t n (feeding.through b c i j takes rest) inside =
    feeds_inside graph good s m i j rest (source_inside graph takes.edge (good.edges takes.number takes.edge takes.at) takes.edge.from refl i takes.from)
feeds_inside graph good s m t n (feeding.kept b c rest) inside = feeds_inside graph good s m b c rest inside

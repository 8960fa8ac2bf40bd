-- Chains taken apart at their last job, and made longer there.
use Rattle.std.proofs.Common.{◌≡◌, ◌+◌, ◌<◌, ℕ, List, [], ◌∷◌, length, refl, subst, arith}
use Rattle.prl_plan.specs.Vocabulary.{Job, task_at, Precedes, IsWellFormed, IsChain, last_of, wcets_of}
use Rattle.prl_plan.specs.declared.graphs.TaskGraph.{TaskGraph}
use Rattle.prl_plan.proofs.RoundLaws.{source_inside}

module _ (graph : TaskGraph) where
  -- the last of some jobs after a first one, which it ends
  pub record Ending (first : Job) (rest : List Job) (job : Job) : Type 0 where
    pub front : List Job
    pub chain : IsChain graph first front
    pub long : length rest ≡ length front + 1
    pub precedes : Precedes graph (last_of first front) job
    pub wcets : wcets_of graph first rest ≡ wcets_of graph first front + (task_at graph job.task).wcet

  pub before_last : (first next : Job) (rest : List Job) → IsChain graph first (next ∷ rest) → Ending first (next ∷ rest) (last_of next rest)
  before_last first next [] chain =
      record { front = []; chain = chain.0; long = refl; precedes = chain.1; wcets = refl }
  before_last first next (x ∷ rest) chain =
      let e : Ending next (x ∷ rest) (last_of x rest) = before_last next x rest chain.2 in
      record {
        front = next ∷ e.front;
        chain = (chain.0, chain.1, e.chain);
        long = omega (arith, e.long);
        precedes = e.precedes;
        wcets = omega (arith, e.wcets);
      }

  pub record Longer (first : Job) (rest : List Job) (job : Job) : Type 0 where
    pub longer : List Job
    pub chain : IsChain graph first longer
    pub long : length longer ≡ length rest + 1
    pub last : last_of first longer ≡ job
    pub wcets : wcets_of graph first longer ≡ wcets_of graph first rest + (task_at graph job.task).wcet

  pub one_longer : (first : Job) (rest : List Job) (job : Job) → IsChain graph first rest → job.task < length graph.tasks → Precedes graph (last_of first rest) job →
      Longer first rest job
  one_longer first [] job chain inside precedes =
      record { longer = job ∷ []; chain = (chain, precedes, inside); long = refl; last = refl; wcets = refl }
  one_longer first (next ∷ rest) job chain inside precedes =
      let e : Longer next rest job = one_longer next rest job chain.2 inside precedes in
      record {
        longer = next ∷ e.longer;
        chain = (chain.0, chain.1, e.chain);
        long = omega (arith, e.long);
        last = e.last;
        wcets = omega (arith, e.wcets);
      }

  pub ends_inside : (first : Job) (rest : List Job) → IsChain graph first rest → (last_of first rest).task < length graph.tasks
  ends_inside first [] chain = chain
  ends_inside first (next ∷ rest) chain = ends_inside next rest chain.2

  pub begins_inside : (first : Job) (rest : List Job) → IsChain graph first rest → first.task < length graph.tasks
  begins_inside first [] chain = chain
  begins_inside first (next ∷ rest) chain = chain.0

  -- jobs that precede one another are of tasks of the graph
  pub both_inside : IsWellFormed graph → (before after : Job) → Precedes graph before after → (before.task < length graph.tasks) × (after.task < length graph.tasks)
  both_inside good before after h =
      let is = good.edges h.0 h.1 h.2 in
      (source_inside graph h.1 is h.1.from refl before.task h.3.from, subst (λ (i : ℕ). i < length graph.tasks) h.3.to is.to)

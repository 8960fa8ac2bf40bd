-- Chains of jobs in the encoded dates.
use Rattle.prl_base.proofs.Standard.{◌≡◌, ◌<◌, ℕ, List, [], ◌∷◌, length, arith, ℤ, pos, ◌+ℤ◌, ◌≤ℤ◌, ints}
use Rattle.prl_plan.specs.Vocabulary.{TaskGraph, Window, Job, task_at, AreEncodedDates, encoded_release, HaveRoom, IsChain, last_of, wcets_of, IsNarrow, IsBest}

module _ (graph : TaskGraph) (windows : List (List Window)) (dates : AreEncodedDates graph windows) (room : HaveRoom graph windows) where
  -- a chain ends in a task of the graph
  last_inside : (first : Job) (rest : List Job) → IsChain graph first rest → (last_of first rest).task < length graph.tasks
  last_inside first [] chain = chain
  last_inside first (next ∷ rest) chain = last_inside next rest chain.2

  first_inside : (first : Job) (rest : List Job) → IsChain graph first rest → first.task < length graph.tasks
  first_inside first [] chain = chain
  first_inside first (next ∷ rest) chain = chain.0

  -- from the encoded release of the first job on, all WCETs are over by that of the last and its WCET
  pub chain_within : (first : Job) (rest : List Job) → IsChain graph first rest →
      (encoded_release graph windows first.task first.number +ℤ pos (wcets_of graph first rest))
      ≤ℤ (encoded_release graph windows (last_of first rest).task (last_of first rest).number +ℤ pos (task_at graph (last_of first rest).task).wcet)
  chain_within first [] chain = omega (arith, ints)
  chain_within first (next ∷ rest) chain =
      omega (arith, ints, dates.releases.releases.along first next chain.1, chain_within next rest chain.2)

  pub none_narrow : (first : Job) (rest : List Job) → IsNarrow graph first rest → ⊥
  none_narrow first rest narrow =
      let last : Job = last_of first rest in
      let inside : last.task < length graph.tasks = last_inside first rest narrow.chain in
      let has = room.room last.task last.number inside in
      let due = dates.deadlines.deadlines.below last.task last.number inside in
      omega (arith, ints, dates.releases.releases.above first.task first.number (first_inside first rest narrow.chain), chain_within first rest narrow.chain, has, due, narrow.late)

-- there is one best
pub one_best : (graph : TaskGraph) (most : ℕ) (job : Job) (a b : ℤ) → IsBest graph most job a → IsBest graph most job b → a ≡ b
one_best graph most job a b best other =
    omega (arith, ints, other.none_above best.attained.0 best.attained.1 best.attained.2, best.none_above other.attained.0 other.attained.1 other.attained.2, best.attained.3, other.attained.3)

-- What comes again with the hyperperiod: releases, and the jobs that precede along an edge.
use Rattle.prl_base.proofs.Standard.{◌≡◌, ◌*◌, ◌<◌, ℕ, length, refl, ◌∙◌, ap, subst, arith, ℤ, pos, ◌+ℤ◌, ints, slice_get-get_or}
use Rattle.prl_base.specs.declared.operators.Clock.{Clock}
use Rattle.prl_plan.specs.Vocabulary.{Edge, TaskGraph, Producer, task_at, no_task, release_of, preceding, ComesFrom, IsWellFormed, IsTask, IsEdge, IsSource, TakeClock}
use Rattle.prl_plan.specs.declared.graphs.Producer.TheVariants as producers
use Rattle.prl_plan.proofs.Periods.{plus_mul, preceding_shift}

-- the clocks at the two ends of an edge from a task
pub edge_takes : (graph : TaskGraph) (edge : Edge) → IsEdge graph edge → (i : ℕ) → ComesFrom edge.from i →
    TakeClock graph.hyper edge.ops (task_at graph i).clock (task_at graph edge.to.0).clock
edge_takes graph edge is i comes = go edge.from refl
  where
    go : (from : Producer) → edge.from ≡ from → TakeClock graph.hyper edge.ops (task_at graph i).clock (task_at graph edge.to.0).clock
    go (producers.Constant value) from = absurd (subst (λ (f : Producer). ComesFrom f i) from comes)
    go (producers.Port task out) from =
        let source : IsSource graph edge is.clocks.0 (producers.Port task out) = subst (λ (f : Producer). IsSource graph edge is.clocks.0 f) from is.clocks.2 in
        let at : task.0 ≡ i = subst (λ (f : Producer). ComesFrom f i) from comes in
        subst (λ (c : Clock). TakeClock graph.hyper edge.ops c (task_at graph edge.to.0).clock) (source.3 ∙ ap (λ (x : ℕ). (task_at graph x).clock) at) is.clocks.3

module _ (graph : TaskGraph) (good : IsWellFormed graph) where
  -- job m of task i comes again this many jobs later
  abbrev Repeats : ℕ → ℕ → Type 0
  Repeats i c = graph.hyper ≡ c * (task_at graph i).clock.period

  pub task_is : (i : ℕ) → i < length graph.tasks → IsTask graph.hyper (task_at graph i)
  task_is i inside = good.tasks i (task_at graph i) (slice_get-get_or graph.tasks i no_task inside)

  pub release_shift : (i c : ℕ) → Repeats i c → (m : ℤ) → release_of (task_at graph i) (m +ℤ pos c) ≡ release_of (task_at graph i) m +ℤ pos graph.hyper
  release_shift i c repeats m =
      omega (arith, ints, plus_mul m c (task_at graph i).clock.period, repeats)

  pub edge_precedes : (edge : Edge) → IsEdge graph edge → (i c d : ℕ) → ComesFrom edge.from i → Repeats edge.to.0 c → Repeats i d → (n : ℤ) →
      preceding edge.ops (n +ℤ pos c) ≡ preceding edge.ops n +ℤ pos d
  edge_precedes edge is i c d comes to from n =
      preceding_shift edge.ty graph.hyper edge.ops is.operators (task_at graph i).clock (task_at graph edge.to.0).clock
      (edge_takes graph edge is i comes) c d to from n

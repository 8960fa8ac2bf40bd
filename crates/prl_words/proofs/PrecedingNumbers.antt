-- The numbers on the way to a preceding job fit.
use Rattle.prl_base.proofs.Standard.{◌*◌, ◌<◌, ◌≤◌, ◌^◌, ℕ, length, arith, ℤ, nat_abs, mul-le-mul_left, mul-le-mul_right}
use Rattle.prl_plan.specs.Vocabulary.{task_at, IsWellFormed, PrecedingFits, edge_at}
use Rattle.prl_plan.specs.declared.graphs.TaskGraph.{TaskGraph}
use Rattle.prl_plan.proofs.PlanNumbers.{edge_fact}
use Rattle.prl_plan.proofs.WalkNumbers.{preceding_fits}

module _ (graph : TaskGraph) (good : IsWellFormed graph) where
  -- fewer than 2^32 operators, each of at most a hyperperiod
  operators_small : (e : ℕ) → e < length graph.edges → length (edge_at graph e).ops * graph.hyper ≤ 2 ^ 32 * 10000000
  operators_small e inside =
      let few = (edge_fact graph good e inside).few in
      let a : length (edge_at graph e).ops * graph.hyper ≤ 2 ^ 32 * graph.hyper = mul-le-mul_right graph.hyper (omega (arith, few)) in
      let b : 2 ^ 32 * graph.hyper ≤ 2 ^ 32 * 10000000 = mul-le-mul_left (2 ^ 32) good.few_ticks in
      omega (arith, a, b)

  pub preceding_small : (e : ℕ) (n : ℤ) → e < length graph.edges → nat_abs n * (task_at graph (edge_at graph e).to.0).clock.period ≤ 2 ^ 62 →
      PrecedingFits (edge_at graph e).ops n
  preceding_small e n inside small =
      let is = edge_fact graph good e inside in
      let ops = operators_small e inside in
      preceding_fits graph.hyper (edge_at graph e).ops is.clocks.0 (task_at graph (edge_at graph e).to.0).clock good.hyper is.clocks.3 n
      (2 ^ 62) small (omega (arith, ops))

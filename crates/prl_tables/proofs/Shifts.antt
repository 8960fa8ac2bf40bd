-- Jobs, their dates and what precedes them, a number of hyperperiods later.
use Rattle.prl_base.proofs.Standard.{◌≡◌, ◌+◌, ◌*◌, ◌/◌, ◌%◌, ◌<◌, ◌≤◌, ℕ, zero, suc, length, ap, arith, pos, ◌+ℤ◌, ints, slice_get-get_or}
use Rattle.prl_plan.specs.Vocabulary.{Family, RepeatsByHyper, IsEdge, task_at, PlanView, IsPlan, edge_at, no_edge, preceding, ComesFrom}
use Rattle.prl_plan.proofs.DatePeriods.{jobs_are}
use Rattle.prl_plan.proofs.RoundPeriods.{edge_precedes}
use Rattle.prl_tables.specs.Tables.{classes}

module _ (plan : PlanView) (is : IsPlan plan) where
  pub some_classes : (i : ℕ) → i < length plan.graph.tasks → 1 ≤ classes plan.graph i
  some_classes i inside = go (classes plan.graph i) (jobs_are plan.graph is.graph i inside)
    where
      go : (n : ℕ) → plan.graph.hyper ≡ n * (task_at plan.graph i).clock.period → 1 ≤ n
      go zero at = absurd (let some = is.graph.hyper in let z : 0 * (task_at plan.graph i).clock.period ≡ 0 = omega arith in omega (arith, at, some, z))
      go (suc n) at = omega arith

  -- what comes again after a hyperperiod, comes again after each number of them
  pub shifted : (date : Family) → RepeatsByHyper plan.graph date → (i c k : ℕ) → i < length plan.graph.tasks →
      date i (pos (c + k * classes plan.graph i)) ≡ date i (pos c) +ℤ pos (k * plan.graph.hyper)
  shifted date again i c zero inside =
      (let e : c + 0 * classes plan.graph i ≡ c = omega arith in
      let s = ap (λ (x : ℕ). date i (pos x)) e in
      let z : 0 * plan.graph.hyper ≡ 0 = omega arith in
      omega (arith, ints, s, z))
  shifted date again i c (suc k) inside =
      let e : c + suc k * classes plan.graph i ≡ c + k * classes plan.graph i + classes plan.graph i = omega arith in
      let s = ap (λ (x : ℕ). date i (pos x)) e in
      let more : suc k * plan.graph.hyper ≡ k * plan.graph.hyper + plan.graph.hyper = omega arith in
      omega (arith, ints, shifted date again i c k inside, again.again i (classes plan.graph i) inside (jobs_are plan.graph is.graph i inside) (pos (c + k * classes plan.graph i)), s, more)

  pub preceding_shifted : (e i c k : ℕ) → (edge_at plan.graph e).to.0 < length plan.graph.tasks → i < length plan.graph.tasks → e < length plan.graph.edges →
      ComesFrom (edge_at plan.graph e).from i →
      preceding (edge_at plan.graph e).ops (pos (c + k * classes plan.graph (edge_at plan.graph e).to.0))
      ≡ preceding (edge_at plan.graph e).ops (pos c) +ℤ pos (k * classes plan.graph i)
  preceding_shifted e i c zero to from inside comes =
      (let z : c + 0 * classes plan.graph (edge_at plan.graph e).to.0 ≡ c = omega arith in
      let s = ap (λ (x : ℕ). preceding (edge_at plan.graph e).ops (pos x)) z in
      let y : 0 * classes plan.graph i ≡ 0 = omega arith in
      omega (arith, ints, s, y))
  preceding_shifted e i c (suc k) to from inside comes =
      let edge : IsEdge plan.graph (edge_at plan.graph e) = is.graph.edges e (edge_at plan.graph e) (slice_get-get_or plan.graph.edges e no_edge inside) in
      let once = edge_precedes plan.graph is.graph (edge_at plan.graph e) edge i (classes plan.graph (edge_at plan.graph e).to.0) (classes plan.graph i) comes
      (jobs_are plan.graph is.graph (edge_at plan.graph e).to.0 to) (jobs_are plan.graph is.graph i from) (pos (c + k * classes plan.graph (edge_at plan.graph e).to.0)) in
      let z : c + suc k * classes plan.graph (edge_at plan.graph e).to.0 ≡ c + k * classes plan.graph (edge_at plan.graph e).to.0 + classes plan.graph (edge_at plan.graph e).to.0 = omega arith in
      let s = ap (λ (x : ℕ). preceding (edge_at plan.graph e).ops (pos x)) z in
      let more : suc k * classes plan.graph i ≡ k * classes plan.graph i + classes plan.graph i = omega arith in
      omega (arith, ints, preceding_shifted e i c k to from inside comes, once, s, more)

  -- the class of a job, and the hyperperiods before it
  pub split : (i n : ℕ) → n ≡ n % classes plan.graph i + n / classes plan.graph i * classes plan.graph i
  split i n = omega arith

  pub below : (i n : ℕ) → i < length plan.graph.tasks → n % classes plan.graph i < classes plan.graph i
  below i n inside = (let s = some_classes i inside in omega (arith, s))

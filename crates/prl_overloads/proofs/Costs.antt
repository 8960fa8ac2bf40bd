-- What jobs within an interval cost.
use Rattle.prl_base.proofs.Standard.{◌≡◌, ◌+◌, ◌*◌, ◌-◌, ◌<◌, ℕ, zero, suc, Bool, true, false, List, length, ap, ap₂, sym, ◌∙◌, refl, arith}
use Rattle.std.specs.Prelude.{if◌then◌else◌}
use Rattle.prl_plan.specs.Vocabulary.{IsHorizon, PlanView, RunConstants, constants_of, sum_below, task_at}
use Rattle.prl_plan.specs.declared.horizons.Horizon.{Horizon}
use Rattle.prl_overlaps.specs.Demand.{cost_within, demand, is_within, wcets_of}
use Rattle.prl_overloads.specs.Shares.{cost_of, cost_of_all}
use Rattle.prl_overloads.specs.Overloads.{AreWithin, IsOverload, asked_by, jobs_within, one_within}

times_one : (b : Bool) (sum w : ℕ) → sum * w + (if b then w else 0) ≡ (sum + (if b then 1 else 0)) * w
times_one true sum w = grind arith
times_one false sum w = grind arith

-- the cost of each job within is the WCET of its task
cost_is : (plan : PlanView) (c : RunConstants) (a b i n : ℕ) → sum_below (cost_within c (wcets_of plan) a b i) n ≡ sum_below (one_within c a b i) n * (task_at plan.graph i).wcet
cost_is plan c a b i zero = grind arith
cost_is plan c a b i (suc n) =
    let w : ℕ = (task_at plan.graph i).wcet in
    let rest = cost_is plan c a b i n in
    ap (λ (x : ℕ). x + (if is_within c a b i n then w else 0)) rest ∙ times_one (is_within c a b i n) (sum_below (one_within c a b i) n) w

sum_alike : (f g : ℕ → ℕ) (n : ℕ) → ((k : ℕ) → k < n → f k ≡ g k) → sum_below f n ≡ sum_below g n
sum_alike f g zero each = refl
sum_alike f g (suc n) each =
    let rest = sum_alike f g n (λ k below. each k (omega (arith, below))) in
    let here = each n (omega arith) in
    omega (arith, rest, here)

-- the jobs of a task within cost their number times its WCET
pub task_cost : (plan : PlanView) (horizon : Horizon) (a b i : ℕ) → sum_below (cost_within (constants_of plan horizon) (wcets_of plan) a b i) ((constants_of plan horizon).jobs i)
    ≡ jobs_within (constants_of plan horizon) a b i * (task_at plan.graph i).wcet
task_cost plan horizon a b i = cost_is plan (constants_of plan horizon) a b i ((constants_of plan horizon).jobs i)

pub task_cost_is : (plan : PlanView) (horizon : Horizon) (a b i jobs wcet asked : ℕ) → jobs ≡ jobs_within (constants_of plan horizon) a b i
    → wcet ≡ (task_at plan.graph i).wcet → asked ≡ jobs * wcet → asked ≡ asked_by plan horizon a b i
task_cost_is plan horizon a b i jobs wcet asked same_jobs same_wcet is = is ∙ ap₂ (λ (x : ℕ) (y : ℕ). x * y) same_jobs same_wcet ∙ sym (task_cost plan horizon a b i)

-- those of all tasks cost the demand
pub all_cost : (plan : PlanView) (horizon : Horizon) (a b : ℕ) (counts : List ℕ) → AreWithin (constants_of plan horizon) a b counts
    → cost_of_all plan.graph counts ≡ demand (constants_of plan horizon) (wcets_of plan) a b
all_cost plan horizon a b counts within =
    let c : RunConstants = constants_of plan horizon in
    sum_alike (cost_of plan.graph counts) (λ i. sum_below (cost_within c (wcets_of plan) a b i) (c.jobs i)) (length plan.graph.tasks)
    (λ i task. ap (λ (x : ℕ). x * (task_at plan.graph i).wcet) (within.each i task) ∙ sym (task_cost plan horizon a b i))

pub overload_is : (plan : PlanView) (horizon : Horizon) (a b asked : ℕ) (counts : List ℕ) → IsHorizon plan horizon → AreWithin (constants_of plan horizon) a b counts
    → demand (constants_of plan horizon) (wcets_of plan) a b ≡ asked → b - a < asked → IsOverload plan a b asked counts
overload_is plan horizon a b asked counts is_horizon within demand_is over = record {
  horizon = horizon;
  is_horizon = is_horizon;
  within = within;
  cost = all_cost plan horizon a b counts within ∙ demand_is;
  demand_is = demand_is;
  over = over;
}

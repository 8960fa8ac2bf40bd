-- What is told of overloads and loads, from its parts.
use Rattle.prl_base.proofs.Standard.{◌≡◌, ◌*◌, ◌<◌, ◌^◌, ◌∙◌, ℕ, zero, suc, List, [], length, ap, inl, inr, refl, arith}
use Rattle.prl_plan.specs.Plans.{PlanView}
use Rattle.prl_plan.specs.Vocabulary.{sum_below, task_at}
use Rattle.prl_plan.proofs.PartsOfSums.{part_of_sum}
use Rattle.prl_tables.specs.Tables.{classes}
use Rattle.prl_forever.specs.Forever.{load_of}
use Rattle.prl_overloads.specs.Overloads.{IsOverload}
use Rattle.prl_overloads.specs.Shares.{IsHeaviest, cost_of, cost_of_all}
use Rattle.prl_tablefaults.specs.LoadTexts.{AreClasses, IsOverloadTold, IsUnsteadyTold, overload_text, unsteady_text}

-- what the jobs of a task of an overload cost has 64 bits
pub overload_fits : (plan : PlanView) (a b asked : ℕ) (counts : List ℕ) → IsOverload plan a b asked counts → asked < 2 ^ 64 → (i : ℕ) → i < length plan.graph.tasks
    → cost_of plan.graph counts i < 2 ^ 64
overload_fits plan a b asked counts over small i task =
    let part = part_of_sum (cost_of plan.graph counts) (length plan.graph.tasks) i task in
    let same = over.cost in
    omega (arith, part, same, small)

sum_alike : (f g : ℕ → ℕ) (n : ℕ) → ((k : ℕ) → k < n → f k ≡ g k) → sum_below f n ≡ sum_below g n
sum_alike f g zero each = refl
sum_alike f g (suc n) each =
    let rest = sum_alike f g n (λ k below. each k (omega (arith, below))) in
    let here = each n (omega arith) in
    omega (arith, rest, here)

-- the jobs of a hyperperiod cost the load
pub classes_cost : (plan : PlanView) (counts : List ℕ) → AreClasses plan.graph counts → cost_of_all plan.graph counts ≡ load_of plan
classes_cost plan counts are =
    sum_alike (cost_of plan.graph counts) (λ i. classes plan.graph i * (task_at plan.graph i).wcet) (length plan.graph.tasks)
    (λ i task. ap (λ (x : ℕ). x * (task_at plan.graph i).wcet) (are.each i task))

pub load_fits : (plan : PlanView) (counts : List ℕ) (load : ℕ) → AreClasses plan.graph counts → load ≡ load_of plan → load < 2 ^ 64 → (i : ℕ) → i < length plan.graph.tasks
    → cost_of plan.graph counts i < 2 ^ 64
load_fits plan counts load are is small i task =
    let part = part_of_sum (cost_of plan.graph counts) (length plan.graph.tasks) i task in
    let same = classes_cost plan counts are in
    omega (arith, part, same, is, small)

pub overload_is : (plan : PlanView) (a b asked : ℕ) (counts : List ℕ) (task : ℕ) (text : List ℕ) → IsOverload plan a b asked counts → IsHeaviest plan.graph counts task
    → text ≡ overload_text plan a b asked counts task → IsOverloadTold plan a b asked text
overload_is plan a b asked counts task text overload heaviest is =
    inr (record { counts = counts; overload = overload; task = task; heaviest = heaviest; is = is })

pub no_overload : (plan : PlanView) (a b asked : ℕ) (text : List ℕ) → text ≡ [] → IsOverloadTold plan a b asked text
no_overload plan a b asked text is = inl is

pub unsteady_is : (plan : PlanView) (counts : List ℕ) (task load : ℕ) (text : List ℕ) → load ≡ load_of plan → plan.graph.hyper < load → AreClasses plan.graph counts
    → IsHeaviest plan.graph counts task → text ≡ unsteady_text plan counts task load → IsUnsteadyTold plan text
unsteady_is plan counts task load text same over classes heaviest is =
    inr (
    record {
      over = omega (arith, same, over);
      counts = counts;
      classes = classes;
      task = task;
      heaviest = heaviest;
      is = is ∙ ap (unsteady_text plan counts task) same;
    }
    )

pub no_unsteady : (plan : PlanView) (text : List ℕ) → text ≡ [] → IsUnsteadyTold plan text
no_unsteady plan text is = inl is

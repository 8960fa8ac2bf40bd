-- Lists in which all jobs of a task have the same units.
use Rattle.prl_base.proofs.Standard.{◌≡◌, ◌<◌, ◌≤◌, ℕ, List, [], length, get_or, replicate, ap, ◌∙◌, arith, get_or-replicate, length-replicate}
use Rattle.prl_plan.specs.Runs.{RunConstants}
use Rattle.prl_edf.specs.UnitLists.{units_of, AreUnitLists}

pub even_lists : (c : RunConstants) (cost : ℕ → ℕ → ℕ) (lists : List (List ℕ)) (by_task : ℕ → ℕ) → length lists ≡ c.tasks →
    ((i n : ℕ) → i < c.tasks → (1 ≤ by_task i) × (by_task i ≤ cost i n)) → ((i : ℕ) → i < c.tasks → get_or lists i [] ≡ replicate (c.jobs i) (by_task i)) →
    AreUnitLists c cost lists
even_lists c cost lists by_task long bounds each = record {
  tasks = long;
  jobs = λ i task. ap length (each i task) ∙ length-replicate (c.jobs i) (by_task i);
  units = λ i n job.
      (let is : units_of lists i n ≡ by_task i = ap (λ (xs : List ℕ). get_or xs n 0) (each i job.task) ∙ get_or-replicate (c.jobs i) n (by_task i) 0 job.job in
      let b = bounds i n job.task in
      let some = b.0 in
      let most = b.1 in
      (omega (arith, is, some), omega (arith, is, most)));
}

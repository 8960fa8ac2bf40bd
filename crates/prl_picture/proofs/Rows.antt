-- Rows whose tasks are all of the plan.
use Rattle.prl_base.proofs.Standard.{◌≡◌, ◌+◌, ◌<◌, ◌≤◌, ◌++◌, ◌∷◌, ◌∙◌, ℕ, List, [], length, ap, sym, arith, range_with_len, map-id, map-range_with_len_more, All, All-get_or}
use Rattle.prl_plan.specs.Plans.{PlanView}
use Rattle.prl_plan.specs.declared.limits.TheConstants.{MAX_TASKS}
use Rattle.prl_shapes.specs.Views.{AreTasks}

pub are_tasks : (plan : PlanView) (rows : List ℕ) → All (λ k. k < length plan.graph.tasks) rows → length rows ≤ MAX_TASKS → AreTasks plan rows
are_tasks plan rows inside few = record {
  tasks = λ r h. All-get_or (λ k. k < length plan.graph.tasks) rows r 0 h inside;
  few = few;
}

-- one number more
pub row_more : (j : ℕ) → range_with_len 0 (j + 1) ≡ range_with_len 0 j ++ j ∷ []
row_more j =
    sym (map-id (range_with_len 0 (j + 1))) ∙ map-range_with_len_more (λ (k : ℕ). k) 0 j j (omega arith)
    ∙ ap (λ (rows : List ℕ). rows ++ j ∷ []) (map-id (range_with_len 0 j))

-- Rows of integers serve a plan whose edges are of integers.
use Rattle.prl_base.proofs.Standard.{◌≡◌, ◌<◌, ◌+◌, ◌↔◌, ⊎_elim, ℕ, false, length, subst, sym, ◌∙◌, arith, cases_lt, slice_get-get_or, slice_get_within}
use Rattle.prl_base.specs.declared.values.Value.TheVariants as values
use Rattle.prl_flow.specs.Rows.{Rows, rows_of}
use Rattle.prl_plan.specs.Vocabulary.{IsWellFormed, IsHorizonJob, job_count, no_task, task_at}
use Rattle.prl_plan.specs.declared.graphs.TaskGraph.{TaskGraph}
use Rattle.prl_values.specs.Fitting.{HaveTypedRows}
use Rattle.test_calls.specs.Devices.{AreIntEdges, HaveIntRows}

pub served : (graph : TaskGraph) (until : ℕ) (rows : Rows) → IsWellFormed graph
    → ((i n : ℕ) → i < length graph.tasks → 0 < (task_at graph i).clock.period → IsHorizonJob graph until i n ↔ (n < job_count (task_at graph i) until))
    → AreIntEdges (length graph.edges) graph.edges → HaveIntRows graph until rows (length graph.tasks) → HaveTypedRows graph until rows
served graph until rows formed counted ints have = record {
  each = λ i k n sensor job.
      let positive = (formed.tasks i (task_at graph i) (slice_get-get_or graph.tasks i no_task job.task)).period.0 in
      let before = (counted i n job.task (omega (arith, positive))).0 job in
      let of_task = have i job.task k sensor in
      let within : n < length (rows_of rows k) = omega (arith, before, of_task.enough) in
      let found = slice_get-get_or (rows_of rows k) n (values.Bool false) within in (
        _,
        found,
        λ e edge at from. of_task.ints n _ within found ∙ sym (ints e edge (slice_get_within graph.edges e edge at) at),
      );
}

-- what holds of each number below `k`, and of `k`, holds of each below the next
pub one_more : (P : ℕ → Type 0) (k : ℕ) → ((i : ℕ) → i < k → P i) → P k → (i : ℕ) → i < k + 1 → P i
one_more P k each here i below =
    ⊎_elim (λ lower. each i lower) (λ upper. (let same : k ≡ i = omega (arith, below, upper) in subst P same here)) (cases_lt i k)

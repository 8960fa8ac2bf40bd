use Rattle.prl_base.proofs.Standard.{◌≡◌, ◌<◌, ◌≤◌, ◌⊎◌, ℕ, inl, inr, length, max, ap, subst, sym, arith, rules, slice_index, cases_lt}
use Rattle.prl_plan.specs.Jobs.{task_at}
use Rattle.prl_plan.specs.declared.graphs.Task.{Task}
use Rattle.prl_picture.proofs.defaults.latest_start.Goals as goal

pub loop-r-preserved : goal.loop-r-preserved
loop-r-preserved c =
    let rows = c.args.rows.now in
    let first : c.task_of.result.now.clock.start ≡ (task_at c.args.plan.now.graph (slice_index rows c.loop-r.r)).clock.start =
    ap (λ (task : Task). task.clock.start) c.task_of.ensures.task in
    let later : c.max-start.result ≡ max c.loop-r.start c.task_of.result.now.clock.start = c.max-start.ensures in
    record {
      small = search rules;
      late = λ k below.
          elim (cases_lt k c.loop-r.r) [
            | inl less ↦ (let before = c.loop-r.invariant.late k less in omega (arith, before, later))
            | inr more ↦
                (let same : k ≡ c.loop-r.r = omega (arith, more, below) in
                subst (λ (j : ℕ). (task_at c.args.plan.now.graph (slice_index rows j)).clock.start ≤ c.max-start.result) (sym same)
                (omega (arith, later, first)))
          ];
      of_row =
          elim (cases_lt c.loop-r.start c.task_of.result.now.clock.start) [
            | inl less ↦ inr (c.loop-r.r, search rules, omega (arith, less, later, first))
            | inr more ↦
                (let same : c.max-start.result ≡ c.loop-r.start = omega (arith, more, later) in
                subst (λ (s : ℕ). (s ≡ 0) ⊎ ((x : ℕ) × (x < length rows) × (s ≡ (task_at c.args.plan.now.graph (slice_index rows x)).clock.start))) (sym same)
                c.loop-r.invariant.of_row)
          ];
    }

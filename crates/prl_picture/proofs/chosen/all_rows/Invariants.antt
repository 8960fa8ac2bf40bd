use Rattle.prl_base.proofs.Standard.{◌≡◌, ◌<◌, ◌≤◌, length, All, range_with_len}
use Rattle.prl_picture.proofs.chosen.all_rows.Given as goal

-- the rows so far are of the tasks that were passed
abbrev pub invariant-loop-j : goal.invariant-loop-j
invariant-loop-j l = record {
  told : l.rows.items ≡ range_with_len 0 l.j;
  inside : All (λ k. k < length l.plan.graph.tasks) l.rows.items;
  few : length l.rows.items ≤ l.j;
}

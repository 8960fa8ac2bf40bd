use Rattle.prl_base.proofs.Standard.{◌≡◌, ◌<◌, ◌≤◌, ◌++◌, ◌-◌, length, All, flat_map, range_with_len}
use Rattle.prl_picture.specs.Chosen.{near_one, near_rows}
use Rattle.prl_picture.proofs.chosen.near_rows.Given as goal

-- the rows so far and those of the tasks that are left are all
abbrev pub invariant-loop-j : goal.invariant-loop-j
invariant-loop-j l = record {
  told : l.rows.items ++ flat_map (near_one l.plan.graph l.i.0) (range_with_len l.j (length l.plan.graph.tasks - l.j)) ≡ near_rows l.plan.graph l.i.0;
  inside : All (λ k. k < length l.plan.graph.tasks) l.rows.items;
  few : length l.rows.items ≤ l.j;
}

use Rattle.std.specs.Prelude.{◌≡◌, ◌+◌, ◌<◌, ◌≤◌, ℕ, Option}
use Rattle.prl_table.specs.Vocabulary.{cut_from, later, HasTicks}
use Rattle.prl_table.proofs.making.first_unsteady.Given as goal

-- the run is steady so far
abbrev pub invariant-loop-t : goal.invariant-loop-t
invariant-loop-t l = (run : ℕ → Option (ℕ × ℕ)) → HasTicks run l.ticks → (u : ℕ) → cut_from l.plan ≤ u → u < l.t →
    later l.plan (run u) ≡ run (u + l.plan.graph.hyper)

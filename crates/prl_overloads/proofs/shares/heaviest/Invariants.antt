use Rattle.std.specs.Prelude.{◌≡◌, ◌<◌, ◌≤◌, ℕ, length}
use Rattle.prl_overloads.specs.Shares.{cost_of}
use Rattle.prl_overloads.proofs.shares.heaviest.Given as goal

-- of the first tasks none costs more
abbrev pub invariant-loop-i : goal.invariant-loop-i
invariant-loop-i l =
    (l.best < length l.graph.tasks) × (l.most ≡ cost_of l.graph l.counts l.best) × ((j : ℕ) → j < l.i → cost_of l.graph l.counts j ≤ l.most)

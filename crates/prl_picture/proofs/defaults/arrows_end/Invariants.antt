use Rattle.std.proofs.Common.{◌≡◌, ◌<◌, ◌≤◌, ◌⊎◌, ℕ, length, min}
use Rattle.prl_picture.specs.Ranges.{EndsFirst, HasArrow}
use Rattle.prl_picture.proofs.defaults.arrows_end.Given as goal

-- no earlier than the least tick, and no later than some edge needs; and each edge that was passed has its arrow by it
abbrev pub invariant-loop-e : goal.invariant-loop-e
invariant-loop-e l = record {
  late : l.least ≤ l.end;
  needed : (l.end ≡ l.least) ⊎ ((k : ℕ) × (k < length l.plan.graph.edges) × EndsFirst l.plan l.rows l.from l.limit k l.end);
  arrows : (k : ℕ) → k < l.e → HasArrow l.plan l.rows l.from l.limit k → (until : ℕ) → min l.end l.limit ≤ until → HasArrow l.plan l.rows l.from until k;
}

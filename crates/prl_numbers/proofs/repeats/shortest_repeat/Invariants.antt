use Rattle.std.proofs.Common.{◌≡◌, ◌%◌, ◌<◌, ◌≤◌, ℕ, length}
use Rattle.prl_plan.specs.Repeats.{ComesWithin}
use Rattle.prl_numbers.proofs.repeats.shortest_repeat.Given as goal

abbrev pub invariant-loop-step : goal.invariant-loop-step
invariant-loop-step g l = (other : ℕ) → 1 ≤ other → other < l.step → length l.list % other ≡ 0 → ComesWithin l.list other → ⊥

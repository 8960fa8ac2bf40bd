use Rattle.prl_base.proofs.Standard.{◌≡◌, ◌++◌, ℕ, [], All, map}
use Rattle.prl_times.specs.Rows.{about, ages_at, IsRow}
use Rattle.prl_times.proofs.collected.push_ages.Given as goal

abbrev pub invariant-loop-a : goal.invariant-loop-a
invariant-loop-a l =
    (map about l.rows.items ≡ map about l.fn.rows.items ++ ages_at l.plan.graph l.sensor l.actuator l.a)
    × ((until : ℕ) → All (IsRow l.plan [] until) l.fn.rows.items → All (IsRow l.plan [] until) l.rows.items)

use Rattle.prl_base.proofs.Standard.{◌≡◌, ◌++◌, ℕ, [], All, map}
use Rattle.prl_times.specs.Rows.{about, sensors_at, IsRow}
use Rattle.prl_times.proofs.collected.push_sensors.Given as goal

abbrev pub invariant-loop-s : goal.invariant-loop-s
invariant-loop-s l =
    (map about l.rows.items ≡ map about l.fn.rows.items ++ sensors_at l.plan.graph l.only l.a.0 l.s)
    × ((until : ℕ) → All (IsRow l.plan [] until) l.fn.rows.items → All (IsRow l.plan [] until) l.rows.items)

use Rattle.prl_base.proofs.Standard.{◌≡◌, ◌++◌, ℕ, [], All, map}
use Rattle.prl_times.specs.Rows.{about, withins_to, IsRow}
use Rattle.prl_times.proofs.lasting.push_withins.Given as goal

abbrev pub invariant-loop-i : goal.invariant-loop-i
invariant-loop-i l =
    (map about l.rows.items ≡ map about l.fn.rows.items ++ withins_to l.plan l.from l.to l.i)
    × ((until : ℕ) → All (IsRow l.plan [] until) l.fn.rows.items → All (IsRow l.plan [] until) l.rows.items)

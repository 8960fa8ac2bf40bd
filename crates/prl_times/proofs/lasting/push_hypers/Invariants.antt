use Rattle.prl_base.proofs.Standard.{◌≡◌, ◌++◌, ℕ, [], All, map}
use Rattle.prl_times.specs.Rows.{about, each_to, hyper_share, IsRow}
use Rattle.prl_times.proofs.lasting.push_hypers.Given as goal

abbrev pub invariant-loop-i : goal.invariant-loop-i
invariant-loop-i l =
    (map about l.rows.items ≡ map about l.fn.rows.items ++ each_to hyper_share l.i)
    × ((until : ℕ) → All (IsRow l.plan [] until) l.fn.rows.items → All (IsRow l.plan [] until) l.rows.items)

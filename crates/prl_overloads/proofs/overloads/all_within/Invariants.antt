use Rattle.std.specs.Prelude.{◌≡◌, ◌<◌, ℕ, length, slice_index}
use Rattle.prl_plan.specs.Horizons.{constants_of}
use Rattle.prl_overloads.specs.Overloads.{jobs_within}
use Rattle.prl_overloads.proofs.overloads.all_within.Given as goal

-- the numbers of the first tasks stand in the list
abbrev pub invariant-loop-i : goal.invariant-loop-i
invariant-loop-i l =
    (length l.counts.items ≡ l.i) × ((k : ℕ) → k < l.i → slice_index l.counts.items k ≡ jobs_within (constants_of l.plan l.fn.horizon) l.from l.to k)

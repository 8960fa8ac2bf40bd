-- Rows that are above a limit.
use Rattle.std.specs.Prelude.{ℕ, Bool, true, false, List, [], ◌∷◌, cond, nat_lt}
use Rattle.std.specs.List.{flat_map}
use Rattle.prl_ages.specs.declared.skews.SkewVerdict.{SkewVerdict}
use Rattle.prl_ages.specs.declared.skews.SkewVerdict.TheVariants as skews
use Rattle.prl_ages.specs.declared.verdicts.Verdict.{Verdict}
use Rattle.prl_ages.specs.declared.verdicts.Verdict.TheVariants as verdicts
use Rattle.prl_timetext.specs.declared.rows.Row.{Row}
use Rattle.prl_timetext.specs.declared.rows.Row.TheVariants as rows

-- an age is above a limit, or not known
abbrev pub is_old : ℕ → Verdict → Bool
is_old limit verdicts.Never = false
is_old limit (verdicts.Late job) = true
is_old limit (verdicts.Known ages) = nat_lt limit ages.used.ticks

abbrev pub is_far : ℕ → SkewVerdict → Bool
is_far limit skews.Apart = false
is_far limit (skews.TooMany jobs) = true
is_far limit (skews.Greatest skew) = nat_lt limit skew.ticks

-- a row tells an age or a skew that is
abbrev pub is_above : ℕ → Row → Bool
is_above limit (rows.Load load hyper) = false
is_above limit (rows.Age sensor actuator verdict) = is_old limit verdict
is_above limit (rows.Chain first last verdict) = is_old limit verdict
is_above limit (rows.Skew first second actuator verdict) = is_far limit verdict
is_above limit (rows.Task task times) = false
is_above limit (rows.Overload from to demand) = false
is_above limit (rows.ForEver row) = false

abbrev pub rows_above : ℕ → List Row → List Row
rows_above limit list = flat_map (λ row. cond (is_above limit row) (row ∷ []) []) list

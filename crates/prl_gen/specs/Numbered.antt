-- Lists made one after another, by their numbers from 0 on.
use Rattle.std.specs.Prelude.{ℕ, zero, suc, List, [], ◌++◌}

-- the lists with the numbers 0 to `count` - 1, joined
abbrev pub each : {A : Type 0} → (ℕ → List A) → ℕ → List A
each list zero = []
each list (suc count) = each list count ++ list count

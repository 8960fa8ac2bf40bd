-- Calls by their numbers.
use Rattle.std.specs.Prelude.{◌+◌, ◌^◌, ◌==◌, ℕ, Bool, false, List, Option, Some, None, nat_lt, if◌then◌else◌}
use Rattle.std.specs.List.{list_any}

-- the number of the next call; None once every number below 2^64 is used up
abbrev pub following : Option ℕ → Option ℕ
following None = None
following (Some number) = if nat_lt (number + 1) (2 ^ 64) then Some (number + 1) else None

-- whether the call of this number is to fail
abbrev pub fails_at : List ℕ → Option ℕ → Bool
fails_at fails None = false
fails_at fails (Some number) = list_any (λ failing. failing == number) fails

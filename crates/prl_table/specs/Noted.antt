-- At which tick one thread has done each job, as it is noted beside its board.
use Rattle.std.specs.Prelude.{◌≡◌, ◌<◌, ℕ, List, [], length, Option, Some, None, set, slice_index_or}
use Rattle.prl_plan.specs.Facts.{IsJob}
use Rattle.prl_plan.specs.Runs.{RunConstants}
use Rattle.prl_tables.specs.Unrolled.{Placing, ActsBefore}

-- the tick that is noted for job n of task i
abbrev pub noted_at : List (List (Option ℕ)) → ℕ → ℕ → Option ℕ
noted_at ticks i n = slice_index_or (slice_index_or ticks i []) n None

-- with this tick noted for it
abbrev pub with_noted : List (List (Option ℕ)) → ℕ → ℕ → ℕ → List (List (Option ℕ))
with_noted ticks i n t = set ticks i (set (slice_index_or ticks i []) n (Some t))

-- a place for each job of the horizon
pub record HaveRoom (c : RunConstants) (ticks : List (List (Option ℕ))) : Type 0 where
  pub tasks : length ticks ≡ c.tasks
  pub jobs : (i : ℕ) → i < c.tasks → length (slice_index_or ticks i []) ≡ c.jobs i

-- those that act before job 0 of task i has its turn at tick t have been done at their ticks
abbrev pub AreNoted : RunConstants → Placing → ℕ → ℕ → List (List (Option ℕ)) → Type 0
AreNoted c at t i ticks = (j m : ℕ) → IsJob c j m → ActsBefore at t i 0 j m → noted_at ticks j m ≡ Some (at j m)

-- each job of the horizon has been done at its tick
abbrev pub AreAllNoted : RunConstants → Placing → List (List (Option ℕ)) → Type 0
AreAllNoted c at ticks = (i n : ℕ) → IsJob c i n → noted_at ticks i n ≡ Some (at i n)

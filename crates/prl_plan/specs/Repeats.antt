-- Lists that repeat without end, and the shortest of those that repeat alike.
use Rattle.std.specs.Prelude.{◌≡◌, ◌+◌, ◌%◌, ◌<◌, ◌≤◌, ℕ, List, length, Option, slice_get}

-- what stands at place n of the repeating list; of the empty list nothing
abbrev pub repeated : {A : Type 0} → List A → ℕ → Option A
repeated list n = slice_get list (n % length list)

-- so many places later the same comes again, from every place on
abbrev pub ComesAgain : {A : Type 0} → List A → ℕ → Type 0
ComesAgain list step = (n : ℕ) → repeated list (n + step) ≡ repeated list n

-- no shorter step serves, of 1 or more
pub record IsShortest (Serves : ℕ → Type 0) (step : ℕ) : Type 0 where
  pub least : (other : ℕ) → 1 ≤ other → Serves other → step ≤ other

-- the list is the shortest of those that repeat as it does
abbrev pub IsShortestRepeat : {A : Type 0} → List A → Type 0
IsShortestRepeat list = IsShortest (ComesAgain list) (length list)

-- The least number of places from 1 on after which the repeating list comes again. It divides the length.
pub record IsLeastRepeat {A : Type 0} (list : List A) (step : ℕ) : Type 0 where
  pub some : 1 ≤ step
  pub within : step ≤ length list
  pub divides : length list % step ≡ 0
  pub again : ComesAgain list step
  pub shortest : IsShortest (ComesAgain list) step

-- so many places later the same stands, as far as the list goes
abbrev pub ComesWithin : {A : Type 0} → List A → ℕ → Type 0
ComesWithin list step = (i : ℕ) → i + step < length list → slice_get list (i + step) ≡ slice_get list i

-- Encoded dates as they are kept.
use Rattle.std.specs.Prelude.{◌<◌, ℕ, List, [], length, slice_index_or}
use Rattle.prl_plan.specs.declared.tables.Window.{Window}
use Rattle.prl_plan.specs.Plans.{AreShortWindows}

-- each list of windows has some, and is the shortest that repeats as it does
pub record AreDateLists (windows : List (List Window)) : Type 0 where
  pub some : (i : ℕ) → i < length windows → 0 < length (slice_index_or windows i [])
  pub short : AreShortWindows windows

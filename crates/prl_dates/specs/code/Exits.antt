-- Exits: the links of the lanes one after the other, and how each leads to the one before it from the same job.
use Rattle.std.specs.Prelude.{◌≡◌, ◌-◌, ◌<◌, ◌≤◌, ◌⊎◌, ℕ, List, length, Some, slice_get, slice_index, slice_index_or}
use Rattle.prl_plan.specs.declared.graphs.TaskGraph.{TaskGraph}
use Rattle.prl_plan.specs.Graphs.{jobs_in_hyperperiod}
use Rattle.prl_dates.specs.declared.exits.Exit.{Exit}
use Rattle.prl_dates.specs.declared.exits.Exits.{Exits}
use Rattle.prl_dates.specs.declared.lanes.Lane.{Lane}
use Rattle.prl_dates.specs.code.Lanes.{link_at}

abbrev pub no_exit : Exit
no_exit = record { from = 0; lane = 0; place = 0; before = 0 }

abbrev pub exit_at : List Exit → ℕ → Exit
exit_at list a = slice_index_or list a no_exit

-- there is such a lane, and such a link of it
abbrev pub IsLinkInside : List Lane → ℕ → ℕ → Type 0
IsLinkInside lanes l k = (lane : Lane) × (slice_get lanes l ≡ Some lane) × (k < length lane.links)

-- the exit is a link of the lanes
abbrev pub IsExit : List Lane → Exit → Type 0
IsExit lanes exit = (lane : Lane) × (slice_get lanes exit.lane ≡ Some lane) × (exit.place < length lane.links) × ((link_at lane exit.place).from ≡ exit.from)

-- the exits are the links of the first `count` lanes, and the first `some` of the next one
pub record AreExitsPart (graph : TaskGraph) (lanes : List Lane) (count some : ℕ) (list : List Exit) (last : List ℕ) : Type 0 where
  pub long : length last ≡ jobs_in_hyperperiod graph
  pub each : (a : ℕ) → a < length list → IsExit lanes (exit_at list a)
  -- each leads to the last one before it from the same job
  pub falls : (a : ℕ) → a < length list → (exit_at list a).before ≤ a
  pub same : (a : ℕ) → a < length list → 1 ≤ (exit_at list a).before → (exit_at list ((exit_at list a).before - 1)).from ≡ (exit_at list a).from
  pub none_between : (a b : ℕ) → a < length list → b < a → (exit_at list b).from ≡ (exit_at list a).from → b < (exit_at list a).before
  -- and each job to its last one
  pub inside : (q : ℕ) → slice_index last q ≤ length list
  pub own : (q : ℕ) → 1 ≤ slice_index last q → (exit_at list (slice_index last q - 1)).from ≡ q
  pub none_after : (a : ℕ) → a < length list → a < slice_index last (exit_at list a).from
  pub all : (l k : ℕ) (lane : Lane) → (l < count) ⊎ ((l ≡ count) × (k < some)) → slice_get lanes l ≡ Some lane → k < length lane.links →
      (a : ℕ) × (a < length list) × ((exit_at list a).lane ≡ l) × ((exit_at list a).place ≡ k)

abbrev pub AreExits : TaskGraph → List Lane → Exits → Type 0
AreExits graph lanes exits = AreExitsPart graph lanes (length lanes) 0 exits.list exits.last

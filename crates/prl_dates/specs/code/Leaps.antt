-- Rounds that repeat.
use Rattle.std.specs.Prelude.{◌≡◌, ◌+◌, ◌-◌, ◌*◌, ◌<◌, ◌≤◌, ◌⊎◌, ℕ, List, length, Some, slice_get, slice_index}
use Rattle.prl_plan.specs.declared.graphs.TaskGraph.{TaskGraph}
use Rattle.prl_plan.specs.Jobs.{task_at}
use Rattle.prl_dates.specs.declared.lanes.Lane.{Lane}
use Rattle.prl_dates.specs.code.Lanes.{link_at}

-- by how much the date rose
abbrev pub gain_of : List ℕ → List ℕ → ℕ → ℕ
gain_of past now q = slice_index now q - slice_index past q

-- Link k stays as it is however often both its dates rise by as much again: they rise alike, or the one before, so much higher
-- than the other, asks for no more than the other was.
abbrev pub RepeatsAlong : Lane → ℕ → List ℕ → List ℕ → ℕ → ℕ → Type 0
RepeatsAlong lane wcet past now times k = (gain_of past now (link_at lane k).from ≡ gain_of past now (lane.first + k))
    ⊎ (times * (gain_of past now (link_at lane k).from - gain_of past now (lane.first + k)) + slice_index now (link_at lane k).from + wcet
    ≤ slice_index past (lane.first + k) + (link_at lane k).gap)

-- so do all links of the first `count` lanes
abbrev pub MayRepeat : TaskGraph → List Lane → ℕ → List ℕ → List ℕ → ℕ → Type 0
MayRepeat graph lanes count past now times = (l : ℕ) (lane : Lane) → l < count → slice_get lanes l ≡ Some lane → (k : ℕ) → k < length lane.links →
    RepeatsAlong lane (task_at graph lane.to.0).wcet past now times k

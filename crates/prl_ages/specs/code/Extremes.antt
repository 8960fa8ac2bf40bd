-- The worst and the best ages of some jobs, task by task.
use Rattle.std.specs.Prelude.{◌≡◌, ◌+◌, ◌<◌, ◌≤◌, nat_lt, ℕ, List, Option, Some, None, length, slice_index_or, if◌then◌else◌}
use Rattle.prl_base.specs.declared.numbers.TaskNo.{TaskNo}
use Rattle.prl_plan.specs.declared.graphs.TaskGraph.{TaskGraph}
use Rattle.prl_ages.specs.Spans.{IsWorstOf, IsBestOf}
use Rattle.prl_ages.specs.declared.ages.Age.{Age}
use Rattle.prl_ages.specs.declared.ages.Until.TheVariants as untils
use Rattle.prl_ages.specs.declared.spans.Extremes.{Extremes}

abbrev pub older : Option Age → Age → Option Age
older None age = Some age
older (Some first) age = if nat_lt first.ticks age.ticks then Some age else Some first

abbrev pub newer : Option Age → Age → Option Age
newer None age = Some age
newer (Some first) age = if nat_lt age.ticks first.ticks then Some age else Some first

-- the extremes with two ages of one job more
abbrev pub with_ages : Extremes → Age → Age → Extremes
with_ages x used replaced = record { used = older x.used used; replaced = older x.replaced replaced; best = newer x.best used }

-- they are those of task s at the jobs of a from one on and before another
pub record IsExtreme (graph : TaskGraph) (chain : List TaskNo) (s a from to : ℕ) (extremes : Extremes) : Type 0 where
  pub used : IsWorstOf graph chain s a untils.Used from to extremes.used
  pub replaced : IsWorstOf graph chain s a untils.Replaced from to extremes.replaced
  pub best : IsBestOf graph chain s a untils.Used from to extremes.best

-- those of no jobs
abbrev pub no_extremes : Extremes
no_extremes = record { used = None; replaced = None; best = None }

abbrev pub extremes_at : List Extremes → ℕ → Extremes
extremes_at list s = slice_index_or list s no_extremes

-- the first tasks have theirs up to job k, and the others before it
pub record AreTaken (graph : TaskGraph) (chain : List TaskNo) (a from k tasks : ℕ) (list : List Extremes) : Type 0 where
  pub long : length list ≡ length graph.tasks
  pub done : (s : ℕ) → s < tasks → IsExtreme graph chain s a from (k + 1) (extremes_at list s)
  pub left : (s : ℕ) → tasks ≤ s → s < length graph.tasks → IsExtreme graph chain s a from k (extremes_at list s)

pub record AreExtremes (graph : TaskGraph) (chain : List TaskNo) (a from to : ℕ) (list : List Extremes) : Type 0 where
  pub long : length list ≡ length graph.tasks
  pub each : (s : ℕ) → s < length graph.tasks → IsExtreme graph chain s a from to (extremes_at list s)

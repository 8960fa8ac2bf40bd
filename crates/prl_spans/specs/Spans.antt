-- Jobs that act anywhere in their span, which goes from the tick of their first unit to the end of their last one.
use Rattle.std.specs.Prelude.{◌+◌, ◌<◌, ◌≤◌, ℕ, List, [], ◌∷◌}
use Rattle.prl_plan.specs.declared.events.Event.{Event}
use Rattle.prl_plan.specs.declared.events.Event.TheVariants as events
use Rattle.prl_plan.specs.Facts.{IsJob, ReadsAt, WritesAt}
use Rattle.prl_plan.specs.Rules.{first_unfinished, HasJob, IsUnfinished}
use Rattle.prl_plan.specs.Runs.{RunConstants, ExecState, after_event}
use Rattle.prl_tables.specs.Unrolled.{Placing}

-- each span has a tick, lies within the window of its job, and begins when those of the jobs that it reads from are over
pub record AreSpans (c : RunConstants) (begin end : Placing) : Type 0 where
  pub some : (i n : ℕ) → IsJob c i n → begin i n < end i n
  pub released : (i n : ℕ) → IsJob c i n → c.release i n ≤ begin i n
  pub due : (i n : ℕ) → IsJob c i n → end i n ≤ c.deadline i n
  pub after : (j k place m cell i n written : ℕ) → ReadsAt c j k place m cell → WritesAt c i n written m cell → end i n ≤ begin j k

-- the first job of a task that has not ended acts, once its span has begun; a tick does not come to the end of the span of a job
-- that has not ended
abbrev pub KeepsSpans : RunConstants → Placing → Placing → ExecState → Event → Type 0
KeepsSpans c begin end s events.Tick = (s.now < c.end) × ((i n : ℕ) → IsUnfinished c s i n → s.now + 1 < end i n)
KeepsSpans c begin end s (events.Act task) = HasJob c s task.0 × (begin task.0 (first_unfinished s task.0) ≤ s.now)

-- each event of the list does so, in the state that the events before it lead to
abbrev pub AreInSpans : RunConstants → Placing → Placing → ExecState → List Event → Type 0
AreInSpans c begin end s [] = Unit {0}
AreInSpans c begin end s (event ∷ list) = KeepsSpans c begin end s event × AreInSpans c begin end (after_event c s event) list

-- The jobs that are looked at: those of a hyperperiod from one on that depends on what it ever does, and those of a settled
-- hyperperiod.
use Rattle.std.specs.Prelude.{◌≡◌, ◌+◌, ◌*◌, ◌<◌, ◌≤◌, ◌⊎◌, ℕ, zero, suc, List, Option, Some, None, length, max, slice_index}
use Rattle.prl_base.specs.declared.numbers.TaskNo.{TaskNo}
use Rattle.prl_plan.specs.declared.graphs.TaskGraph.{TaskGraph}
use Rattle.prl_plan.specs.declared.limits.TheConstants.{MAX_JOBS, MAX_PREFIX}
use Rattle.prl_plan.specs.Vocabulary.{IsFirstReader, edge_at, sum_below}
use Rattle.prl_ages.specs.Reaching.{Reaches, jobs_of}
use Rattle.prl_ages.specs.Needs.{AreNeeded}
use Rattle.prl_ages.specs.Settling.{CoverAllConstants}
use Rattle.prl_ages.specs.Verdicts.{IsVerdict, verdict_at}
use Rattle.prl_ages.specs.code.Extremes.{AreExtremes}
use Rattle.prl_ages.specs.code.Lags.{AreAllLags, lag_at}
use Rattle.prl_ages.specs.declared.ages.Age.{Age}
use Rattle.prl_ages.specs.declared.spans.Extremes.{Extremes}
use Rattle.prl_ages.specs.declared.verdicts.Verdict.{Verdict}
use Rattle.prl_ages.specs.declared.verdicts.Verdict.TheVariants as verdicts

-- each task with a lag has a job among the counted ones
abbrev pub AreAllCounted : List (Option ℕ) → List ℕ → Type 0
AreAllCounted lags counts = (s lag : ℕ) → lag_at lags s ≡ Some lag → 1 ≤ slice_index counts s

-- an instance of each task with a lag reaches job k, or k is the last job that is tried
abbrev pub IsReady : TaskGraph → List TaskNo → ℕ → List (Option ℕ) → ℕ → ℕ → Type 0
IsReady graph chain a lags most k =
    ((s lag : ℕ) → lag_at lags s ≡ Some lag → (m : ℕ) × Reaches graph chain s m a k) ⊎ (k ≡ most)

-- the greater of a number and a lag
abbrev pub with_lag : ℕ → Option ℕ → ℕ
with_lag most None = most
with_lag most (Some lag) = max most lag

-- no lag is greater
abbrev pub AreWithin : List (Option ℕ) → ℕ → Type 0
AreWithin lags most = (s lag : ℕ) → lag_at lags s ≡ Some lag → lag ≤ most

-- by task, so many hyperperiods that cover the constants on the first edges, each small
pub record AreTurns (graph : TaskGraph) (edges : ℕ) (turns : List ℕ) : Type 0 where
  pub long : length turns ≡ length graph.tasks
  pub cover : (e first : ℕ) → e < edges → IsFirstReader (edge_at graph e).ops first →
      first ≤ slice_index turns (edge_at graph e).to.0 * jobs_of graph (edge_at graph e).to.0
  pub few : (t : ℕ) → slice_index turns t ≤ MAX_PREFIX

-- so many hyperperiods are as many as all tasks together take to read the constants that come first, or more
abbrev pub IsSettledAfter : TaskGraph → ℕ → Type 0
IsSettledAfter graph turns = (each : ℕ → ℕ) × CoverAllConstants graph each × (sum_below each (length graph.tasks) ≤ turns)

-- The jobs that are looked at of actuator a: up to a hyperperiod after job `ready`, and those of the hyperperiod after so many
-- turns; and on how many jobs of each task job `ready` depends.
pub record AreWindows (graph : TaskGraph) (chain : List TaskNo) (a turns ready : ℕ) (lags : List (Option ℕ)) (counts : List ℕ) (first settled : List Extremes) : Type 0 where
  pub known : AreAllLags graph chain a lags
  pub within : AreWithin lags turns
  pub settled_after : IsSettledAfter graph turns
  pub most : ℕ
  pub enough : (turns * jobs_of graph a ≤ most) ⊎ (MAX_JOBS ≤ most + jobs_of graph a)
  pub ready_is : IsReady graph chain a lags most ready
  pub counted : AreNeeded graph chain a ready counts
  pub early : AreExtremes graph chain a 0 (ready + jobs_of graph a) first
  pub late : AreExtremes graph chain a (turns * jobs_of graph a) (turns * jobs_of graph a + jobs_of graph a) settled

-- the ages of some extremes
abbrev pub known_ages : ℕ → Option Age → Option Age → Option Age → Option Age → Verdict
known_ages ready (Some used) (Some replaced) (Some settled) (Some best) =
    verdicts.Known (record { used = used; replaced = replaced; settled = settled.ticks; best = best.ticks })
known_ages ready used replaced settled best = verdicts.Late ready

abbrev pub known : ℕ → Extremes → Extremes → Verdict
known ready first settled = known_ages ready first.used first.replaced settled.used settled.best

-- of a task that some job depends on: of so many of its jobs does job `ready`
abbrev pub counted_verdict : ℕ → ℕ → Extremes → Extremes → Verdict
counted_verdict ready zero first settled = verdicts.Late ready
counted_verdict ready (suc n) first settled = known ready first settled

abbrev pub verdict_of : Option ℕ → ℕ → ℕ → Extremes → Extremes → Verdict
verdict_of None ready count first settled = verdicts.Never
verdict_of (Some lag) ready count first settled = counted_verdict ready count first settled

-- what is told of the first tasks
pub record AreVerdictsUpTo (graph : TaskGraph) (chain : List TaskNo) (a tasks : ℕ) (list : List Verdict) : Type 0 where
  pub long : length list ≡ length graph.tasks
  pub each : (s : ℕ) → s < tasks → IsVerdict graph chain s a (verdict_at list s)

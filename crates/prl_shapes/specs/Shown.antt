-- What is drawn beside the windows: a schedule, the run of one processor, a run on several processors, or a static cyclic table.
use Rattle.std.specs.Prelude.{ℕ, pos, nat_abs}
use Rattle.prl_plan.specs.Dates.{encoded_release}
use Rattle.prl_plan.specs.Horizons.{IsHorizon, Placement, constants_of}
use Rattle.prl_plan.specs.Plans.{PlanView, release_at}
use Rattle.prl_overlaps.specs.Demand.{wcets_of}
use Rattle.prl_edf.specs.Verdicts.{IsVerdict}
use Rattle.prl_cores.specs.Spreads.{IsSpreadOf, LeavesRoom}
use Rattle.prl_tables.specs.Tables.{IsGood}
use Rattle.prl_shapes.specs.declared.kinds.Shown.{Shown}
use Rattle.prl_shapes.specs.declared.kinds.Shown.TheVariants as kinds

-- a verdict is the one of the plan's jobs in the horizon, what is spread is the plan, and a table is good
abbrev pub IsOfPlan : PlanView → Shown → Type 0
IsOfPlan plan (kinds.Events events) = Unit {0}
IsOfPlan plan (kinds.Verdict horizon verdict) = IsHorizon plan horizon × IsVerdict (constants_of plan horizon) (wcets_of plan) verdict
IsOfPlan plan (kinds.Cores spread events) = IsSpreadOf plan spread × LeavesRoom plan spread.placement
IsOfPlan plan (kinds.Table table) = IsGood plan table.entries

-- when job n of task i is released, by these windows
abbrev pub placed_release : PlanView → Placement → ℕ → ℕ → ℕ
placed_release plan placement i n = nat_abs (encoded_release plan.graph placement.windows i (pos n))

-- as the plan has it, or as it is spread over processors
abbrev pub released_at : PlanView → Shown → ℕ → ℕ → ℕ
released_at plan (kinds.Events events) i n = release_at plan i n
released_at plan (kinds.Verdict horizon verdict) i n = release_at plan i n
released_at plan (kinds.Table table) i n = release_at plan i n
released_at plan (kinds.Cores spread events) i n = placed_release plan spread.placement i n

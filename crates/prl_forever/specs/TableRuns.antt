-- The timed run that a table tells: its entries, again in each hyperperiod.
use Rattle.std.specs.Prelude.{◌+◌, ◌*◌, ◌-◌, ◌/◌, ◌%◌, ◌&&◌, ℕ, Bool, List, [], ◌∷◌, Option, Some, None, nat_le, nat_lt, if◌then◌else◌}
use Rattle.prl_plan.specs.declared.graphs.TaskGraph.{TaskGraph}
use Rattle.prl_plan.specs.declared.horizons.Horizon.{Horizon}
use Rattle.prl_plan.specs.Horizons.{constants_of}
use Rattle.prl_plan.specs.Plans.{PlanView}
use Rattle.prl_plan.specs.Runs.{RunConstants}
use Rattle.prl_overlaps.specs.declared.entries.Entry.{Entry}
use Rattle.prl_tables.specs.Tables.{classes}

-- the tick lies in the entry, moved by some hyperperiods
abbrev pub has_tick : ℕ → Entry → ℕ → Bool
has_tick hyper entry t = nat_le entry.at t && nat_lt ((t - entry.at) % hyper) entry.units

-- what a tick goes to: the job of the first entry that has it, later by as many hyperperiods
abbrev pub goes_to : TaskGraph → List Entry → ℕ → Option (ℕ × ℕ)
goes_to graph [] t = None
goes_to graph (entry ∷ entries) t =
    if has_tick graph.hyper entry t then Some (entry.task.0, entry.job + (t - entry.at) / graph.hyper * classes graph entry.task.0)
    else goes_to graph entries t

-- only jobs of the horizon get it
abbrev pub in_horizon : RunConstants → Option (ℕ × ℕ) → Option (ℕ × ℕ)
in_horizon c None = None
in_horizon c (Some job) = if nat_lt job.1 (c.jobs job.0) then Some job else None

abbrev pub table_run : PlanView → List Entry → Horizon → ℕ → Option (ℕ × ℕ)
table_run plan entries horizon t = in_horizon (constants_of plan horizon) (goes_to plan.graph entries t)

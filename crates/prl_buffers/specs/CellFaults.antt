-- Why a task graph has no cells.
use Rattle.std.specs.Prelude.{◌≡◌, ◌<◌, ℕ, List, sum}
use Rattle.prl_base.specs.declared.limits.What.TheVariants as whats
use Rattle.prl_plan.specs.declared.graphs.TaskGraph.{TaskGraph}
use Rattle.prl_plan.specs.declared.limits.TheConstants.{MAX_CELLS}
use Rattle.prl_plan.specs.declared.tables.Used.{Used}
use Rattle.prl_plan.specs.declared.tables.Window.{Window}
use Rattle.prl_plan.specs.Cells.{AreLeastCells}
use Rattle.prl_buffers.specs.declared.tables.CellFault.{CellFault}
use Rattle.prl_buffers.specs.declared.tables.CellFault.TheVariants as faults

-- the limit is passed by the least cells of all edges, which are this many; want of memory is free
abbrev pub IsCellFault : TaskGraph → List (List Window) → CellFault → Type 0
IsCellFault graph windows (faults.Limit limit) =
    (bases : List ℕ) × (counts : List ℕ) × (used : List Used) × AreLeastCells graph windows bases counts used
    × (limit ≡ record { what = whats.Cells; found = sum counts }) × (MAX_CELLS < sum counts)
IsCellFault graph windows faults.Memory = Unit {0}

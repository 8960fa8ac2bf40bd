-- When freshest instances come again exactly: once the constants that come first are read on every way.
use Rattle.std.specs.Prelude.{◌*◌, ◌<◌, ◌≤◌, ℕ, length}
use Rattle.prl_plan.specs.declared.graphs.TaskGraph.{TaskGraph}
use Rattle.prl_plan.specs.Vocabulary.{IsFirstReader, edge_at, sum_below}
use Rattle.prl_ages.specs.Reaching.{jobs_of}

-- by task, so many hyperperiods within which its jobs have read all constants that come first on its edges
abbrev pub CoverAllConstants : TaskGraph → (ℕ → ℕ) → Type 0
CoverAllConstants graph turns =
    (e first : ℕ) → e < length graph.edges → IsFirstReader (edge_at graph e).ops first → first ≤ turns (edge_at graph e).to.0 * jobs_of graph (edge_at graph e).to.0

-- a job that stands so many hyperperiods after the first of its task
abbrev pub IsSettledFrom : TaskGraph → (ℕ → ℕ) → ℕ → ℕ → Type 0
IsSettledFrom graph turns t n = sum_below turns (length graph.tasks) * jobs_of graph t ≤ n

-- The cells of all edges.
use Rattle.std.specs.Prelude.{◌≡◌, ◌+◌, ◌<◌, ℕ, List, [], ◌∷◌, Some, length, slice_get, slice_index, slice_index_or}
use Rattle.prl_plan.specs.declared.graphs.Edge.{Edge}
use Rattle.prl_plan.specs.declared.graphs.TaskGraph.{TaskGraph}
use Rattle.prl_plan.specs.declared.tables.Used.{Used}
use Rattle.prl_plan.specs.declared.tables.Window.{Window}
use Rattle.prl_plan.specs.declared.words.Word.{Word}
use Rattle.prl_plan.specs.Cells.{no_used}
use Rattle.prl_plan.specs.Dates.{AreEncodedDates}
use Rattle.prl_plan.specs.Graphs.{IsWellFormed}
use Rattle.prl_plan.specs.Words.{AreWords}
use Rattle.prl_buffers.specs.code.Edges.{base_of, HasEdgeCells}

-- a well-formed graph with its words and encoded dates
pub record IsDated (graph : TaskGraph) (words : List Word) (windows : List (List Window)) : Type 0 where
  pub well : IsWellFormed graph
  pub are_words : AreWords graph words
  pub dates : AreEncodedDates graph windows

-- the first edges have these cells
pub record AreListed (graph : TaskGraph) (windows : List (List Window)) (upto : ℕ) (counts : List ℕ) (used : List Used) (sums : List (List ℕ)) : Type 0 where
  pub counts_long : length counts ≡ upto
  pub used_long : length used ≡ upto
  pub sums_long : length sums ≡ upto
  pub each : (e : ℕ) (edge : Edge) → e < upto → slice_get graph.edges e ≡ Some edge →
      HasEdgeCells graph windows edge (slice_index counts e) (slice_index_or used e no_used) (slice_index_or sums e [])

-- the first cells of edges with so many cells, numbered edge after edge
abbrev pub bases_from : ℕ → List ℕ → List ℕ
bases_from before [] = []
bases_from before (count ∷ counts) = base_of count before ∷ bases_from (before + count) counts

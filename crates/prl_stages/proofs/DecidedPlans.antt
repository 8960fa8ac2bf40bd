-- The stages that make a plan of a task graph are decided, by the laws of the crates below: words, dates and cells.
use Rattle.prl_base.proofs.Standard.{◌≡◌, ◌≢◌, ◌≤◌, ◌⊎◌, ℕ, List, refl, inl, inr, subst, ⊎_elim, sum}
use Rattle.prl_buffers.specs.CellFaults.{IsCellFault}
use Rattle.prl_buffers.specs.declared.tables.CellFault.{CellFault}
use Rattle.prl_buffers.specs.declared.tables.CellFault.TheVariants as cell_faults
use Rattle.prl_dates.specs.Faults.{IsDateFault, IsOfGraph}
use Rattle.prl_dates.specs.declared.faults.DateFault.{DateFault}
use Rattle.prl_dates.specs.declared.faults.DateFault.TheVariants as date_faults
use Rattle.prl_plan.specs.Vocabulary.{AreLeastCells, AreEncodedDates, IsWellFormed, task_at, AreShortGaps, AreShortWindows, HaveRoom, AreWords}
use Rattle.prl_plan.specs.declared.graphs.TaskGraph.{TaskGraph}
use Rattle.prl_plan.specs.declared.limits.TheConstants.{MAX_CELLS}
use Rattle.prl_plan.specs.declared.tables.Used.{Used}
use Rattle.prl_plan.specs.declared.tables.Window.{Window}
use Rattle.prl_plan.specs.declared.words.Word.{Word}
use Rattle.prl_words.specs.GraphWords.{IsWordFault}
use Rattle.prl_words.specs.declared.graphs.WordFault.{WordFault}
use Rattle.prl_words.specs.declared.graphs.WordFault.TheVariants as word_faults
use Rattle.prl_stages.specs.declared.faults.DatesRefusal.TheVariants as bad_dates
use Rattle.prl_stages.specs.declared.faults.Fault.TheVariants as faults
use Rattle.prl_stages.specs.declared.stages.Stage.TheVariants as stages
use Rattle.prl_stages.specs.Vocabulary.{Given, HasDates, HasGraph, HasWords, Holds, IsDecided}

-- the laws of the crates below
pub record Laws : Type 0 where
  pub words : (graph : TaskGraph) → IsWellFormed graph
      → ((words : List Word) × AreWords graph words) ⊎ ((fault : WordFault) × (fault ≢ word_faults.Memory) × IsWordFault graph fault)
  pub dates : (graph : TaskGraph) → IsWellFormed graph
      → ((windows : List (List Window)) × AreEncodedDates graph windows × HaveRoom graph windows × AreShortWindows windows)
      ⊎ ((fault : DateFault) × IsOfGraph fault × IsDateFault graph fault)
  pub cells : (graph : TaskGraph) (words : List Word) (windows : List (List Window)) → IsWellFormed graph → AreWords graph words → AreEncodedDates graph windows
      → ((bases : List ℕ) × (counts : List ℕ) × (used : List Used) × AreLeastCells graph windows bases counts used × (sum counts ≤ MAX_CELLS) × AreShortGaps used)
      ⊎ ((fault : CellFault) × (fault ≢ cell_faults.Memory) × IsCellFault graph windows fault)

module _ (law : Laws) (g : Given) where
  words_refused : (graph : TaskGraph) → HasGraph g graph → (fault : WordFault) → fault ≢ word_faults.Memory → IsWordFault graph fault → IsDecided g stages.Words
  words_refused graph has (word_faults.Limit limit) some is = inr (faults.Limit limit, (graph, has, limit, is, refl))
  words_refused graph has word_faults.Memory some is = absurd (some refl)

  pub words_decided : Holds g stages.Graph → IsDecided g stages.Words
  words_decided (graph, has) = ⊎_elim
      (λ (x : (words : List Word) × AreWords graph words). inl (graph, x.0, record { has_graph = has; are_words = x.1 }))
      (λ (x : (fault : WordFault) × (fault ≢ word_faults.Memory) × IsWordFault graph fault). words_refused graph has x.0 x.1 x.2)
      (law.words graph has.well_formed)

  dates_refused : (graph : TaskGraph) → HasGraph g graph → (fault : DateFault) → IsOfGraph fault → IsDateFault graph fault → IsDecided g stages.Dates
  dates_refused graph has (date_faults.Narrow task job needs had) of is =
      inr (
        faults.Dates (bad_dates.Narrow (task_at graph task.0).name job needs had),
        (graph, has, date_faults.Narrow task job needs had, is, bad_dates.Narrow (task_at graph task.0).name job needs had, refl, refl),
      )
  dates_refused graph has (date_faults.Loop task job) of is =
      inr (
        faults.Dates (bad_dates.Loop (task_at graph task.0).name job),
        (graph, has, date_faults.Loop task job, is, bad_dates.Loop (task_at graph task.0).name job, refl, refl),
      )
  dates_refused graph has date_faults.Memory of is = absurd of

  pub dates_decided : Holds g stages.Graph → IsDecided g stages.Dates
  dates_decided (graph, has) = ⊎_elim
      (λ (x : (windows : List (List Window)) × AreEncodedDates graph windows × HaveRoom graph windows × AreShortWindows windows). inl (
        graph,
        x.0,
        record {
          has_graph = has;
          are_dates = x.1;
          room = x.2;
          short = x.3;
        },
      ))
      (λ (x : (fault : DateFault) × IsOfGraph fault × IsDateFault graph fault). dates_refused graph has x.0 x.1 x.2)
      (law.dates graph has.well_formed)

  module _ (graph : TaskGraph) (words : List Word) (windows : List (List Window)) (worded : HasWords g graph words) (dated : HasDates g graph windows) where
    cells_refused : (fault : CellFault) → fault ≢ cell_faults.Memory → IsCellFault graph windows fault → IsDecided g stages.Cells
    cells_refused (cell_faults.Limit limit) some is = inr (faults.Limit limit, (graph, windows, dated, limit, is, refl))
    cells_refused cell_faults.Memory some is = absurd (some refl)

    cells_by : ((bases : List ℕ) × (counts : List ℕ) × (used : List Used) × AreLeastCells graph windows bases counts used × (sum counts ≤ MAX_CELLS) × AreShortGaps used)
        ⊎ ((fault : CellFault) × (fault ≢ cell_faults.Memory) × IsCellFault graph windows fault) → IsDecided g stages.Cells
    cells_by = ⊎_elim
        (λ (x : (bases : List ℕ) × (counts : List ℕ) × (used : List Used) × AreLeastCells graph windows bases counts used × (sum counts ≤ MAX_CELLS) × AreShortGaps used).
        inl (
          record { graph = graph; words = words; windows = windows; bases = x.0; counts = x.1; used = x.2 },
          record {
            has_graph = worded.has_graph;
            is_plan = record {
              graph = worded.has_graph.well_formed;
              words = worded.are_words;
              dates = dated.are_dates;
              short_windows = dated.short;
              room = dated.room;
              cells = x.3;
              short_gaps = x.5;
              few_cells = x.4;
            };
          },
        ))
        (λ (x : (fault : CellFault) × (fault ≢ cell_faults.Memory) × IsCellFault graph windows fault). cells_refused x.0 x.1 x.2)

    pub cells_there : IsDecided g stages.Cells
    cells_there = cells_by (law.cells graph words windows worded.has_graph.well_formed worded.are_words dated.are_dates)

  -- words and dates are those of one graph
  pub cells_decided : ((a b : TaskGraph) → HasGraph g a → HasGraph g b → a ≡ b) → Holds g stages.Words → Holds g stages.Dates → IsDecided g stages.Cells
  cells_decided one (graph, words, worded) (other, windows, dated) =
      cells_there graph words windows worded (subst (λ (x : TaskGraph). HasDates g x windows) (one other graph dated.has_graph worded.has_graph) dated)

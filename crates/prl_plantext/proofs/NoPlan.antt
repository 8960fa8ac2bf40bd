-- A graph at which planning is refused is that of no plan.
use Rattle.std.proofs.Common.{◌≡◌, ℕ, List, sum, ap, subst, arith}
use Rattle.prl_plan.specs.Vocabulary.{AreLeastCells, AreEncodedDates, IsWellFormed, AreShortWindows, HaveRoom, IsPlan, PlanView, AreWords}
use Rattle.prl_plan.specs.declared.graphs.TaskGraph.{TaskGraph}
use Rattle.prl_plan.specs.declared.tables.Window.{Window}
use Rattle.prl_words.specs.GraphWords.{IsWordFault}
use Rattle.prl_words.specs.declared.graphs.WordFault.{WordFault}
use Rattle.prl_words.specs.declared.graphs.WordFault.TheVariants as word_faults
use Rattle.prl_dates.specs.Faults.{HasNarrowChain, HasNoNarrowChain, IsOfGraph}
use Rattle.prl_dates.specs.declared.faults.DateFault.{DateFault}
use Rattle.prl_dates.specs.declared.faults.DateFault.TheVariants as date_faults
use Rattle.prl_buffers.specs.CellFaults.{IsCellFault}
use Rattle.prl_buffers.specs.declared.tables.CellFault.{CellFault}
use Rattle.prl_buffers.specs.declared.tables.CellFault.TheVariants as cell_faults
use Rattle.prl_plantext.proofs.Counts.{FirstReaders, OneFirstReader, constants_are, counts_are_one}
use Rattle.prl_plantext.specs.code.Planned.{IsGraphFault, of_cells, of_dates, of_words}

-- words: each has as many constants as jobs come before the first reader

pub words_refused : (graph : TaskGraph) (fault : WordFault) → FirstReaders → OneFirstReader → IsWellFormed graph → IsWordFault graph fault →
    IsGraphFault graph (of_words fault)
words_refused graph (word_faults.Limit limit) first one well is = λ plan planned same.
    let words : AreWords graph plan.words = subst (λ (g : TaskGraph). AreWords g plan.words) same planned.words in
    let count = constants_are graph plan.words first one well words in
    let few = words.few in
    let past = is.1 in
    absurd (omega (arith, count, few, past))
words_refused graph word_faults.Memory first one well is = tt

-- dates: a plan has room

abbrev NoNarrowChain : Type 0
NoNarrowChain = (graph : TaskGraph) (windows : List (List Window)) → AreEncodedDates graph windows → HaveRoom graph windows → HasNoNarrowChain graph

room_refutes : (graph : TaskGraph) → NoNarrowChain → HasNarrowChain graph → (plan : PlanView) → IsPlan plan → plan.graph ≡ graph → ⊥
room_refutes graph room narrow = λ plan planned same.
    subst (λ (g : TaskGraph). HasNoNarrowChain g) same (room plan.graph plan.windows planned.dates planned.room) narrow

pub dates_refused : (graph : TaskGraph) (fault : DateFault) → NoNarrowChain → (IsOfGraph fault → HasNarrowChain graph) → IsGraphFault graph (of_dates fault)
dates_refused graph (date_faults.Narrow task job needs has) room narrow = room_refutes graph room (narrow tt)
dates_refused graph (date_faults.Loop task job) room narrow = room_refutes graph room (narrow tt)
dates_refused graph date_faults.Memory room narrow = tt

-- cells: all enumerations of used instances lead to the same counts

abbrev OneDates : Type 0
OneDates =
    (graph : TaskGraph) (a b : List (List Window)) → AreEncodedDates graph a → AreEncodedDates graph b → AreShortWindows a → AreShortWindows b → a ≡ b

pub cells_refused : (graph : TaskGraph) (windows : List (List Window)) (fault : CellFault) → OneDates → AreEncodedDates graph windows → AreShortWindows windows →
    IsCellFault graph windows fault → IsGraphFault graph (of_cells fault)
cells_refused graph windows (cell_faults.Limit limit) one dates short is = λ plan planned same.
    let plan_dates : AreEncodedDates graph plan.windows = subst (λ (g : TaskGraph). AreEncodedDates g plan.windows) same planned.dates in
    let same_windows : plan.windows ≡ windows = one graph plan.windows windows plan_dates dates planned.short_windows short in
    let cells : AreLeastCells graph windows plan.bases plan.counts plan.used =
    subst (λ (w : List (List Window)). AreLeastCells graph w plan.bases plan.counts plan.used) same_windows
    (subst (λ (g : TaskGraph). AreLeastCells g plan.windows plan.bases plan.counts plan.used) same planned.cells) in
    let counts = counts_are_one graph windows plan.bases plan.counts is.0 is.1 plan.used is.2 cells is.3 in
    let sums = ap (λ (l : List ℕ). sum l) counts in
    let few = planned.few_cells in
    let past = is.5 in
    absurd (omega (arith, sums, few, past))
cells_refused graph windows cell_faults.Memory one dates short is = tt

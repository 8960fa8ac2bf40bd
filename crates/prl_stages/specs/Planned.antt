-- The plan of a program: its task graph with words, encoded dates and cells; why there is none; and what the modes write of it.
use Rattle.std.specs.Prelude.{◌≡◌, ℕ, List, [], ◌∷◌, length, sum, Option, Some, None, codes}
use Rattle.std.specs.List.{concat}
use Rattle.std.specs.Fmt.{decimal}
use Rattle.prl_base.specs.declared.limits.Limit.{Limit}
use Rattle.prl_base.specs.declared.operators.Clock.{Clock}
use Rattle.prl_flow.specs.Programs.{FlatProgram}
use Rattle.prl_plan.specs.declared.graphs.TaskGraph.{TaskGraph}
use Rattle.prl_plan.specs.declared.tables.Window.{Window}
use Rattle.prl_plan.specs.declared.words.Word.{Word}
use Rattle.prl_plan.specs.Dates.{AreEncodedDates}
use Rattle.prl_plan.specs.Graphs.{IsWellFormed}
use Rattle.prl_plan.specs.Jobs.{task_at}
use Rattle.prl_plan.specs.Plans.{PlanView, IsPlan, HaveRoom, AreShortWindows}
use Rattle.prl_plan.specs.Words.{AreWords}
use Rattle.prl_graph.specs.declared.faults.GraphFault.{GraphFault}
use Rattle.prl_graph.specs.declared.faults.GraphFault.TheVariants as graph_faults
use Rattle.prl_graph.specs.TaskGraphs.{IsGraphOf, IsGraphFault}
use Rattle.prl_words.specs.declared.graphs.WordFault.TheVariants as word_faults
use Rattle.prl_words.specs.GraphWords.{IsWordFault}
use Rattle.prl_dates.specs.declared.faults.DateFault.{DateFault}
use Rattle.prl_dates.specs.declared.faults.DateFault.TheVariants as date_faults
use Rattle.prl_dates.specs.Faults.{IsDateFault}
use Rattle.prl_buffers.specs.declared.tables.CellFault.TheVariants as cell_faults
use Rattle.prl_buffers.specs.CellFaults.{IsCellFault}
use Rattle.prl_stages.specs.declared.faults.GraphRefusal.{GraphRefusal}
use Rattle.prl_stages.specs.declared.faults.GraphRefusal.TheVariants as bad_graph
use Rattle.prl_stages.specs.declared.faults.DatesRefusal.{DatesRefusal}
use Rattle.prl_stages.specs.declared.faults.DatesRefusal.TheVariants as bad_dates
use Rattle.prl_stages.specs.declared.faults.Fault.{Fault}
use Rattle.prl_stages.specs.declared.faults.Fault.TheVariants as faults
use Rattle.prl_stages.specs.Given.{Given}
use Rattle.prl_stages.specs.Flattened.{HasClocks}

-- the task graph of the flat program with its clocks
pub record HasGraph (g : Given) (graph : TaskGraph) : Type 0 where
  pub flat : FlatProgram
  pub clocks : List Clock
  pub clocked : HasClocks g flat clocks
  pub is_graph : IsGraphOf flat clocks graph
  pub well_formed : IsWellFormed graph

-- the fault of the task graph that is told as a refusal
abbrev pub graph_fault : GraphRefusal → GraphFault
graph_fault (bad_graph.DueOnNonTask label) = graph_faults.DueOnNonTask label
graph_fault (bad_graph.DueRange flow due period) = graph_faults.DueRange flow due period
graph_fault (bad_graph.Limit limit) = graph_faults.Limit limit

abbrev pub RefusesGraph : Given → Fault → Type 0
RefusesGraph g fault =
    (flat : FlatProgram) × (clocks : List Clock) × HasClocks g flat clocks × (refusal : GraphRefusal)
    × IsGraphFault flat clocks (graph_fault refusal) × (fault ≡ faults.Graph refusal)

-- the dependency words of its edges
pub record HasWords (g : Given) (graph : TaskGraph) (words : List Word) : Type 0 where
  pub has_graph : HasGraph g graph
  pub are_words : AreWords graph words

abbrev pub RefusesWords : Given → Fault → Type 0
RefusesWords g fault =
    (graph : TaskGraph) × HasGraph g graph × (limit : Limit) × IsWordFault graph (word_faults.Limit limit) × (fault ≡ faults.Limit limit)

-- the encoded dates of its jobs, which leave each of them room
pub record HasDates (g : Given) (graph : TaskGraph) (windows : List (List Window)) : Type 0 where
  pub has_graph : HasGraph g graph
  pub are_dates : AreEncodedDates graph windows
  pub room : HaveRoom graph windows
  pub short : AreShortWindows windows

-- a fault of dates as a refusal, which has the name of the task for its number; want of memory is none
abbrev pub dates_refusal : TaskGraph → DateFault → Option DatesRefusal
dates_refusal graph (date_faults.Narrow task job needs has) = Some (bad_dates.Narrow (task_at graph task.0).name job needs has)
dates_refusal graph (date_faults.Loop task job) = Some (bad_dates.Loop (task_at graph task.0).name job)
dates_refusal graph date_faults.Memory = None

abbrev pub RefusesDates : Given → Fault → Type 0
RefusesDates g fault =
    (graph : TaskGraph) × HasGraph g graph × (cause : DateFault) × IsDateFault graph cause × (refusal : DatesRefusal)
    × (dates_refusal graph cause ≡ Some refusal) × (fault ≡ faults.Dates refusal)

-- the plan: the graph with words, dates and cells
pub record HasPlan (g : Given) (plan : PlanView) : Type 0 where
  pub has_graph : HasGraph g plan.graph
  pub is_plan : IsPlan plan

abbrev pub RefusesCells : Given → Fault → Type 0
RefusesCells g fault =
    (graph : TaskGraph) × (windows : List (List Window)) × HasDates g graph windows × (limit : Limit)
    × IsCellFault graph windows (cell_faults.Limit limit) × (fault ≡ faults.Limit limit)

-- the line that says how large a plan is
abbrev pub accepted_line : PlanView → List ℕ
accepted_line plan =
    concat (
    codes "accepted tasks " ∷ decimal (length plan.graph.tasks) ∷ codes " edges " ∷ decimal (length plan.graph.edges)
    ∷ codes " hyperperiod " ∷ decimal plan.graph.hyper ∷ codes " cells " ∷ decimal (sum plan.counts) ∷ codes "\n" ∷ []
    )

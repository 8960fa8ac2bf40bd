-- The stages of the command in the order of refusals, and the modes as lists of them.
use Rattle.std.specs.Prelude.{◌≡◌, ◌⊎◌, ℕ, Bool, true, false, List, [], ◌∷◌, ◌++◌, Option, Some, None, is_some, Ok, Err}
use Rattle.prl_ast.specs.Trees.{ProgramTree}
use Rattle.prl_syntax.specs.Parsing.{IsParsed}
use Rattle.prl_types.specs.Typing.{IsFault}
use Rattle.prl_types.specs.declared.faults.TypeFault.{TypeFault}
use Rattle.prl_body.specs.Checks.{BodyTree}
use Rattle.prl_base.specs.declared.operators.Clock.{Clock}
use Rattle.prl_flow.specs.Programs.{FlatProgram}
use Rattle.prl_flow.specs.Rows.{Rows}
use Rattle.prl_plan.specs.declared.graphs.TaskGraph.{TaskGraph}
use Rattle.prl_plan.specs.declared.horizons.Horizon.{Horizon}
use Rattle.prl_plan.specs.declared.tables.Window.{Window}
use Rattle.prl_plan.specs.declared.words.Word.{Word}
use Rattle.prl_plan.specs.Horizons.{Placement}
use Rattle.prl_plan.specs.Plans.{PlanView}
use Rattle.prl_plantext.specs.PlanTexts.{plan_text}
use Rattle.prl_print.specs.Printing.{printed}
use Rattle.prl_stages.specs.declared.faults.InputFile.TheVariants as parts
use Rattle.prl_stages.specs.declared.faults.GrammarRefusal.{GrammarRefusal}
use Rattle.prl_stages.specs.declared.faults.BodiesRefusal.{BodiesRefusal}
use Rattle.prl_stages.specs.declared.faults.Fault.{Fault}
use Rattle.prl_stages.specs.declared.faults.Fault.TheVariants as faults
use Rattle.prl_stages.specs.declared.stages.Stage.{Stage}
use Rattle.prl_stages.specs.declared.stages.Stage.TheVariants as stages
use Rattle.prl_arguments.specs.declared.arguments.Command.{Command}
use Rattle.prl_arguments.specs.declared.arguments.Mode.{Mode}
use Rattle.prl_arguments.specs.declared.arguments.Mode.TheVariants as modes
use Rattle.prl_stages.specs.Given.{Given, content_of, text_of}
use Rattle.prl_stages.specs.Parts.{IsProgram, IsMain, AreBodies, RefusesBodies, grammar_fault, bodies_fault}
use Rattle.prl_stages.specs.Feasible.{IsEdfText}
use Rattle.prl_stages.specs.Flattened.{IsFlattened, IsCausal, HasClocks, RefusesExpansion, RefusesCausality, RefusesClocks}
use Rattle.prl_stages.specs.Planned.{HasGraph, HasWords, HasDates, HasPlan, RefusesGraph, RefusesWords, RefusesDates, RefusesCells, accepted_line}
use Rattle.prl_stages.specs.Placed.{HasPlacement, IsPlacedRun, IsCoresText, RefusesCores, RefusesPlaced}
use Rattle.prl_stages.specs.Replayed.{IsReplayText, IsWholeRun, RefusesSchedule}
use Rattle.prl_stages.specs.Runs.{HasRows, HasFewValues, IsFlowsText, RefusesRows, RefusesValues}
use Rattle.prl_stages.specs.Scheduled.{HasHorizon, IsScheduleText, RefusesHorizon}
use Rattle.prl_stages.specs.Tabled.{HasMadeTable, HasTable, IsTableText, RefusesMade, RefusesTable}
use Rattle.prl_overlaps.specs.declared.entries.Entry.{Entry}

-- a stage finds what it looks for
abbrev pub Holds : Given → Stage → Type 0
Holds g (stages.File part) = (bytes : List ℕ) × (content_of g part ≡ Ok bytes)
Holds g stages.Grammar = (p : ProgramTree) × IsProgram g p
Holds g stages.Types = (p : ProgramTree) × (main : ℕ) × IsMain g p main
Holds g stages.Expansion = (flat : FlatProgram) × IsFlattened g flat
Holds g stages.Causality = (flat : FlatProgram) × IsCausal g flat
Holds g stages.Clocks = (flat : FlatProgram) × (clocks : List Clock) × HasClocks g flat clocks
Holds g stages.Graph = (graph : TaskGraph) × HasGraph g graph
Holds g stages.Words = (graph : TaskGraph) × (words : List Word) × HasWords g graph words
Holds g stages.Bodies = (trees : List BodyTree) × AreBodies g trees
Holds g stages.Dates = (graph : TaskGraph) × (windows : List (List Window)) × HasDates g graph windows
Holds g stages.Cells = (plan : PlanView) × HasPlan g plan
Holds g stages.Horizon = (plan : PlanView) × (horizon : Horizon) × HasHorizon g plan horizon
Holds g stages.Rows = (flat : FlatProgram) × (clocks : List Clock) × (rows : Rows) × HasRows g flat clocks rows
Holds g stages.Schedule = (plan : PlanView) × (horizon : Horizon) × IsWholeRun g plan horizon
Holds g stages.Made = (plan : PlanView) × (entries : List Entry) × HasMadeTable g plan entries
Holds g stages.Table = (plan : PlanView) × (entries : List Entry) × HasTable g plan entries
Holds g stages.Cores = (plan : PlanView) × (placement : Placement) × HasPlacement g plan placement
Holds g stages.Placed = (plan : PlanView) × (placement : Placement) × (horizon : Horizon) × IsPlacedRun g plan placement horizon
Holds g stages.Values = HasFewValues g

-- a stage refuses with a fault, where the stages that it stands on hold
abbrev pub Refuses : Given → Stage → Fault → Type 0
Refuses g (stages.File part) fault = content_of g part ≡ Err fault
Refuses g stages.Grammar fault =
    (refusal : GrammarRefusal) × IsParsed (text_of g parts.Program) (Err (grammar_fault refusal)) × (fault ≡ faults.Grammar refusal)
Refuses g stages.Types fault =
    (p : ProgramTree) × IsProgram g p × (cause : TypeFault) × IsFault p g.node cause × (fault ≡ faults.Types cause)
Refuses g stages.Expansion fault = RefusesExpansion g fault
Refuses g stages.Causality fault = RefusesCausality g fault
Refuses g stages.Clocks fault = RefusesClocks g fault
Refuses g stages.Graph fault = RefusesGraph g fault
Refuses g stages.Words fault = RefusesWords g fault
Refuses g stages.Bodies fault =
    (p : ProgramTree) × (main : ℕ) × IsMain g p main × (refusal : BodiesRefusal)
    × RefusesBodies p main (text_of g parts.Bodies) (bodies_fault refusal) × (fault ≡ faults.Bodies refusal)
Refuses g stages.Dates fault = RefusesDates g fault
Refuses g stages.Cells fault = RefusesCells g fault
Refuses g stages.Horizon fault = RefusesHorizon g fault
Refuses g stages.Rows fault = RefusesRows g fault
Refuses g stages.Schedule fault = RefusesSchedule g fault
Refuses g stages.Made fault = RefusesMade g fault
Refuses g stages.Table fault = RefusesTable g fault
Refuses g stages.Cores fault = RefusesCores g fault
Refuses g stages.Placed fault = RefusesPlaced g fault
Refuses g stages.Values fault = RefusesValues g fault

-- all stages of a list hold, or the first that does not refuses with this fault
abbrev pub Comes : Given → List Stage → Option (Stage × Fault) → Type 0
Comes g [] end = end ≡ None
Comes g (stage ∷ rest) end =
    (Holds g stage × Comes g rest end) ⊎ ((fault : Fault) × Refuses g stage fault × (end ≡ Some (stage, fault)))

-- the stage finds what it looks for, or refuses with some fault
abbrev pub IsDecided : Given → Stage → Type 0
IsDecided g stage = Holds g stage ⊎ ((fault : Fault) × Refuses g stage fault)

-- each stage of a list is decided where those before it hold
abbrev pub AreDecided : Given → List Stage → Type 0
AreDecided g [] = Unit {0}
AreDecided g (stage ∷ rest) = IsDecided g stage × (Holds g stage → AreDecided g rest)

-- the files are read first, in this order; one that is not named gives no bytes
abbrev pub files : List Stage
files =
    stages.File parts.Program ∷ stages.File parts.Bodies ∷ stages.File parts.Sensors ∷ stages.File parts.Schedule
    ∷ stages.File parts.Table ∷ stages.File parts.Cores ∷ []

-- what modes that take a program have in common
abbrev pub front : List Stage
front = stages.Grammar ∷ stages.Types ∷ stages.Expansion ∷ stages.Causality ∷ stages.Clocks ∷ []

-- what modes that plan a program have in common after this: the task graph with its words; and then its dates and cells
abbrev pub graphed : List Stage
graphed = stages.Graph ∷ stages.Words ∷ []

abbrev pub planned : List Stage
planned = stages.Dates ∷ stages.Cells ∷ []

-- the bodies, in a mode that looks at them only where they are named
abbrev pub named_bodies : Bool → List Stage
named_bodies true = stages.Bodies ∷ []
named_bodies false = []

-- what modes that do the plan's jobs have in common after the clocks
abbrev pub ran : List Stage
ran = graphed ++ (stages.Bodies ∷ []) ++ planned ++ stages.Horizon ∷ stages.Rows ∷ []

-- the stages of a mode after the files, where bodies are named or not
abbrev pub stages_after : Mode → Bool → List Stage
stages_after modes.Print bodies = stages.Grammar ∷ []
stages_after modes.Plan bodies = front ++ graphed ++ planned
stages_after modes.Check bodies = front ++ graphed ++ named_bodies bodies ++ planned
stages_after modes.Flows bodies = front ++ stages.Bodies ∷ stages.Rows ∷ stages.Values ∷ []
stages_after modes.Schedule bodies = front ++ graphed ++ planned ++ (stages.Horizon ∷ [])
stages_after modes.Edf bodies = front ++ graphed ++ planned ++ (stages.Horizon ∷ [])
stages_after modes.Table bodies = front ++ graphed ++ planned ++ (stages.Made ∷ [])
stages_after modes.Replay bodies = (front ++ ran) ++ (stages.Schedule ∷ [])
stages_after modes.Cores bodies = (front ++ ran) ++ stages.Cores ∷ stages.Placed ∷ []
stages_after modes.Run bodies = front ++ ran
stages_after modes.Generate bodies = front ++ ran
stages_after modes.Cycle bodies = (front ++ ran) ++ (stages.Table ∷ [])

-- the stages of a command
abbrev pub stages_of : Command → List Stage
stages_of c = files ++ stages_after c.mode (is_some c.bodies)

-- the text that a mode means where its stages hold; that of `run`, `generate` and `cycle` goes with what they have run
abbrev pub IsText : Given → Mode → List ℕ → Type 0
IsText g modes.Print text = (p : ProgramTree) × IsProgram g p × (text ≡ printed p)
IsText g modes.Plan text = (plan : PlanView) × HasPlan g plan × (text ≡ plan_text plan)
IsText g modes.Check text = (plan : PlanView) × HasPlan g plan × (text ≡ accepted_line plan)
IsText g modes.Flows text = IsFlowsText g text
IsText g modes.Schedule text = IsScheduleText g text
IsText g modes.Cores text = IsCoresText g text
IsText g modes.Edf text = IsEdfText g text
IsText g modes.Table text = IsTableText g text
IsText g modes.Replay text = IsReplayText g text
IsText g modes.Run text = ⊥
IsText g modes.Generate text = ⊥
IsText g modes.Cycle text = ⊥

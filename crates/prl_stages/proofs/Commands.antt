-- The stages of every command are decided, each once those before it hold.
use Rattle.prl_base.proofs.Standard.{◌≤◌, ◌<◌, ◌^◌, ◌++◌, Bool, true, false, List, [], ◌∷◌, Option, ap, arith, is_some}
use Rattle.prl_arguments.specs.declared.arguments.Command.{Command}
use Rattle.prl_arguments.specs.declared.arguments.Mode.{Mode}
use Rattle.prl_arguments.specs.declared.arguments.TheConstants.{MAX_UNTIL}
use Rattle.prl_arguments.specs.declared.arguments.Mode.TheVariants as modes
use Rattle.prl_stages.specs.Vocabulary.{InputFile, Stage, Folder, Given, IsGivenIn, IsGivenTo, Holds, IsDecided, AreDecided, files, front, graphed, named_bodies, planned, ran, stages_after, stages_of}
use Rattle.prl_stages.specs.Vocabulary.{FindOne}
use Rattle.prl_stages.specs.declared.faults.InputFile.TheVariants as parts
use Rattle.prl_stages.specs.declared.stages.Stage.TheVariants as stages
use Rattle.prl_stages.proofs.OneParts.{one_clocks, one_flat}
use Rattle.prl_stages.proofs.OnePlan.{one_graph}
use Rattle.prl_stages.proofs.OneRun.{one_plan}
use Rattle.prl_stages.proofs.Decided as first
use Rattle.prl_stages.proofs.DecidedRuns as runs
use Rattle.prl_stages.proofs.DecidedPlans as plans
use Rattle.prl_stages.proofs.DecidedTables as tables

-- each stage is decided once those that it stands on hold
pub record Decided (g : Given) : Type 0 where
  pub file : (part : InputFile) → IsDecided g (stages.File part)
  pub grammar : IsDecided g stages.Grammar
  pub types : Holds g stages.Grammar → IsDecided g stages.Types
  pub expansion : Holds g stages.Types → IsDecided g stages.Expansion
  pub causality : Holds g stages.Expansion → IsDecided g stages.Causality
  pub clocks : Holds g stages.Causality → IsDecided g stages.Clocks
  pub graph : Holds g stages.Clocks → IsDecided g stages.Graph
  pub words : Holds g stages.Graph → IsDecided g stages.Words
  pub bodies : Holds g stages.Types → IsDecided g stages.Bodies
  pub dates : Holds g stages.Graph → IsDecided g stages.Dates
  pub cells : Holds g stages.Words → Holds g stages.Dates → IsDecided g stages.Cells
  pub horizon : Holds g stages.Cells → IsDecided g stages.Horizon
  pub rows : Holds g stages.Clocks → IsDecided g stages.Rows
  pub schedule : Holds g stages.Horizon → IsDecided g stages.Schedule
  pub made : Holds g stages.Cells → IsDecided g stages.Made
  pub table : Holds g stages.Cells → IsDecided g stages.Table
  pub cores : Holds g stages.Cells → IsDecided g stages.Cores
  pub placed : Holds g stages.Horizon → Holds g stages.Cores → IsDecided g stages.Placed
  pub values : Holds g stages.Clocks → IsDecided g stages.Values

module _ (g : Given) (d : Decided g) where
  after_files : (rest : List Stage) → AreDecided g rest → AreDecided g (files ++ rest)
  after_files rest h = (
    d.file parts.Program,
    λ _. (
      d.file parts.Bodies,
      λ _. (d.file parts.Sensors, λ _. (d.file parts.Schedule, λ _. (d.file parts.Table, λ _. (d.file parts.Cores, λ _. h)))),
    ),
  )

  after_front : (rest : List Stage) → (Holds g stages.Types → Holds g stages.Clocks → AreDecided g rest) → AreDecided g (front ++ rest)
  after_front rest then = (
    d.grammar,
    λ text. (d.types text, λ types. (d.expansion types, λ flat. (d.causality flat, λ causal. (d.clocks causal, λ clocks. then types clocks)))),
  )

  after_graphed : Holds g stages.Clocks → (rest : List Stage) → (Holds g stages.Graph → Holds g stages.Words → AreDecided g rest) → AreDecided g (graphed ++ rest)
  after_graphed clocks rest then = (d.graph clocks, λ graph. (d.words graph, λ words. then graph words))

  after_planned : Holds g stages.Graph → Holds g stages.Words → (rest : List Stage) → (Holds g stages.Cells → AreDecided g rest) → AreDecided g (planned ++ rest)
  after_planned graph words rest then = (d.dates graph, λ dates. (d.cells words dates, λ plan. then plan))

  -- what has a plan, and then these stages
  with_plan : (rest : List Stage) → (Holds g stages.Cells → AreDecided g rest) → AreDecided g (front ++ graphed ++ planned ++ rest)
  with_plan rest then =
      after_front (graphed ++ planned ++ rest) (λ types clocks.
      after_graphed clocks (planned ++ rest) (λ graph words. after_planned graph words rest then))

  -- what does jobs, and then these stages
  with_run : (rest : List Stage) → (Holds g stages.Cells → Holds g stages.Horizon → AreDecided g rest) → AreDecided g ((front ++ ran) ++ rest)
  with_run rest then =
      after_front (ran ++ rest) (λ types clocks.
      after_graphed clocks (stages.Bodies ∷ (planned ++ stages.Horizon ∷ stages.Rows ∷ rest)) (λ graph words. (
        d.bodies types,
        λ _. after_planned graph words (stages.Horizon ∷ stages.Rows ∷ rest) (λ plan. (d.horizon plan, λ horizon. (d.rows clocks, λ _. then plan horizon))),
      )))

  checked : (named : Bool) → AreDecided g (front ++ graphed ++ named_bodies named ++ planned)
  checked false = with_plan [] (λ _. tt)
  checked true =
      after_front (graphed ++ (stages.Bodies ∷ []) ++ planned) (λ types clocks.
      after_graphed clocks (stages.Bodies ∷ planned) (λ graph words. (d.bodies types, λ _. after_planned graph words [] (λ _. tt))))

  after : (mode : Mode) (named : Bool) → AreDecided g (stages_after mode named)
  after modes.Print named = (d.grammar, λ _. tt)
  after modes.Plan named = with_plan [] (λ _. tt)
  after modes.Check named = checked named
  after modes.Flows named =
      after_front (stages.Bodies ∷ stages.Rows ∷ stages.Values ∷ []) (λ types clocks.
      (d.bodies types, λ _. (d.rows clocks, λ _. (d.values clocks, λ _. tt))))
  after modes.Schedule named = with_plan (stages.Horizon ∷ []) (λ plan. (d.horizon plan, λ _. tt))
  after modes.Edf named = with_plan (stages.Horizon ∷ []) (λ plan. (d.horizon plan, λ _. tt))
  after modes.Table named = with_plan (stages.Made ∷ []) (λ plan. (d.made plan, λ _. tt))
  after modes.Replay named = with_run (stages.Schedule ∷ []) (λ plan horizon. (d.schedule horizon, λ _. tt))
  after modes.Cores named = with_run (stages.Cores ∷ stages.Placed ∷ []) (λ plan horizon. (d.cores plan, λ cores. (d.placed horizon cores, λ _. tt)))
  after modes.Run named = with_run [] (λ plan horizon. tt)
  after modes.Generate named = with_run [] (λ plan horizon. tt)
  after modes.Cycle named = with_run (stages.Table ∷ []) (λ plan horizon. (d.table plan, λ _. tt))

  pub all_decided : (mode : Mode) (named : Bool) → AreDecided g (files ++ stages_after mode named)
  all_decided mode named = after_files (stages_after mode named) (after mode named)

-- the laws of the crates below
pub record Laws : Type 0 where
  pub ones : FindOne
  pub first : first.Laws
  pub runs : runs.Laws
  pub plans : plans.Laws
  pub tables : tables.Laws

decided : Laws → (g : Given) → g.until < 2 ^ 32 → Decided g
decided law g small =
    let parts = law.ones.parts in
    let graphs = one_graph law.ones.plans g (one_flat parts g) (one_clocks parts g) in
    record {
      file = first.file_decided g;
      grammar = first.grammar_decided law.first g;
      types = first.types_decided law.first g;
      expansion = runs.expansion_decided parts law.runs g;
      causality = runs.causality_decided parts law.runs g;
      clocks = runs.clocks_decided parts law.runs g;
      graph = runs.graph_decided parts law.runs g;
      words = plans.words_decided law.plans g;
      bodies = first.bodies_decided law.first g;
      dates = plans.dates_decided law.plans g;
      cells = plans.cells_decided law.plans g graphs;
      horizon = runs.horizon_decided parts law.runs g small;
      rows = runs.rows_decided parts law.runs g;
      schedule = runs.schedule_decided parts law.runs g;
      made = tables.made_decided law.tables g;
      table = tables.table_decided law.tables g;
      cores = tables.cores_decided law.tables g;
      placed = tables.placed_decided law.tables g (one_plan law.ones.runs g graphs);
      values = runs.values_decided parts law.runs g;
    }

-- what is given to a command in its range has a date of 32 bits
small_date : (mode : Mode) (told : Option Folder) (c : Command) (g : Given) → c.until ≤ MAX_UNTIL → IsGivenIn mode told c g → g.until < 2 ^ 32
small_date modes.Print told c g most is = let same = is.until in omega (arith, most, same)
small_date modes.Check told c g most is = let same = is.until in omega (arith, most, same)
small_date modes.Plan told c g most is = let same = is.until in omega (arith, most, same)
small_date modes.Edf told c g most is = let same = is.until in omega (arith, most, same)
small_date modes.Table told c g most is = let same = is.until in omega (arith, most, same)
small_date modes.Flows told c g most is = let same = is.until in omega (arith, most, same)
small_date modes.Schedule told c g most is = let same = is.until in omega (arith, most, same)
small_date modes.Replay told c g most is = let same = is.until in omega (arith, most, same)
small_date modes.Run told c g most is = let same = is.until in omega (arith, most, same)
small_date modes.Cycle told c g most is = let same = is.until in omega (arith, most, same)
small_date modes.Cores told c g most is = let same = is.until in omega (arith, most, same)
small_date modes.Generate told c g most is = let same = ap (λ (x : Given). x.until) is in omega (arith, same)

pub command_decided : Laws → (c : Command) → c.until ≤ MAX_UNTIL → (told : Option Folder) (g : Given) → IsGivenTo told c g → AreDecided g (stages_of c)
command_decided law c most told g is = all_decided g (decided law g (small_date c.mode told c g most is)) c.mode (is_some c.bodies)

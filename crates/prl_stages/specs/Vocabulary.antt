-- The words of this crate that clauses and proofs use, from one place.
pub use Rattle.prl_stages.specs.Feasible.{IsEdfText}
pub use Rattle.prl_stages.specs.Flattened.{HasClocks, IsCausal, IsFlattened, clock_fault}
pub use Rattle.prl_stages.specs.Given.{Folder, Given, IsContent, IsGiven, IsGivenIn, IsGivenTo}
pub use Rattle.prl_stages.specs.Given.{all_files, content_of, file_of, generated, named_first}
pub use Rattle.prl_stages.specs.Given.{names_of, read_as, text_of, up_to}
pub use Rattle.prl_stages.specs.Needs.{HoldsBodies}
pub use Rattle.prl_stages.specs.Parts.{AreBodies, IsMain, IsProgram, RefusesBodies, bodies_fault}
pub use Rattle.prl_stages.specs.Parts.{grammar_fault}
pub use Rattle.prl_stages.specs.Placed.{HasPlacement, IsCoresText, IsPlacedRun, Lists, RefusesCores}
pub use Rattle.prl_stages.specs.Placed.{RefusesPlaced, cores_refusal}
pub use Rattle.prl_stages.specs.Planned.{HasDates, HasGraph, HasPlan, HasWords, RefusesCells}
pub use Rattle.prl_stages.specs.Planned.{RefusesDates, RefusesGraph, RefusesWords, accepted_line}
pub use Rattle.prl_stages.specs.Planned.{dates_refusal, graph_fault}
pub use Rattle.prl_stages.specs.PlansAlone.{IsPlanOrNone, program_alone}
pub use Rattle.prl_stages.specs.Ran.{HasOverrun, HasRun, IsCycleText, IsMeant, IsMeantIn, IsRunOf}
pub use Rattle.prl_stages.specs.Ran.{IsRunText, IsSummary, list_of, sum_of, summary_line}
pub use Rattle.prl_stages.specs.Replayed.{Execution, IsReplayText, IsWholeRun, ReadFlows}
pub use Rattle.prl_stages.specs.Replayed.{RefusesSchedule, bare, schedule_refusal}
pub use Rattle.prl_stages.specs.Runs.{HasRows, IsFlowsText, Meaning, inputs_of, meant_flows}
pub use Rattle.prl_stages.specs.Runs.{named_flows, needs_of, rows_for, sensors_fault, too_many}
pub use Rattle.prl_stages.specs.Runs.{type_of_flow}
pub use Rattle.prl_stages.specs.Scheduled.{HasHorizon, IsScheduleText, IsWhole, RefusesHorizon}
pub use Rattle.prl_stages.specs.Stages.{AreDecided, Comes, Holds, IsDecided, IsText, Refuses, files}
pub use Rattle.prl_stages.specs.Stages.{front, graphed, named_bodies, planned, ran, stages_after}
pub use Rattle.prl_stages.specs.Stages.{stages_of}
pub use Rattle.prl_stages.specs.Tabled.{HasMadeTable, HasTable, IsTableFault, IsTableText}
pub use Rattle.prl_stages.specs.Tabled.{RefusesMade, RefusesTable, make_refusal, table_refusal}
pub use Rattle.prl_stages.specs.Told.{stop_of, told_body, told_clocks, told_flow, told_graph}
pub use Rattle.prl_stages.specs.Told.{told_parse, told_sensors, told_types}
pub use Rattle.prl_stages.specs.code.Ones.{FindOne, PartLaws, PlanLaws, RunLaws}
pub use Rattle.prl_stages.specs.code.Runnings.{RunningLaws, SolutionLaws}
pub use Rattle.prl_stages.specs.code.Wholes.{WholeLaws}
pub use Rattle.prl_stages.specs.declared.faults.BodiesRefusal.{BodiesRefusal}
pub use Rattle.prl_stages.specs.declared.faults.ClocksRefusal.{ClocksRefusal}
pub use Rattle.prl_stages.specs.declared.faults.DatesRefusal.{DatesRefusal}
pub use Rattle.prl_stages.specs.declared.faults.Fault.{Fault}
pub use Rattle.prl_stages.specs.declared.faults.GrammarRefusal.{GrammarRefusal}
pub use Rattle.prl_stages.specs.declared.faults.GraphRefusal.{GraphRefusal}
pub use Rattle.prl_stages.specs.declared.faults.InputFile.{InputFile}
pub use Rattle.prl_stages.specs.declared.faults.MakeRefusal.{MakeRefusal}
pub use Rattle.prl_stages.specs.declared.faults.ScheduleRefusal.{ScheduleRefusal}
pub use Rattle.prl_stages.specs.declared.faults.SensorsRefusal.{SensorsRefusal}
pub use Rattle.prl_stages.specs.declared.faults.TableRefusal.{TableRefusal}
pub use Rattle.prl_stages.specs.declared.stages.Stage.{Stage}

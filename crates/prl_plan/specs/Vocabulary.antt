-- The words of this crate that clauses and proofs use, from one place.
pub use Rattle.prl_plan.specs.CellLists.{CellLists, CountsUsed, IsOrdered, ListsSums, plan_of}
pub use Rattle.prl_plan.specs.CellTurns.{FitsInPeriod, IsAsked, IsAskedFrom, ListsGaps, span_of}
pub use Rattle.prl_plan.specs.Cells.{AreLeastCells, EnumeratesUsed, Fits, HasCells, IsLeastCount}
pub use Rattle.prl_plan.specs.Cells.{IsOverBy, IsUsed, Reads, no_used, place_of, place_up_to}
pub use Rattle.prl_plan.specs.Cells.{used_at}
pub use Rattle.prl_plan.specs.Chains.{EndsIn, IsBest, IsChain, IsNarrow, last_of, needs_of}
pub use Rattle.prl_plan.specs.Chains.{wcets_of}
pub use Rattle.prl_plan.specs.Dates.{AreDeadlines, AreEncodedDates, AreGreatestDeadlines}
pub use Rattle.prl_plan.specs.Dates.{AreLeastReleases, AreReleases, Family, RepeatsByHyper}
pub use Rattle.prl_plan.specs.Dates.{encoded_deadline, encoded_release, no_window, place_in}
pub use Rattle.prl_plan.specs.Dates.{window_at}
pub use Rattle.prl_plan.specs.Facts.{HasPlanFacts, IsJob, Provides, ReadsAt, WritesAt}
pub use Rattle.prl_plan.specs.FirstReaders.{IsFirstReader, first_instance, first_reader, natural}
pub use Rattle.prl_plan.specs.FirstReaders.{reader_before}
pub use Rattle.prl_plan.specs.Graphs.{AreInOrder, AreNumbered, Divides, HasOnePort, IsEdge}
pub use Rattle.prl_plan.specs.Graphs.{IsSource, IsTask, IsTaskName, IsWellFormed, PortsFollow}
pub use Rattle.prl_plan.specs.Graphs.{TakeClock, is_actuator, is_sensor, jobs_in_hyperperiod}
pub use Rattle.prl_plan.specs.Horizons.{IsEnd, IsHorizon, IsPast, IsPastLimit, Placement}
pub use Rattle.prl_plan.specs.Horizons.{actions_up_to, alone, constants_of, constants_on}
pub use Rattle.prl_plan.specs.Horizons.{jobs_up_to, sum_below}
pub use Rattle.prl_plan.specs.JobTables.{ComesBefore, IsJobTable, TableRow, job_table, jobs_at}
pub use Rattle.prl_plan.specs.JobTables.{operands_over, row_of, rows_at, rows_before}
pub use Rattle.prl_plan.specs.Jobs.{IsHorizonJob, Job, deadline_of, job_count, no_task, release_of}
pub use Rattle.prl_plan.specs.Jobs.{task_at}
pub use Rattle.prl_plan.specs.LastTags.{IsLeft, IsWriter, last_in, last_tag, tag_after, tag_of_jobs}
pub use Rattle.prl_plan.specs.Operands.{operand_from, operand_of, walk}
pub use Rattle.prl_plan.specs.Plans.{AreShortGaps, AreShortWindows, HaveRoom, IsActionOf, IsAtPort}
pub use Rattle.prl_plan.specs.Plans.{IsHalfOf, IsHigh, IsPlan, IsSmallOperand, PlanView, actions_of}
pub use Rattle.prl_plan.specs.Plans.{both_writes, cell_of, completes, deadline_at, edge_at, high}
pub use Rattle.prl_plan.specs.Plans.{low, low_of, no_edge, operands_before, operands_in, place_on}
pub use Rattle.prl_plan.specs.Plans.{reading, reads_before, reads_of, release_at, writes_of}
pub use Rattle.prl_plan.specs.Plans.{writing}
pub use Rattle.prl_plan.specs.Precedence.{ComesFrom, Precedes, PrecedesAlong, preceding}
pub use Rattle.prl_plan.specs.Ranges.{Fits64, HasFactor, PrecedingFits}
pub use Rattle.prl_plan.specs.Repeats.{ComesAgain, IsLeastRepeat, IsShortestRepeat, repeated}
pub use Rattle.prl_plan.specs.Representable.{HasSmallOutput, HasSmallShift, IsRepresentable}
pub use Rattle.prl_plan.specs.Rules.{ActsFirst, ActsReleased, FindsTag, FirstBroken, HasJob}
pub use Rattle.prl_plan.specs.Rules.{IsComplete, IsDue, IsFirstUnfinished, IsFree, IsGated, IsLegal}
pub use Rattle.prl_plan.specs.Rules.{IsOvertaken, IsUnfinished, KeepsFree, KeepsGated, KeepsLegal}
pub use Rattle.prl_plan.specs.Rules.{MayTick, first_unfinished}
pub use Rattle.prl_plan.specs.Runs.{ExecState, RunConstants, action_at, after_action, after_event}
pub use Rattle.prl_plan.specs.Runs.{after_events, moved, next_action, opening}
pub use Rattle.prl_plan.specs.Spread.{AreLeastSpreadReleases, AreSpreadReleases, AreTogether}
pub use Rattle.prl_plan.specs.Spread.{IsSpread}
pub use Rattle.prl_plan.specs.States.{IsAhead, IsDone, IsLeastReleased, IsOrigin, IsSound, IsTagged}
pub use Rattle.prl_plan.specs.Words.{AreWords, Climbs, IsWord, IsWordOf, RepeatsAfter, constant_or}
pub use Rattle.prl_plan.specs.Words.{constants_in, number_at, word_at}
pub use Rattle.prl_plan.specs.declared.events.Action.{Action}
pub use Rattle.prl_plan.specs.declared.events.Event.{Event}
pub use Rattle.prl_plan.specs.declared.events.Rule.{Rule}
pub use Rattle.prl_plan.specs.declared.events.SlotNo.{SlotNo}
pub use Rattle.prl_plan.specs.declared.graphs.Edge.{Edge}
pub use Rattle.prl_plan.specs.declared.graphs.Kind.{Kind}
pub use Rattle.prl_plan.specs.declared.graphs.Producer.{Producer}
pub use Rattle.prl_plan.specs.declared.graphs.Task.{Task}
pub use Rattle.prl_plan.specs.declared.graphs.TaskGraph.{TaskGraph}
pub use Rattle.prl_plan.specs.declared.horizons.Horizon.{Horizon}
pub use Rattle.prl_plan.specs.declared.limits.TheConstants.{MAX_EVENTS}
pub use Rattle.prl_plan.specs.declared.limits.TheConstants.{MAX_JOBS}
pub use Rattle.prl_plan.specs.declared.tables.Used.{Used}
pub use Rattle.prl_plan.specs.declared.tables.Window.{Window}
pub use Rattle.prl_plan.specs.declared.walks.Operand.{Operand}
pub use Rattle.prl_plan.specs.declared.words.Word.{Word}

-- The words of this crate that clauses and proofs use, from one place.
pub use Rattle.prl_graph.specs.Dues.{AllowsDue, AreDuesAllowed, BindsApplication, CopiesOutput}
pub use Rattle.prl_graph.specs.Dues.{IsDueOnNonTask, IsDueOutOfRange, IsLeastDue, IsWithinPeriod}
pub use Rattle.prl_graph.specs.Dues.{NotesDue, copy, input, output}
pub use Rattle.prl_graph.specs.EdgeValues.{value_of_operand, value_on_date}
pub use Rattle.prl_graph.specs.Edges.{AreEdges, AreEdgesOf, IsEdgeOf, IsProducer, LeadsBack}
pub use Rattle.prl_graph.specs.Hyperperiods.{IsCommonMultiple, IsHyperperiod, IsPastHyperperiod}
pub use Rattle.prl_graph.specs.JobDates.{given_flows, no_flow, outputs_of, value_or_none}
pub use Rattle.prl_graph.specs.JobDates.{values_on_dates}
pub use Rattle.prl_graph.specs.Ports.{InputPort, actuator_no, actuator_ports, application_ports}
pub use Rattle.prl_graph.specs.Ports.{argument_ports, node_no, ports_of, sensor_no, task_count}
pub use Rattle.prl_graph.specs.TaskGraphs.{AreSmallClocks, HasDues, IsGraphFault, IsGraphOf}
pub use Rattle.prl_graph.specs.TaskGraphs.{IsOfProgram, IsPassedLimit, IsPastJobs, jobs_within}
pub use Rattle.prl_graph.specs.TaskGraphs.{told}
pub use Rattle.prl_graph.specs.Tasks.{AreTasks, IsActuatorTask, IsNodeTask, IsSensorTask, IsTaskOf}
pub use Rattle.prl_graph.specs.Tasks.{actuator, actuator_task, application_clock, device_due, node}
pub use Rattle.prl_graph.specs.Tasks.{node_task, sensor, sensor_task}
pub use Rattle.prl_graph.specs.code.Made.{AreFirstTasks, HavePeriods, IsChecked, MakesActuator}
pub use Rattle.prl_graph.specs.code.Made.{MakesNode, MakesSensor}
pub use Rattle.prl_graph.specs.code.Marks.{AreLeastDues, HasClock, IsBinding, IsLabelOf}
pub use Rattle.prl_graph.specs.code.Marks.{IsLeastOfFirst, IsMarked, IsMisplaced, IsPlaced}
pub use Rattle.prl_graph.specs.code.Marks.{IsRanged, IsUnranged}
pub use Rattle.prl_graph.specs.code.Multiples.{HaveSmallPeriods}
pub use Rattle.prl_graph.specs.code.Steps.{AddsEdges, AreArgumentsOf, EndsAt, GivesValues}
pub use Rattle.prl_graph.specs.code.Steps.{HasProducer, StepsBack}
pub use Rattle.prl_graph.specs.declared.faults.GraphFault.{GraphFault}

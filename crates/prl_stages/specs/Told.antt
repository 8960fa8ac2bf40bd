-- How private functions tell the faults of the crates below; None is want of memory.
use Rattle.std.specs.Prelude.{Option, Some, None}
use Rattle.prl_syntax.specs.declared.parsing.ParseFault.{ParseFault}
use Rattle.prl_syntax.specs.declared.parsing.ParseFault.TheVariants as parsing
use Rattle.prl_types.specs.declared.faults.TypeFault.{TypeFault}
use Rattle.prl_types.specs.declared.faults.TypeFault.TheVariants as typing
use Rattle.prl_body.specs.declared.faults.BodyFault.{BodyFault}
use Rattle.prl_body.specs.declared.faults.BodyFault.TheVariants as body_faults
use Rattle.prl_expand.specs.declared.counts.ExpandFault.{ExpandFault}
use Rattle.prl_expand.specs.declared.counts.ExpandFault.TheVariants as expanding
use Rattle.prl_causal.specs.declared.causality.CausalFault.{CausalFault}
use Rattle.prl_causal.specs.declared.causality.CausalFault.TheVariants as causality
use Rattle.prl_clock.specs.declared.calculus.ClockFault.{ClockFault}
use Rattle.prl_clock.specs.declared.calculus.ClockFault.TheVariants as clocking
use Rattle.prl_graph.specs.declared.faults.GraphFault.{GraphFault}
use Rattle.prl_graph.specs.declared.faults.GraphFault.TheVariants as graphing
use Rattle.prl_words.specs.declared.graphs.WordFault.{WordFault}
use Rattle.prl_words.specs.declared.graphs.WordFault.TheVariants as wording
use Rattle.prl_buffers.specs.declared.tables.CellFault.{CellFault}
use Rattle.prl_buffers.specs.declared.tables.CellFault.TheVariants as celling
use Rattle.prl_evaluation.specs.declared.evaluation.FlowFault.{FlowFault}
use Rattle.prl_evaluation.specs.declared.evaluation.FlowFault.TheVariants as flows
use Rattle.prl_sensors.specs.declared.faults.SensorFault.{SensorFault}
use Rattle.prl_sensors.specs.declared.faults.SensorFault.TheVariants as sensors
use Rattle.prl_stages.specs.declared.faults.GrammarRefusal.TheVariants as bad_grammar
use Rattle.prl_stages.specs.declared.faults.ClocksRefusal.TheVariants as bad_clocks
use Rattle.prl_stages.specs.declared.faults.GraphRefusal.TheVariants as bad_graph
use Rattle.prl_stages.specs.declared.faults.BodiesRefusal.TheVariants as bad_bodies
use Rattle.prl_stages.specs.declared.faults.SensorsRefusal.TheVariants as bad_rows
use Rattle.prl_stages.specs.declared.faults.Fault.{Fault}
use Rattle.prl_stages.specs.declared.faults.Fault.TheVariants as faults
use Rattle.prl_stages.specs.declared.stages.Stage.{Stage}
use Rattle.prl_stages.specs.declared.stages.Stop.{Stop}
use Rattle.prl_stages.specs.declared.stages.Stop.TheVariants as stops

-- the stop that a fault of a stage is
abbrev pub stop_of : Stage → Option Fault → Stop
stop_of stage None = stops.Memory
stop_of stage (Some fault) = stops.Refused stage fault

abbrev pub told_parse : ParseFault → Option Fault
told_parse (parsing.BadToken at) = Some (faults.Grammar (bad_grammar.BadToken at))
told_parse (parsing.Unexpected at) = Some (faults.Grammar (bad_grammar.Unexpected at))
told_parse (parsing.NumberRange at) = Some (faults.Grammar (bad_grammar.NumberRange at))
told_parse (parsing.Limit limit) = Some (faults.Grammar (bad_grammar.Limit limit))
told_parse parsing.Memory = None

abbrev pub told_types : TypeFault → Option Fault
told_types typing.Memory = None
told_types fault = Some (faults.Types fault)

abbrev pub told_expand : ExpandFault → Option Fault
told_expand (expanding.Limit limit) = Some (faults.Limit limit)
told_expand expanding.Memory = None

abbrev pub told_causal : CausalFault → Option Fault
told_causal (causality.Cycle label) = Some (faults.Cycle label)
told_causal causality.Memory = None

abbrev pub told_clocks : ClockFault → Option Fault
told_clocks (clocking.Mismatch at) = Some (faults.Clocks (bad_clocks.Mismatch at))
told_clocks (clocking.Limit limit) = Some (faults.Clocks (bad_clocks.Limit limit))
told_clocks (clocking.Free label) = Some (faults.Clocks (bad_clocks.Free label))
told_clocks (clocking.NotWhole label period start) = Some (faults.Clocks (bad_clocks.NotWhole label period start))
told_clocks clocking.Memory = None

abbrev pub told_graph : GraphFault → Option Fault
told_graph (graphing.DueOnNonTask label) = Some (faults.Graph (bad_graph.DueOnNonTask label))
told_graph (graphing.DueRange flow due period) = Some (faults.Graph (bad_graph.DueRange flow due period))
told_graph (graphing.Limit limit) = Some (faults.Graph (bad_graph.Limit limit))
told_graph graphing.Memory = None

abbrev pub told_words : WordFault → Option Fault
told_words (wording.Limit limit) = Some (faults.Limit limit)
told_words wording.Memory = None

abbrev pub told_cells : CellFault → Option Fault
told_cells (celling.Limit limit) = Some (faults.Limit limit)
told_cells celling.Memory = None

abbrev pub told_body : BodyFault → Option Fault
told_body (body_faults.Syntax at) = Some (faults.Bodies (bad_bodies.Syntax at))
told_body (body_faults.Limit limit) = Some (faults.Bodies (bad_bodies.Limit limit))
told_body (body_faults.BodyName at) = Some (faults.Bodies (bad_bodies.BodyName at))
told_body (body_faults.BodyType at) = Some (faults.Bodies (bad_bodies.BodyType at))
told_body (body_faults.BodyArity at) = Some (faults.Bodies (bad_bodies.BodyArity at))
told_body (body_faults.Missing name) = Some (faults.Bodies (bad_bodies.Missing name))
told_body body_faults.Memory = None

abbrev pub told_sensors : SensorFault → Option Fault
told_sensors (sensors.Row number) = Some (faults.Sensors (bad_rows.Row number))
told_sensors (sensors.NoSensor number) = Some (faults.Sensors (bad_rows.NoSensor number))
told_sensors (sensors.Order number) = Some (faults.Sensors (bad_rows.Order number))
told_sensors (sensors.Value number) = Some (faults.Sensors (bad_rows.Value number))
told_sensors (sensors.Short name have need) = Some (faults.Sensors (bad_rows.Short name have need))
told_sensors sensors.Memory = None

abbrev pub told_flow : FlowFault → Option Fault
told_flow (flows.Limit limit) = Some (faults.Limit limit)
told_flow flows.Memory = None

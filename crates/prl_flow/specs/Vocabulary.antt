-- The words of this crate that clauses and proofs use, from one place.
pub use Rattle.prl_flow.specs.Actuators.{AreUpTo, actuator_rows, actuator_text, is_date}
pub use Rattle.prl_flow.specs.Actuators.{row_at, row_text}
pub use Rattle.prl_flow.specs.Applications.{HasBody, HaveBodies, HaveTypes, argument_numbers}
pub use Rattle.prl_flow.specs.Applications.{nth_step, registers_before, values_at}
pub use Rattle.prl_flow.specs.Counts.{dates_before, values_before}
pub use Rattle.prl_flow.specs.Flows.{IsClockOf, IsUpTo, OperatorByDate, delay, value_at}
pub use Rattle.prl_flow.specs.Flows.{value_of_operator}
pub use Rattle.prl_flow.specs.Instances.{AreFirst, HasInstance, IsDenominated}
pub use Rattle.prl_flow.specs.Instances.{instance_of_operator}
pub use Rattle.prl_flow.specs.Instances.{instance_values, value_from}
pub use Rattle.prl_flow.specs.Programs.{Device, FlatProgram, HasType, IsApplication, IsFactor}
pub use Rattle.prl_flow.specs.Programs.{IsFlat, IsInput, IsNoted, IsOutput, IsWellDefined, name_of}
pub use Rattle.prl_flow.specs.Rows.{Rows, rows_of}
pub use Rattle.prl_flow.specs.Rules.{Rule, app_rule, applied, apps_rules, constant}
pub use Rattle.prl_flow.specs.Rules.{definition_rules, flat_rules, flow_rules, flows_rules}
pub use Rattle.prl_flow.specs.Rules.{mark_rule, operator, rate_rules, rated, same, sensed}
pub use Rattle.prl_flow.specs.Solutions.{AgreesClock, AreClocks, HasOneClock, HasRate, HasRows}
pub use Rattle.prl_flow.specs.Solutions.{IsOutputFlow, MeetsDefinition, Solves, argument_flows}
pub use Rattle.prl_flow.specs.Solutions.{clock_of, values_of}
pub use Rattle.prl_flow.specs.Standings.{HasClock, IsFirstFree, alone, over_one, same_clock}
pub use Rattle.prl_flow.specs.Standings.{standing_at}
pub use Rattle.prl_flow.specs.States.{HaveClock, Holds, IsApplied, IsSolution, IsStep, IsTimed}
pub use Rattle.prl_flow.specs.States.{State, Timed, all_at, flow_at, registers_at}
pub use Rattle.prl_flow.specs.Uses.{HasNoCycle, IsArgument, IsCycleLabel, IsCyclic, IsOnCycle}
pub use Rattle.prl_flow.specs.Uses.{IsOrder, Leads, NamesInside, NamesNow, UsesInside, UsesNow}
pub use Rattle.prl_flow.specs.Uses.{is_made, named, once, then, unnamed}

-- The line on err that tells how a call ended.
use Rattle.std.specs.Prelude.{◌-◌, ℕ, ℤ, List, [], ◌∷◌, Option, Some, None, unwrap_or, codes}
use Rattle.std.specs.List.{concat}
use Rattle.std.specs.Fmt.{decimal, signed_decimal}
use Rattle.prl_base.specs.Limits.{what_text}
use Rattle.prl_base.specs.declared.limits.Limit.{Limit}
use Rattle.prl_base.specs.Ratios.{Fraction}
use Rattle.prl_base.specs.Texts.{fraction_text, type_text}
use Rattle.prl_base.specs.declared.values.Ty.{Ty}
use Rattle.prl_plan.specs.declared.events.Rule.{Rule}
use Rattle.prl_exec.specs.declared.runs.Stopped.{Stopped}
use Rattle.prl_plan.specs.Jobs.{task_at}
use Rattle.prl_plan.specs.Rules.{rule_text}
use Rattle.prl_endings.specs.declared.endings.Ending.{Ending}
use Rattle.prl_endings.specs.declared.endings.Ending.TheVariants as endings
use Rattle.prl_stages.specs.declared.faults.GrammarRefusal.{GrammarRefusal}
use Rattle.prl_stages.specs.declared.faults.GrammarRefusal.TheVariants as bad_grammar
use Rattle.prl_types.specs.declared.faults.TypeFault.{TypeFault}
use Rattle.prl_types.specs.declared.faults.TypeFault.TheVariants as bad_types
use Rattle.prl_stages.specs.declared.faults.ClocksRefusal.{ClocksRefusal}
use Rattle.prl_stages.specs.declared.faults.ClocksRefusal.TheVariants as bad_clocks
use Rattle.prl_stages.specs.declared.faults.GraphRefusal.{GraphRefusal}
use Rattle.prl_stages.specs.declared.faults.GraphRefusal.TheVariants as bad_graph
use Rattle.prl_stages.specs.declared.faults.DatesRefusal.{DatesRefusal}
use Rattle.prl_stages.specs.declared.faults.DatesRefusal.TheVariants as bad_dates
use Rattle.prl_stages.specs.declared.faults.BodiesRefusal.{BodiesRefusal}
use Rattle.prl_stages.specs.declared.faults.BodiesRefusal.TheVariants as bad_bodies
use Rattle.prl_stages.specs.declared.faults.SensorsRefusal.{SensorsRefusal}
use Rattle.prl_stages.specs.declared.faults.SensorsRefusal.TheVariants as bad_rows
use Rattle.prl_stages.specs.declared.faults.CoresRefusal.{CoresRefusal}
use Rattle.prl_stages.specs.declared.faults.CoresRefusal.TheVariants as bad_cores
use Rattle.prl_stages.specs.declared.faults.MakeRefusal.{MakeRefusal}
use Rattle.prl_stages.specs.declared.faults.MakeRefusal.TheVariants as bad_making
use Rattle.prl_stages.specs.declared.faults.TableRefusal.{TableRefusal}
use Rattle.prl_stages.specs.declared.faults.TableRefusal.TheVariants as bad_table
use Rattle.prl_stages.specs.declared.faults.ScheduleRefusal.{ScheduleRefusal}
use Rattle.prl_stages.specs.declared.faults.ScheduleRefusal.TheVariants as bad_schedule
use Rattle.prl_stages.specs.declared.faults.InputFile.{InputFile}
use Rattle.prl_stages.specs.declared.faults.Fault.{Fault}
use Rattle.prl_stages.specs.declared.faults.Fault.TheVariants as faults
use Rattle.prl_stages.specs.declared.stages.Stop.{Stop}
use Rattle.prl_stages.specs.declared.stages.Stop.TheVariants as stops
use Rattle.prl_arguments.specs.declared.arguments.Command.{Command}
use Rattle.prl_stages.specs.Given.{file_of}

-- the name that the command gives to a file
abbrev pub file_name : Option Command → InputFile → List ℕ
file_name None part = []
file_name (Some command) part = unwrap_or (file_of command part) []

-- lines by their pieces
abbrev pub named_line : List ℕ → List ℕ → List ℕ
named_line front name = concat (front ∷ name ∷ codes "\n" ∷ [])

abbrev pub placed_line : List ℕ → ℕ → List ℕ
placed_line front at = named_line front (decimal at)

abbrev pub limit_line : Limit → List ℕ
limit_line limit =
    concat (codes "4 limit " ∷ what_text limit.what ∷ codes " found " ∷ decimal limit.found ∷ codes "\n" ∷ [])

abbrev pub grammar_line : GrammarRefusal → List ℕ
grammar_line (bad_grammar.BadToken at) = placed_line (codes "1 bad token at ") at
grammar_line (bad_grammar.Unexpected at) = placed_line (codes "2 unexpected at ") at
grammar_line (bad_grammar.NumberRange at) = placed_line (codes "3 number range at ") at
grammar_line (bad_grammar.Limit limit) = limit_line limit

abbrev pub mismatch_line : ℕ → Ty → Ty → List ℕ
mismatch_line at wanted found =
    concat (codes "13 mismatch at " ∷ decimal at ∷ codes " wanted " ∷ type_text wanted ∷ codes " found " ∷ type_text found ∷ codes "\n" ∷ [])

abbrev pub type_free_line : List ℕ → List ℕ → List ℕ
type_free_line node name = concat (codes "17 type free " ∷ node ∷ codes "." ∷ name ∷ codes "\n" ∷ [])

abbrev pub types_line : TypeFault → List ℕ
types_line (bad_types.Twice name) = named_line (codes "11 twice ") name
types_line (bad_types.Unknown name) = named_line (codes "10 unknown ") name
types_line (bad_types.Undefined name) = named_line (codes "15 undefined ") name
types_line (bad_types.Recursive name) = named_line (codes "16 recursive ") name
types_line bad_types.NoMain = codes "14 no main\n"
types_line (bad_types.Arity at) = placed_line (codes "12 arity at ") at
types_line (bad_types.Mismatch at wanted found) = mismatch_line at wanted found
types_line (bad_types.TypeFree node name) = type_free_line node name
types_line bad_types.Memory = codes "\n"

abbrev pub not_whole_line : List ℕ → Fraction → Fraction → List ℕ
not_whole_line label period start =
    concat (codes "42 not whole " ∷ label ∷ codes " period " ∷ fraction_text period ∷ codes " start " ∷ fraction_text start ∷ codes "\n" ∷ [])

abbrev pub clocks_line : ClocksRefusal → List ℕ
clocks_line (bad_clocks.Mismatch at) = placed_line (codes "40 clock mismatch at ") at
clocks_line (bad_clocks.Limit limit) = limit_line limit
clocks_line (bad_clocks.Free label) = named_line (codes "41 clock free ") label
clocks_line (bad_clocks.NotWhole label period start) = not_whole_line label period start

abbrev pub due_range_line : List ℕ → ℕ → ℕ → List ℕ
due_range_line label due period =
    concat (codes "51 due range " ∷ label ∷ codes " due " ∷ decimal due ∷ codes " period " ∷ decimal period ∷ codes "\n" ∷ [])

abbrev pub graph_line : GraphRefusal → List ℕ
graph_line (bad_graph.DueOnNonTask label) = named_line (codes "50 due on non-task ") label
graph_line (bad_graph.DueRange flow due period) = due_range_line flow due period
graph_line (bad_graph.Limit limit) = limit_line limit

abbrev pub narrow_line : List ℕ → ℤ → ℤ → ℤ → List ℕ
narrow_line name job needs has =
    concat (
    codes "60 narrow " ∷ name ∷ codes " " ∷ signed_decimal job ∷ codes " needs " ∷ signed_decimal needs ∷ codes " has "
    ∷ signed_decimal has ∷ codes "\n" ∷ []
    )

abbrev pub loop_line : List ℕ → ℤ → List ℕ
loop_line name job = concat (codes "61 loop " ∷ name ∷ codes " " ∷ signed_decimal job ∷ codes "\n" ∷ [])

abbrev pub dates_line : DatesRefusal → List ℕ
dates_line (bad_dates.Narrow name job needs has) = narrow_line name job needs has
dates_line (bad_dates.Loop name job) = loop_line name job

abbrev pub bodies_line : BodiesRefusal → List ℕ
bodies_line (bad_bodies.Syntax at) = placed_line (codes "23 body syntax at ") at
bodies_line (bad_bodies.Limit limit) = limit_line limit
bodies_line (bad_bodies.BodyName at) = placed_line (codes "24 body name at ") at
bodies_line (bad_bodies.BodyType at) = placed_line (codes "22 body type at ") at
bodies_line (bad_bodies.BodyArity at) = placed_line (codes "21 body arity at ") at
bodies_line (bad_bodies.Missing name) = named_line (codes "20 body missing ") name

abbrev pub short_line : List ℕ → ℕ → ℕ → List ℕ
short_line name have need =
    concat (codes "84 short " ∷ name ∷ codes " " ∷ decimal have ∷ codes " " ∷ decimal need ∷ codes "\n" ∷ [])

abbrev pub sensors_line : SensorsRefusal → List ℕ
sensors_line (bad_rows.Row number) = placed_line (codes "80 row ") number
sensors_line (bad_rows.NoSensor number) = placed_line (codes "81 no sensor ") number
sensors_line (bad_rows.Order number) = placed_line (codes "82 order ") number
sensors_line (bad_rows.Value number) = placed_line (codes "83 value ") number
sensors_line (bad_rows.Short name have need) = short_line name have need

abbrev pub illegal_line : ℕ → Rule → List ℕ
illegal_line line rule = concat (codes "71 illegal line " ∷ decimal line ∷ codes " rule " ∷ rule_text rule ∷ codes "\n" ∷ [])

abbrev pub unfinished_line : List ℕ → ℕ → List ℕ
unfinished_line name job = concat (codes "72 unfinished " ∷ name ∷ codes " " ∷ decimal job ∷ codes "\n" ∷ [])

abbrev pub schedule_line : ScheduleRefusal → List ℕ
schedule_line (bad_schedule.Syntax line) = placed_line (codes "70 schedule syntax line ") line
schedule_line (bad_schedule.Illegal line rule) = illegal_line line rule
schedule_line (bad_schedule.Unfinished name job) = unfinished_line name job

abbrev pub overload_line : ℕ → ℕ → ℕ → List ℕ
overload_line from to demand =
    concat (
    codes "90 overload " ∷ decimal from ∷ codes " " ∷ decimal to ∷ codes " demand " ∷ decimal demand ∷ codes " has " ∷ decimal (to - from)
    ∷ codes "\n" ∷ []
    )

abbrev pub make_line : MakeRefusal → List ℕ
make_line (bad_making.TooFar tick) = placed_line (codes "92 too far ") tick
make_line (bad_making.Limit limit) = limit_line limit
make_line (bad_making.Overload from to demand) = overload_line from to demand
make_line (bad_making.Unsteady tick) = placed_line (codes "91 unsteady at ") tick

abbrev pub units_line : List ℕ → ℕ → List ℕ
units_line name job = concat (codes "95 units " ∷ name ∷ codes " " ∷ decimal job ∷ codes "\n" ∷ [])

abbrev pub clash_line : ℕ → ℕ → List ℕ
clash_line first second = concat (codes "96 clash " ∷ decimal first ∷ codes " " ∷ decimal second ∷ codes "\n" ∷ [])

abbrev pub order_line : ℕ → ℕ → List ℕ
order_line edge job = concat (codes "97 order edge " ∷ decimal edge ∷ codes " job " ∷ decimal job ∷ codes "\n" ∷ [])

abbrev pub table_line : TableRefusal → List ℕ
table_line (bad_table.Syntax line) = placed_line (codes "93 table syntax line ") line
table_line (bad_table.Piece line) = placed_line (codes "94 piece ") line
table_line (bad_table.Units name job) = units_line name job
table_line (bad_table.Clash first second) = clash_line first second
table_line (bad_table.Order edge job) = order_line edge.0 job

abbrev pub cores_line : CoresRefusal → List ℕ
cores_line (bad_cores.Syntax line) = placed_line (codes "98 core syntax line ") line
cores_line (bad_cores.Missing name) = named_line (codes "99 core missing ") name

abbrev pub line_of_fault : Option Command → Fault → List ℕ
line_of_fault command (faults.Absent part) = named_line (codes "absent ") (file_name command part)
line_of_fault command (faults.TooLong part) = named_line (codes "too long ") (file_name command part)
line_of_fault command (faults.Grammar refusal) = grammar_line refusal
line_of_fault command (faults.Types refusal) = types_line refusal
line_of_fault command (faults.Cycle label) = named_line (codes "30 cycle ") label
line_of_fault command (faults.Clocks refusal) = clocks_line refusal
line_of_fault command (faults.Graph refusal) = graph_line refusal
line_of_fault command (faults.Dates refusal) = dates_line refusal
line_of_fault command (faults.Bodies refusal) = bodies_line refusal
line_of_fault command (faults.Sensors refusal) = sensors_line refusal
line_of_fault command (faults.Limit limit) = limit_line limit
line_of_fault command (faults.Schedule refusal) = schedule_line refusal
line_of_fault command (faults.Made refusal) = make_line refusal
line_of_fault command (faults.Table refusal) = table_line refusal
line_of_fault command (faults.Cores refusal) = cores_line refusal

-- the line that tells why there is no text
abbrev pub line_of_stop : Option Command → Stop → List ℕ
line_of_stop command (stops.Unread part) = named_line (codes "read fault ") (file_name command part)
line_of_stop command (stops.Refused stage fault) = line_of_fault command fault
line_of_stop command stops.Memory = codes "memory\n"

-- the line of a read that was overrun, by the name of its task
abbrev pub overrun_line : List ℕ → Stopped → List ℕ
overrun_line name stopped =
    concat (
    codes "overrun " ∷ name ∷ codes " " ∷ decimal stopped.job ∷ codes " port " ∷ decimal stopped.port ∷ codes " cell " ∷ decimal stopped.cell.0
    ∷ codes " wanted " ∷ decimal stopped.wanted ∷ codes " found " ∷ decimal stopped.found ∷ codes "\n" ∷ []
    )

-- the line that is written to err, if there is one
abbrev pub line_of : Option Command → Ending → Option (List ℕ)
line_of command (endings.Done ran) = None
line_of command endings.Words = Some (codes "usage: prelude MODE --OPTION VALUE ..\n")
line_of command (endings.Unwritten ran) = Some (codes "write fault\n")
line_of command (endings.Overrun plan stopped) = Some (overrun_line (task_at plan.graph stopped.task.0).name stopped)
line_of command (endings.Stopped stop) = Some (line_of_stop command stop)

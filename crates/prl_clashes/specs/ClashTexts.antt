-- How two ways to a flow are written, with the clocks that they give it.
use Rattle.std.specs.Prelude.{◌++◌, ◌==◌, ℕ, Bool, true, false, List, [], ◌∷◌, Option, Some, None, codes, decimal, slice_get, if◌then◌else◌}
use Rattle.prl_base.specs.Ratios.{Fraction}
use Rattle.prl_base.specs.Texts.{fraction_text}
use Rattle.prl_base.specs.declared.operators.Op.{Op}
use Rattle.prl_base.specs.declared.operators.Op.TheVariants as operators
use Rattle.prl_ast.specs.declared.declarations.Rate.{Rate}
use Rattle.prl_flow.specs.declared.standings.Timing.{Timing}
use Rattle.prl_flow.specs.declared.programs.Def.{Def}
use Rattle.prl_flow.specs.declared.programs.Def.TheVariants as definitions
use Rattle.prl_flow.specs.declared.programs.Flow.{Flow}
use Rattle.prl_flow.specs.Programs.{FlatProgram}
use Rattle.prl_clashes.specs.declared.clashes.Clash.{Clash}
use Rattle.prl_clashes.specs.declared.ways.Hop.{Hop}
use Rattle.prl_clashes.specs.declared.ways.Way.{Way}

abbrev pub label_of : Option Flow → List ℕ
label_of None = []
label_of (Some flow) = flow.label

-- the label of a flow
abbrev pub flow_label : FlatProgram → ℕ → List ℕ
flow_label p i = label_of (slice_get p.flows i)

-- the flow has no name in the program
abbrev pub is_unnamed : List ℕ → Bool
is_unnamed [] = true
is_unnamed (b ∷ bs) = b == 36

-- words and a word between accents
unfoldable pub quoted : List ℕ → List ℕ → List ℕ
quoted front word = front ++ word ++ codes "`"

-- an operator as it is written
unfoldable pub factor_text : List ℕ → ℕ → List ℕ
factor_text front factor = front ++ decimal factor

unfoldable pub shift_text : Fraction → List ℕ
shift_text by = codes "~> " ++ fraction_text by

abbrev pub operator_text : Op → List ℕ
operator_text (operators.Fby c) = codes "fby"
operator_text (operators.Cons c) = codes "::"
operator_text operators.Tail = codes "tail"
operator_text (operators.Up k) = factor_text (codes "*^ ") k
operator_text (operators.Down k) = factor_text (codes "/^ ") k
operator_text (operators.Shift q) = shift_text q

-- the operator that a flow is made by, where there is one
abbrev pub operator_of_definition : Def → Option Op
operator_of_definition (definitions.Sensor k) = None
operator_of_definition (definitions.Copy of) = None
operator_of_definition (definitions.Const v) = None
operator_of_definition (definitions.Apply app out) = None
operator_of_definition (definitions.Op op of) = Some op

abbrev pub operator_of_flow : Option Flow → Option Op
operator_of_flow None = None
operator_of_flow (Some flow) = operator_of_definition flow.def

abbrev pub operator_in : FlatProgram → ℕ → Option Op
operator_in p i = operator_of_flow (slice_get p.flows i)

-- what stands before an operator that is followed, or followed back
abbrev pub lead_of : Bool → List ℕ
lead_of false = codes ", `"
lead_of true = codes ", back over `"

unfoldable pub passed_text : Bool → Op → List ℕ
passed_text back op = lead_of back ++ operator_text op ++ codes "`"

-- the operator that is passed, where there is one
abbrev pub passing_text : Bool → Option Op → List ℕ
passing_text back None = []
passing_text back (Some op) = passed_text back op

-- the name that is passed, where there is one
abbrev pub name_text : List ℕ → List ℕ
name_text label = if is_unnamed label then [] else quoted (codes ", `") label

-- the flow of whose definition a step is
abbrev pub user_of : ℕ → Hop → ℕ
user_of from hop = if hop.back then from else hop.flow

-- a flow after another one
unfoldable pub hop_text : FlatProgram → ℕ → Hop → List ℕ
hop_text p from hop = passing_text hop.back (operator_in p (user_of from hop)) ++ name_text (flow_label p hop.flow)

-- flows one after another
abbrev pub hops_text : FlatProgram → ℕ → List Hop → List ℕ
hops_text p from [] = []
hops_text p from (hop ∷ hops) = hop_text p from hop ++ hops_text p hop.flow hops

-- a declared rate
unfoldable pub rate_text : Rate → List ℕ
rate_text rate = codes " of rate (" ++ decimal rate.period ++ codes ", " ++ fraction_text rate.phase ++ codes ")"

abbrev pub rate_told : Option Rate → List ℕ
rate_told None = []
rate_told (Some rate) = rate_text rate

abbrev pub rate_of_flow : Option Flow → Option Rate
rate_of_flow None = None
rate_of_flow (Some flow) = flow.rate

abbrev pub rate_in : FlatProgram → ℕ → Option Rate
rate_in p i = rate_of_flow (slice_get p.flows i)

-- a clock
unfoldable pub period_text : Timing → List ℕ
period_text clock = codes "period " ++ fraction_text clock.period

unfoldable pub start_text : Timing → List ℕ
start_text clock = codes " and start " ++ fraction_text clock.start

unfoldable pub clock_text : Timing → List ℕ
clock_text clock = period_text clock ++ start_text clock

-- from where a way goes
unfoldable pub from_text : FlatProgram → ℕ → List ℕ
from_text p first = quoted (codes ", from `") (flow_label p first) ++ rate_told (rate_in p first)

-- where a way goes
unfoldable pub route_text : FlatProgram → Way → List ℕ
route_text p way = from_text p way.first ++ hops_text p way.first way.rest

-- the clock that a way gives, and the way
unfoldable pub way_text : FlatProgram → Way → List ℕ
way_text p way = clock_text way.clock ++ route_text p way

unfoldable pub ended_text : FlatProgram → Way → List ℕ
ended_text p way = way_text p way ++ codes ".\n"

-- words before it
unfoldable pub led_text : List ℕ → FlatProgram → Way → List ℕ
led_text front p way = front ++ ended_text p way

-- both
abbrev pub clash_text : FlatProgram → Clash → List ℕ
clash_text p clash = led_text (codes "One clock there: ") p clash.one ++ led_text (codes "The other one: ") p clash.other

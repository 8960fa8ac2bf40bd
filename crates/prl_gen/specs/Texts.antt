-- The texts of generated programs: a chain of lanes, each with a sensor, an imported node and an
-- actuator. The program is given line by line, in its printed form.
use Rattle.std.specs.Prelude.{ℕ, ℤ, ◌==◌, ◌-◌, ◌/◌, ◌++◌, List, [], length, codes, decimal, nat_lt}
use Rattle.std.specs.Prelude.{slice_index, if◌then◌else◌}
use Rattle.std.specs.Fmt.{signed_decimal}
use Rattle.prl_gen.specs.Draws.{state_after}
use Rattle.prl_gen.specs.Lanes.{factors_from, instances, periods_from, state_of_lane, value_at}
use Rattle.prl_gen.specs.Numbered.{each}

-- the program of lanes with these periods

-- a lane's number between two texts
abbrev pub numbered : List ℕ → List ℕ → ℕ → List ℕ
numbered before after lane = before ++ decimal lane ++ after

-- a line for each lane
abbrev pub numbered_lines : List ℕ → List ℕ → ℕ → List ℕ
numbered_lines before after size = each (numbered before after) size

abbrev pub import_lines : ℕ → List ℕ
import_lines size =
    numbered_lines (codes "imported node f") (codes "(x: int; y: int) returns (z: int) wcet 1;\n") size

abbrev pub sensor_lines : ℕ → List ℕ
sensor_lines size = numbered_lines (codes "sensor s") (codes " wcet 1;\n") size

abbrev pub actuator_lines : ℕ → List ℕ
actuator_lines size = numbered_lines (codes "actuator a") (codes " wcet 1;\n") size

-- what stands before a parameter, by how many are before it
abbrev pub semicolon_before : ℕ → List ℕ
semicolon_before lane = if lane == 0 then [] else codes "; "

-- `s0: rate (40, 0)`
abbrev pub input : ℕ → ℕ → List ℕ
input lane period = codes "s" ++ decimal lane ++ codes ": rate (" ++ decimal period ++ codes ", 0)"

abbrev pub inputs : List ℕ → List ℕ
inputs periods =
    each (λ lane. semicolon_before lane ++ input lane (slice_index periods lane)) (length periods)

abbrev pub outputs : ℕ → List ℕ
outputs size = each (λ lane. semicolon_before lane ++ codes "a" ++ decimal lane) size

-- the output of a lane, an instance late
abbrev pub delayed : ℕ → List ℕ
delayed lane = codes "0 fby a" ++ decimal lane

-- the output of a lane of the period `from` as a lane of the period `to` reads it: each instance more
-- than once from a slower lane, and only some from a faster one
abbrev pub converted : ℕ → ℕ → ℕ → List ℕ
converted lane from to =
    if from == to then delayed lane
    else if nat_lt to from then codes "(" ++ delayed lane ++ codes ") *^ " ++ decimal (from / to)
    else codes "(" ++ delayed lane ++ codes ") /^ " ++ decimal (to / from)

-- what a lane reads beside its sensor: lane 0 its own output, each other lane that of the lane before
abbrev pub feed : List ℕ → ℕ → List ℕ
feed periods lane =
    if lane == 0 then delayed 0
    else converted (lane - 1) (slice_index periods (lane - 1)) (slice_index periods lane)

-- `  a0 = f0(s0, 0 fby a0);`
abbrev pub equation : List ℕ → ℕ → List ℕ
equation periods lane =
    numbered (codes "  a") (codes " = ") lane ++ numbered (codes "f") (codes "(") lane
    ++ numbered (codes "s") (codes ", ") lane ++ feed periods lane ++ codes ");\n"

abbrev pub equations : List ℕ → List ℕ
equations periods = each (equation periods) (length periods)

abbrev pub declarations : ℕ → List ℕ
declarations size = import_lines size ++ sensor_lines size ++ actuator_lines size

abbrev pub node_head : List ℕ → List ℕ
node_head periods =
    codes "node main(" ++ inputs periods ++ codes ") returns (" ++ outputs (length periods)
    ++ codes ")\nlet\n"

abbrev pub node : List ℕ → List ℕ
node periods = node_head periods ++ equations periods ++ codes "tel\n"

abbrev pub program : List ℕ → List ℕ
program periods = declarations (length periods) ++ node periods

-- the bodies of lanes with these factors

-- `body f0 { z = x + y * 2; }`
abbrev pub body : ℕ → ℕ → List ℕ
body lane factor =
    codes "body f" ++ decimal lane ++ codes " { z = x + y * " ++ decimal factor ++ codes "; }\n"

abbrev pub bodies : List ℕ → List ℕ
bodies factors = each (λ lane. body lane (slice_index factors lane)) (length factors)

-- the sensor rows of lanes with these periods, whose values are drawn from a state on

-- `s0,3,-512`
abbrev pub row : ℕ → ℕ → ℤ → List ℕ
row lane instance value =
    codes "s" ++ decimal lane ++ codes "," ++ decimal instance ++ codes "," ++ signed_decimal value ++ codes "\n"

abbrev pub rows_of_lane : ℕ → ℕ → ℕ → List ℕ
rows_of_lane lane period state =
    each (λ instance. row lane instance (value_at (state_after state instance))) (instances period)

abbrev pub sensors : List ℕ → ℕ → List ℕ
sensors periods state =
    each (λ lane. rows_of_lane lane (slice_index periods lane) (state_of_lane periods state lane))
    (length periods)

-- the three texts of a seed and a number of lanes: first the periods are drawn, then the factors, and
-- then the values

abbrev pub generated_program : ℕ → ℕ → List ℕ
generated_program seed size = program (periods_from seed size)

abbrev pub generated_bodies : ℕ → ℕ → List ℕ
generated_bodies seed size = bodies (factors_from (state_after seed size) size)

abbrev pub generated_sensors : ℕ → ℕ → List ℕ
generated_sensors seed size =
    sensors (periods_from seed size) (state_after (state_after seed size) size)

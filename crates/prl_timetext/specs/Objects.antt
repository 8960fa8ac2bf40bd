-- Rows as JSON: the tokens of an array with an object for each row.
use Rattle.std.specs.Prelude.{◌++◌, ℕ, List, [], ◌∷◌, Option, Some, None, codes, decimal}
use Rattle.std.specs.List.{flat_map}
use Rattle.json.specs.Print.{print}
use Rattle.json.specs.Token.{Token, begin_array, begin_object, end_array, end_object, key, null, number, string}
use Rattle.prl_ages.specs.declared.skews.Skew.{Skew}
use Rattle.prl_ages.specs.declared.skews.SkewVerdict.{SkewVerdict}
use Rattle.prl_ages.specs.declared.skews.SkewVerdict.TheVariants as skews
use Rattle.prl_ages.specs.declared.verdicts.AgeBounds.{AgeBounds}
use Rattle.prl_ages.specs.declared.verdicts.Verdict.{Verdict}
use Rattle.prl_ages.specs.declared.verdicts.Verdict.TheVariants as verdicts
use Rattle.prl_plan.specs.declared.graphs.TaskGraph.{TaskGraph}
use Rattle.prl_timetext.specs.Names.{name_at}
use Rattle.prl_responses.specs.declared.responses.Times.{Times}
use Rattle.prl_steady.specs.declared.shares.Share.{Share}
use Rattle.prl_timetext.specs.declared.rows.Lasting.{Lasting}
use Rattle.prl_timetext.specs.declared.rows.Lasting.TheVariants as lasting
use Rattle.prl_timetext.specs.declared.rows.Row.{Row}
use Rattle.prl_timetext.specs.declared.rows.Row.TheVariants as rows

-- a member with a number, one with a text, and one with nothing
abbrev pub count : List ℕ → ℕ → List Token
count name n = key name ∷ number (decimal n) ∷ []

abbrev pub word : List ℕ → List ℕ → List Token
word name text = key name ∷ string text ∷ []

abbrev pub nothing : List ℕ → List Token
nothing name = key name ∷ null ∷ []

abbrev pub used_tokens : AgeBounds → List Token
used_tokens ages = count (codes "age") ages.used.ticks ++ count (codes "job") ages.used.job ++ count (codes "instance") ages.used.instance

abbrev pub reaction_tokens : AgeBounds → List Token
reaction_tokens ages =
    count (codes "reaction") ages.replaced.ticks ++ count (codes "reaction_job") ages.replaced.job ++ count (codes "reaction_instance") ages.replaced.instance

abbrev pub others_tokens : AgeBounds → List Token
others_tokens ages = count (codes "settled") ages.settled ++ count (codes "best") ages.best

abbrev pub known_tokens : AgeBounds → List Token
known_tokens ages = used_tokens ages ++ reaction_tokens ages ++ others_tokens ages

abbrev pub verdict_tokens : Verdict → List Token
verdict_tokens verdicts.Never = nothing (codes "age")
verdict_tokens (verdicts.Late job) = count (codes "late") job
verdict_tokens (verdicts.Known ages) = known_tokens ages

abbrev pub load_tokens : ℕ → ℕ → List Token
load_tokens load hyper = word (codes "row") (codes "load") ++ count (codes "load") load ++ count (codes "has") hyper

-- what a row is, and a name
abbrev pub pair_tokens : List ℕ → List ℕ → List ℕ → List Token
pair_tokens row name text = word (codes "row") row ++ word name text

abbrev pub ages_tokens : List ℕ → List ℕ → List ℕ → Verdict → List Token
ages_tokens row sensor actuator verdict =
    pair_tokens row (codes "sensor") sensor ++ word (codes "actuator") actuator ++ verdict_tokens verdict

abbrev pub instances_tokens : Skew → List Token
instances_tokens skew = count (codes "first_instance") skew.first ++ count (codes "second_instance") skew.second

abbrev pub greatest_tokens : Skew → List Token
greatest_tokens skew = count (codes "skew") skew.ticks ++ count (codes "job") skew.job ++ instances_tokens skew

abbrev pub skew_tokens : SkewVerdict → List Token
skew_tokens skews.Apart = nothing (codes "skew")
skew_tokens (skews.TooMany jobs) = count (codes "too_many_jobs") jobs
skew_tokens (skews.Greatest skew) = greatest_tokens skew

abbrev pub sensors_tokens : List ℕ → List ℕ → List Token
sensors_tokens first second = pair_tokens (codes "skew") (codes "first") first ++ word (codes "second") second

abbrev pub apart_tokens : List ℕ → List ℕ → List ℕ → SkewVerdict → List Token
apart_tokens first second actuator verdict = sensors_tokens first second ++ word (codes "actuator") actuator ++ skew_tokens verdict

abbrev pub response_tokens : Times → List Token
response_tokens times = count (codes "response") times.response ++ count (codes "response_job") times.slowest

abbrev pub ends_tokens : Times → List Token
ends_tokens times = response_tokens times ++ count (codes "slack") times.slack ++ count (codes "slack_job") times.tightest

abbrev pub times_tokens : Option Times → List Token
times_tokens None = nothing (codes "response")
times_tokens (Some times) = ends_tokens times

abbrev pub task_tokens : List ℕ → Option Times → List Token
task_tokens task times = word (codes "row") (codes "task") ++ word (codes "task") task ++ times_tokens times

abbrev pub interval_tokens : ℕ → ℕ → List Token
interval_tokens from to = word (codes "row") (codes "overload") ++ count (codes "from") from ++ count (codes "to") to

abbrev pub overload_tokens : ℕ → ℕ → ℕ → List Token
overload_tokens from to demand = interval_tokens from to ++ count (codes "demand") demand

abbrev pub share_tokens : List ℕ → Share → List Token
share_tokens task share = word (codes "task") task ++ count (codes "jobs") share.jobs ++ count (codes "units") share.units

abbrev pub heavy_tokens : ℕ → ℕ → List Token
heavy_tokens load hyper = word (codes "row") (codes "heavy") ++ count (codes "load") load ++ count (codes "has") hyper

abbrev pub within_tokens : ℕ → ℕ → List Token
within_tokens from to = word (codes "row") (codes "within") ++ count (codes "from") from ++ count (codes "to") to

abbrev pub share_within_tokens : ℕ → ℕ → List ℕ → Share → List Token
share_within_tokens from to task share = within_tokens from to ++ share_tokens task share

-- the members of a row of what is told for ever
abbrev pub lasting_fields : TaskGraph → Lasting → List Token
lasting_fields graph lasting.Served = word (codes "row") (codes "serves")
lasting_fields graph (lasting.Heavy load hyper) = heavy_tokens load hyper
lasting_fields graph (lasting.Hyper task share) = word (codes "row") (codes "hyperperiod") ++ share_tokens (name_at graph task) share
lasting_fields graph (lasting.Overload from to demand) = overload_tokens from to demand
lasting_fields graph (lasting.Within from to task share) = share_within_tokens from to (name_at graph task) share
lasting_fields graph (lasting.Task task times) = task_tokens (name_at graph task) times

-- the members of a row
abbrev pub fields : TaskGraph → Row → List Token
fields graph (rows.Load load hyper) = load_tokens load hyper
fields graph (rows.Age sensor actuator verdict) = ages_tokens (codes "age") (name_at graph sensor) (name_at graph actuator) verdict
fields graph (rows.Chain first last verdict) = ages_tokens (codes "chain") (name_at graph first) (name_at graph last) verdict
fields graph (rows.Skew first second actuator verdict) = apart_tokens (name_at graph first) (name_at graph second) (name_at graph actuator) verdict
fields graph (rows.Task task times) = task_tokens (name_at graph task) times
fields graph (rows.Overload from to demand) = overload_tokens from to demand
fields graph (rows.ForEver row) = lasting_fields graph row

abbrev pub row_tokens : TaskGraph → Row → List Token
row_tokens graph row = begin_object ∷ (fields graph row ++ end_object ∷ [])

abbrev pub rows_tokens : TaskGraph → List Row → List Token
rows_tokens graph list = flat_map (row_tokens graph) list

abbrev pub json_tokens : TaskGraph → List Row → List Token
json_tokens graph list = begin_array ∷ (rows_tokens graph list ++ end_array ∷ [])

-- their text, on one line
abbrev pub json_text : TaskGraph → List Row → List ℕ
json_text graph list = print (json_tokens graph list) ++ codes "\n"

-- Rows as lines.
use Rattle.std.specs.Prelude.{◌-◌, ◌++◌, ℕ, List, [], ◌∷◌, Option, Some, None, codes}
use Rattle.std.specs.List.{concat, flat_map}
use Rattle.std.specs.Fmt.{decimal}
use Rattle.prl_ages.specs.declared.ages.Age.{Age}
use Rattle.prl_ages.specs.declared.skews.Skew.{Skew}
use Rattle.prl_ages.specs.declared.skews.SkewVerdict.{SkewVerdict}
use Rattle.prl_ages.specs.declared.skews.SkewVerdict.TheVariants as skews
use Rattle.prl_ages.specs.declared.verdicts.AgeBounds.{AgeBounds}
use Rattle.prl_ages.specs.declared.verdicts.Verdict.{Verdict}
use Rattle.prl_ages.specs.declared.verdicts.Verdict.TheVariants as verdicts
use Rattle.prl_base.specs.declared.numbers.TaskNo.{TaskNo}
use Rattle.prl_plan.specs.declared.graphs.TaskGraph.{TaskGraph}
use Rattle.prl_timetext.specs.Names.{name_at, names_joined}
use Rattle.prl_responses.specs.declared.responses.Times.{Times}
use Rattle.prl_steady.specs.declared.shares.Share.{Share}
use Rattle.prl_timetext.specs.declared.rows.Lasting.{Lasting}
use Rattle.prl_timetext.specs.declared.rows.Lasting.TheVariants as lasting
use Rattle.prl_timetext.specs.declared.rows.Row.{Row}
use Rattle.prl_timetext.specs.declared.rows.Row.TheVariants as rows

-- an age, and where it stands
abbrev pub age_words : Age → List ℕ
age_words age = concat (codes " " ∷ decimal age.ticks ∷ codes " job " ∷ decimal age.job ∷ codes " instance " ∷ decimal age.instance ∷ [])

abbrev pub known_words : AgeBounds → List ℕ
known_words ages =
    age_words ages.used ++ codes " reaction" ++ age_words ages.replaced ++ codes " settled " ++ decimal ages.settled ++ codes " best " ++ decimal ages.best

abbrev pub verdict_words : Verdict → List ℕ
verdict_words verdicts.Never = codes " none"
verdict_words (verdicts.Late job) = codes " late " ++ decimal job
verdict_words (verdicts.Known ages) = known_words ages

abbrev pub head_words : Skew → List ℕ
head_words skew = concat (codes " " ∷ decimal skew.ticks ∷ codes " job " ∷ decimal skew.job ∷ [])

abbrev pub instances_words : Skew → List ℕ
instances_words skew = concat (codes " instances " ∷ decimal skew.first ∷ codes " " ∷ decimal skew.second ∷ [])

abbrev pub greatest_words : Skew → List ℕ
greatest_words skew = head_words skew ++ instances_words skew

abbrev pub many_words : ℕ → List ℕ
many_words jobs = codes " too many jobs " ++ decimal jobs

abbrev pub skew_words : SkewVerdict → List ℕ
skew_words skews.Apart = codes " none"
skew_words (skews.TooMany jobs) = many_words jobs
skew_words (skews.Greatest skew) = greatest_words skew

abbrev pub known_times : Times → List ℕ
known_times times =
    concat (
    codes " response " ∷ decimal times.response ∷ codes " job " ∷ decimal times.slowest ∷ codes " slack " ∷ decimal times.slack ∷ codes " job " ∷ decimal times.tightest ∷ []
    )

abbrev pub times_words : Option Times → List ℕ
times_words None = codes " none"
times_words (Some times) = known_times times

abbrev pub overload_words : ℕ → ℕ → ℕ → List ℕ
overload_words from to demand =
    concat (codes "overload " ∷ decimal from ∷ codes " " ∷ decimal to ∷ codes " demand " ∷ decimal demand ∷ codes " has " ∷ decimal (to - from) ∷ [])

abbrev pub load_words : ℕ → ℕ → List ℕ
load_words load hyper = codes "load " ++ decimal load ++ codes " has " ++ decimal hyper

-- the names of two tasks, each after a space
abbrev pub pair_words : TaskGraph → TaskNo → TaskNo → List ℕ
pair_words graph first second = concat (codes " " ∷ name_at graph first ∷ codes " " ∷ name_at graph second ∷ [])

abbrev pub ages_words : TaskGraph → TaskNo → TaskNo → Verdict → List ℕ
ages_words graph sensor actuator verdict = codes "age" ++ pair_words graph sensor actuator ++ verdict_words verdict

abbrev pub chain_words : TaskGraph → List TaskNo → Verdict → List ℕ
chain_words graph chain verdict = codes "chain " ++ names_joined graph chain ++ verdict_words verdict

abbrev pub apart_words : TaskGraph → TaskNo → TaskNo → TaskNo → SkewVerdict → List ℕ
apart_words graph first second actuator verdict =
    codes "skew" ++ pair_words graph first second ++ codes " " ++ name_at graph actuator ++ skew_words verdict

abbrev pub task_words : TaskGraph → TaskNo → Option Times → List ℕ
task_words graph task times = codes "task" ++ codes " " ++ name_at graph task ++ times_words times

-- some jobs of a task, and what they cost
abbrev pub share_words : TaskGraph → TaskNo → Share → List ℕ
share_words graph task share =
    concat (codes "task" ∷ codes " " ∷ name_at graph task ∷ codes " jobs " ∷ decimal share.jobs ∷ codes " units " ∷ decimal share.units ∷ [])

abbrev pub heavy_words : ℕ → ℕ → List ℕ
heavy_words load hyper = codes "heavy load " ++ decimal load ++ codes " has " ++ decimal hyper

abbrev pub within_words : ℕ → ℕ → List ℕ
within_words from to = concat (codes "within " ∷ decimal from ∷ codes " " ∷ decimal to ∷ codes " " ∷ [])

-- a row of what is told for ever
abbrev pub lasting_words : TaskGraph → Lasting → List ℕ
lasting_words graph lasting.Served = codes "serves for ever"
lasting_words graph (lasting.Heavy load hyper) = heavy_words load hyper
lasting_words graph (lasting.Hyper task share) = codes "hyperperiod " ++ share_words graph task share
lasting_words graph (lasting.Overload from to demand) = overload_words from to demand
lasting_words graph (lasting.Within from to task share) = within_words from to ++ share_words graph task share
lasting_words graph (lasting.Task task times) = task_words graph task times

-- a row of a call with this chain
abbrev pub row_words : TaskGraph → List TaskNo → Row → List ℕ
row_words graph chain (rows.Load load hyper) = load_words load hyper
row_words graph chain (rows.Age sensor actuator verdict) = ages_words graph sensor actuator verdict
row_words graph chain (rows.Chain first last verdict) = chain_words graph chain verdict
row_words graph chain (rows.Skew first second actuator verdict) = apart_words graph first second actuator verdict
row_words graph chain (rows.Task task times) = task_words graph task times
row_words graph chain (rows.Overload from to demand) = overload_words from to demand
row_words graph chain (rows.ForEver row) = lasting_words graph row

-- the lines of some rows
abbrev pub rows_text : TaskGraph → List TaskNo → List Row → List ℕ
rows_text graph chain list = flat_map (λ row. row_words graph chain row ++ codes "\n") list

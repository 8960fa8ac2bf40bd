-- How the jobs that ask for too much are written: a line for each task, and what they ask for together.
use Rattle.std.specs.Prelude.{◌++◌, ◌-◌, ◌==◌, ℕ, zero, suc, List, [], length, slice_index, codes, decimal, nat_lt, if◌then◌else◌}
use Rattle.prl_plan.specs.declared.graphs.TaskGraph.{TaskGraph}
use Rattle.prl_plan.specs.Jobs.{task_at}
use Rattle.prl_overloads.specs.Shares.{cost_of}

-- the texts of the numbers below n, one after another
abbrev pub texts_below : (ℕ → List ℕ) → ℕ → List ℕ
texts_below text zero = []
texts_below text (suc n) = texts_below text n ++ text n

abbrev pub plural : ℕ → List ℕ
plural n = if n == 1 then [] else codes "s"

-- a number of what a word names
unfoldable pub counted : ℕ → List ℕ → List ℕ
counted n word = decimal n ++ word ++ plural n

unfoldable pub jobs_text : List ℕ → ℕ → List ℕ
jobs_text name n = name ++ codes ": " ++ counted n (codes " job")

unfoldable pub cost_text : ℕ → ℕ → List ℕ
cost_text wcet cost = codes " of " ++ decimal wcet ++ codes " = " ++ counted cost (codes " tick") ++ codes "\n"

-- the jobs of a task, where it has some, with their WCET and what they cost
abbrev pub share_text : TaskGraph → List ℕ → ℕ → List ℕ
share_text graph counts i =
    if slice_index counts i == 0 then []
    else jobs_text (task_at graph i).name (slice_index counts i) ++ cost_text (task_at graph i).wcet (cost_of graph counts i)

-- a line for each task that has some
abbrev pub shares_text : TaskGraph → List ℕ → List ℕ
shares_text graph counts = texts_below (share_text graph counts) (length graph.tasks)

unfoldable pub sum_text : ℕ → ℕ → List ℕ
sum_text asked has = codes "Together they ask for " ++ counted asked (codes " tick") ++ codes ", and there are " ++ decimal has

unfoldable pub less_text : ℕ → List ℕ
less_text over = codes ". Their wcets have to give up " ++ counted over (codes " tick") ++ codes " in all, "

unfoldable pub most_text : List ℕ → List ℕ
most_text name = codes "and those of `" ++ name ++ codes "` weigh most.\n"

-- what they ask for together, what there is, and which task's jobs weigh most
unfoldable pub total_text : List ℕ → ℕ → ℕ → List ℕ
total_text name asked has = sum_text asked has ++ less_text (asked - has) ++ most_text name

-- the jobs by task, and together
unfoldable pub shared_text : TaskGraph → List ℕ → ℕ → ℕ → ℕ → List ℕ
shared_text graph counts heaviest asked has = shares_text graph counts ++ total_text (task_at graph heaviest).name asked has

-- words, a number and words
unfoldable pub numbered : List ℕ → ℕ → List ℕ → List ℕ
numbered front n tail = front ++ decimal n ++ tail

unfoldable pub within_text : ℕ → ℕ → List ℕ
within_text a b = numbered (codes "Released at ") a (codes " or later") ++ numbered (codes " and due by ") b (codes " are:\n")

unfoldable pub each_text : ℕ → List ℕ
each_text hyper = numbered (codes "In each hyperperiod, of ") hyper (codes " ticks, are released:\n")

-- whether smaller WCETs or longer periods alone can help
abbrev pub way_text : ℕ → ℕ → List ℕ
way_text load hyper =
    if nat_lt hyper load then codes ", so no later deadline and no delay is enough: make wcets smaller or periods longer.\n"
    else codes ", so a later deadline or a delay may be enough.\n"

unfoldable pub loaded_text : ℕ → ℕ → List ℕ
loaded_text load hyper = numbered (codes "The jobs of a hyperperiod ask for ") load (codes " of its ") ++ numbered [] hyper (codes " ticks")

-- what the jobs of a hyperperiod ask for
unfoldable pub load_text : ℕ → ℕ → List ℕ
load_text load hyper = loaded_text load hyper ++ way_text load hyper

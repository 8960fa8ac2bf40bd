-- What is told of an overload, and of a hyperperiod that asks for more than it has.
use Rattle.std.specs.Prelude.{◌≡◌, ◌++◌, ◌-◌, ◌<◌, ◌⊎◌, ℕ, List, [], length, slice_index}
use Rattle.prl_plan.specs.declared.graphs.TaskGraph.{TaskGraph}
use Rattle.prl_plan.specs.Plans.{PlanView}
use Rattle.prl_tables.specs.Tables.{classes}
use Rattle.prl_forever.specs.Forever.{load_of}
use Rattle.prl_overloads.specs.Overloads.{IsOverload}
use Rattle.prl_overloads.specs.Shares.{IsHeaviest}
use Rattle.prl_overloads.specs.ShareTexts.{each_text, load_text, shared_text, within_text}

-- by task, how many jobs a hyperperiod has
pub record AreClasses (graph : TaskGraph) (counts : List ℕ) : Type 0 where
  pub tasks : length counts ≡ length graph.tasks
  pub each : (i : ℕ) → i < length graph.tasks → slice_index counts i ≡ classes graph i

-- the jobs of an overloaded interval, and the load of the hyperperiod
abbrev pub overload_text : PlanView → ℕ → ℕ → ℕ → List ℕ → ℕ → List ℕ
overload_text plan a b asked counts heaviest =
    within_text a b ++ shared_text plan.graph counts heaviest asked (b - a) ++ load_text (load_of plan) plan.graph.hyper

-- the interval is overloaded so much, by these jobs, those of this task most
pub record IsOverloadBy (plan : PlanView) (a b asked : ℕ) (text : List ℕ) : Type 0 where
  pub counts : List ℕ
  pub overload : IsOverload plan a b asked counts
  pub task : ℕ
  pub heaviest : IsHeaviest plan.graph counts task
  pub is : text ≡ overload_text plan a b asked counts task

-- what is told of an overload: nothing, or its jobs
abbrev pub IsOverloadTold : PlanView → ℕ → ℕ → ℕ → List ℕ → Type 0
IsOverloadTold plan a b asked text = (text ≡ []) ⊎ IsOverloadBy plan a b asked text

-- the jobs of a hyperperiod
abbrev pub unsteady_text : PlanView → List ℕ → ℕ → ℕ → List ℕ
unsteady_text plan counts heaviest load = each_text plan.graph.hyper ++ shared_text plan.graph counts heaviest load plan.graph.hyper

-- a hyperperiod asks for more than it has, by these jobs, those of this task most
pub record IsLoadBy (plan : PlanView) (text : List ℕ) : Type 0 where
  pub over : plan.graph.hyper < load_of plan
  pub counts : List ℕ
  pub classes : AreClasses plan.graph counts
  pub task : ℕ
  pub heaviest : IsHeaviest plan.graph counts task
  pub is : text ≡ unsteady_text plan counts task (load_of plan)

-- what is told of the load of a plan: nothing, or its jobs
abbrev pub IsUnsteadyTold : PlanView → List ℕ → Type 0
IsUnsteadyTold plan text = (text ≡ []) ⊎ IsLoadBy plan text

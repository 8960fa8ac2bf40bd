-- The text of a list of events.
use Rattle.std.specs.Prelude.{◌++◌, ℕ, List, [], map, slice_index_or, codes}
use Rattle.std.specs.List.{flat_map}
use Rattle.prl_plan.specs.declared.events.Event.{Event}
use Rattle.prl_plan.specs.declared.events.Event.TheVariants as events
use Rattle.prl_plan.specs.declared.graphs.Task.{Task}
use Rattle.prl_plan.specs.Plans.{PlanView}

-- the names of tasks
abbrev pub names_of : List Task → List (List ℕ)
names_of tasks = map (λ (task : Task). task.name) tasks

-- the names of the tasks of a plan, in order
abbrev pub task_names : PlanView → List (List ℕ)
task_names plan = names_of plan.graph.tasks

-- the line of an event, with its end
abbrev pub event_line : List (List ℕ) → Event → List ℕ
event_line names events.Tick = codes "tick\n"
event_line names (events.Act task) = codes "act " ++ slice_index_or names task.0 [] ++ codes "\n"

-- a line for each event
abbrev pub text_of_events : List (List ℕ) → List Event → List ℕ
text_of_events names list = flat_map (event_line names) list

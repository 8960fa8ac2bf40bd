-- The tasks that act in a run, tick by tick.
use Rattle.std.specs.Prelude.{◌==◌, ◌||◌, ◌+◌, ◌++◌, ℕ, Bool, false, List, [], ◌∷◌, if◌then◌else◌}
use Rattle.prl_base.specs.declared.numbers.TaskNo.{TaskNo}
use Rattle.prl_plan.specs.declared.events.Event.{Event}
use Rattle.prl_plan.specs.declared.events.Event.TheVariants as events
use Rattle.prl_shapes.specs.declared.acts.Act.{Act}

-- the number is in the list
abbrev pub is_in : List ℕ → ℕ → Bool
is_in [] number = false
is_in (first ∷ rest) number = (first == number) || is_in rest number

-- what a task adds that acts at a tick, where these have acted there already
abbrev pub new_acts : List ℕ → ℕ → TaskNo → List Act
new_acts acted tick task = if is_in acted task.0 then [] else record { tick = tick; task = task } ∷ []

-- and those that have acted there then
abbrev pub also_acted : List ℕ → ℕ → List ℕ
also_acted acted task = if is_in acted task then acted else acted ++ task ∷ []

-- the same from a tick on, where these have acted at it already
abbrev pub acts_from : ℕ → List ℕ → List Event → List Act
acts_from tick acted [] = []
acts_from tick acted (events.Tick ∷ list) = acts_from (tick + 1) [] list
acts_from tick acted (events.Act task ∷ list) = new_acts acted tick task ++ acts_from tick (also_acted acted task.0) list

-- the tasks that act, tick by tick, each once a tick, in the order of their first acts there
abbrev pub acts_of : List Event → List Act
acts_of list = acts_from 0 [] list

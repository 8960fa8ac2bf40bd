-- What is told of a plan, as the words of a command line ask for it.
use Rattle.std.specs.Prelude.{◌≡◌, ◌<◌, ◌++◌, ◌⊎◌, ℕ, Bool, true, false, List, [], ◌∷◌, All, Option, Some, None, IfSome, MatchOption, codes, cond, length, map}
use Rattle.prl_base.specs.Decimals.{decimal_of}
use Rattle.prl_base.specs.declared.numbers.TaskNo.{TaskNo}
use Rattle.prl_io.specs.Faults.{Folder}
use Rattle.prl_io.specs.Pairs.{value_of}
use Rattle.prl_plan.specs.Plans.{PlanView}
use Rattle.prl_plan.specs.Vocabulary.{is_actuator, is_sensor, task_at}
use Rattle.prl_plantext.specs.ReadTexts.{IsTextOf}
use Rattle.prl_times.specs.Limits.{rows_above}
use Rattle.prl_times.specs.Names.{has_twice, AreOfPlan}
use Rattle.prl_timetext.specs.Names.{names_joined}
use Rattle.prl_times.specs.Options.{asks_json, pairs_of, with_values}
use Rattle.prl_timetext.specs.Objects.{json_text}
use Rattle.prl_times.specs.Rows.{Subject, about, ages_at, chain, each_to, heavy, hyper_share, lasting_overload, lasting_task, load, overload, served, skew, tasks_to, withins_to, IsRow}
use Rattle.prl_timetext.specs.Texts.{rows_text}
use Rattle.prl_timetext.specs.declared.rows.Row.{Row}

-- the task of a plan that an option names, if the words have it: a sensor, or an actuator
abbrev pub IsSensorAsked : PlanView → List (List ℕ) → Option TaskNo → Type 0
IsSensorAsked plan words None = value_of (codes "--sensor") words ≡ None
IsSensorAsked plan words (Some task) =
    (task.0 < length plan.graph.tasks) × (is_sensor (task_at plan.graph task.0).kind ≡ true) × (value_of (codes "--sensor") words ≡ Some (task_at plan.graph task.0).name)

abbrev pub IsActuatorAsked : PlanView → List (List ℕ) → Option TaskNo → Type 0
IsActuatorAsked plan words None = value_of (codes "--actuator") words ≡ None
IsActuatorAsked plan words (Some task) =
    (task.0 < length plan.graph.tasks) × (is_actuator (task_at plan.graph task.0).kind ≡ true) × (value_of (codes "--actuator") words ≡ Some (task_at plan.graph task.0).name)

-- the tasks whose names stand in the word of an option, with commas between them; none where the words do not have it
abbrev pub AreTasksAsked : PlanView → List (List ℕ) → List ℕ → List TaskNo → Type 0
AreTasksAsked plan words option tasks =
    AreOfPlan plan.graph tasks × MatchOption (value_of option words) (tasks ≡ []) (λ word. names_joined plan.graph tasks ≡ word)

-- the run is told up to the tick that the words name: its tasks, or an overload
abbrev pub IsRunAsked : PlanView → List (List ℕ) → ℕ → List Subject → Type 0
IsRunAsked plan words until run =
    MatchOption (value_of (codes "--until") words) (run ≡ [])
    (λ word. (decimal_of word ≡ Some until) × ((run ≡ tasks_to (length plan.graph.tasks)) ⊎ (run ≡ overload ∷ [])))

-- the rows of what is told for ever: that one processor serves and the tasks; or a load that is too much and the tasks; or an overload and
-- the tasks that have jobs in it
abbrev pub AreLasting : PlanView → List Subject → Type 0
AreLasting plan ever =
    (ever ≡ served ∷ each_to lasting_task (length plan.graph.tasks))
    ⊎ ((ever ≡ heavy ∷ each_to hyper_share (length plan.graph.tasks))
    ⊎ ((from : ℕ) × (to : ℕ) × (ever ≡ lasting_overload from to ∷ withins_to plan from to (length plan.graph.tasks))))

abbrev pub IsEverAsked : PlanView → List (List ℕ) → List Subject → Type 0
IsEverAsked plan words ever = MatchOption (value_of (codes "--for-ever") words) (ever ≡ []) (λ word. AreLasting plan ever)

-- the rows of a plan: its load, what is told for ever, the ages at the actuators, and the run
abbrev pub AreAllRows : PlanView → List (List ℕ) → List TaskNo → ℕ → List Row → Type 0
AreAllRows plan words tasks until rows =
    (tasks ≡ []) × ((sensor : Option TaskNo) × (actuator : Option TaskNo) × (run : List Subject) × (ever : List Subject)
    × IsSensorAsked plan words sensor × IsActuatorAsked plan words actuator × IsRunAsked plan words until run × IsEverAsked plan words ever
    × (map about rows ≡ (load ∷ ever) ++ ages_at plan.graph sensor actuator (length plan.graph.tasks) ++ run))

-- the one row of a chain, from its first task to its last
abbrev pub IsChainRow : List TaskNo → List Row → Type 0
IsChainRow tasks rows =
    (first : TaskNo) × (last : TaskNo) × (middle : List TaskNo) × (tasks ≡ first ∷ (middle ++ last ∷ [])) × (map about rows ≡ chain first.0 last.0 ∷ [])

-- the one row of the skew of two sensors at an actuator
abbrev pub IsSkewRow : PlanView → List (List ℕ) → List Row → Type 0
IsSkewRow plan words rows =
    (first : TaskNo) × (second : TaskNo) × (actuator : TaskNo) × AreTasksAsked plan words (codes "--skew") (first ∷ second ∷ [])
    × IsActuatorAsked plan words (Some actuator) × (map about rows ≡ skew first.0 second.0 actuator.0 ∷ [])

-- the rows that the words ask for, each right
pub record AreRowsAsked (plan : PlanView) (words : List (List ℕ)) (tasks : List TaskNo) (rows : List Row) : Type 0 where
  pub until : ℕ
  pub right : All (IsRow plan tasks until) rows
  pub asked : AreTasksAsked plan words (codes "--chain") tasks
  pub once : has_twice tasks ≡ false
  pub shape : MatchOption (value_of (codes "--chain") words)
      (MatchOption (value_of (codes "--skew") words) (AreAllRows plan words tasks until rows) (λ word. IsSkewRow plan words rows))
      (λ word. IsChainRow tasks rows)

-- no row is above the limit that the words name
abbrev pub AreWithin : List (List ℕ) → List Row → Type 0
AreWithin words rows = IfSome (value_of (codes "--limit") words) (λ word. (limit : ℕ) × (decimal_of word ≡ Some limit) × (rows_above limit rows ≡ []))

-- the text of the rows, as lines or as JSON
abbrev pub IsToldOf : PlanView → Bool → List (List ℕ) → List ℕ → Type 0
IsToldOf plan json words text =
    (tasks : List TaskNo) × (rows : List Row) × AreRowsAsked plan words tasks rows × AreWithin words rows
    × (text ≡ cond json (json_text plan.graph rows) (rows_text plan.graph tasks rows))

-- of the plan that the file has
abbrev pub IsToldBy : Bool → Folder → List (List ℕ) → List ℕ → Type 0
IsToldBy json folder words text =
    (name source : List ℕ) × (value_of (codes "--plan") words ≡ Some name) × IfSome folder (λ f. f name ≡ Some source)
    × ((plan : PlanView) × IsTextOf plan source × IsToldOf plan json words text)

-- what the words ask for, as lines, or as JSON where they ask for it
abbrev pub IsTold : Folder → List (List ℕ) → List ℕ → Type 0
IsTold folder words text = IsToldBy (asks_json (with_values false words)) folder (pairs_of words) text

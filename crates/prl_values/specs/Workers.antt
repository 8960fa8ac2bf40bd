-- What a worker keeps, asks for and does.
use Rattle.std.specs.Prelude.{◌≡◌, ◌≢◌, ◌+◌, ◌<◌, ◌^◌, ℕ, Bool, true, false, List, [], ◌∷◌, length, map, nat_le, if◌then◌else◌, Option, Some, None, slice_get, slice_index_or, slice_set}
use Rattle.std.specs.declared.vec.Vec.{Vec}
use Rattle.std.specs.declared.alloc.Global.{Global}
use Rattle.prl_base.specs.Values.{type_of}
use Rattle.prl_base.specs.declared.values.Value.{Value}
use Rattle.prl_body.specs.Bodies.{body_named, body_step, first_values, input_types, output_types, register_types}
use Rattle.prl_body.specs.Machines.{MachineState}
use Rattle.prl_body.specs.declared.bodies.CheckedBody.{CheckedBody}
use Rattle.prl_flow.specs.Applications.{registers_before}
use Rattle.prl_flow.specs.Rows.{Rows, rows_of}
use Rattle.prl_plan.specs.declared.events.Action.TheVariants as actions
use Rattle.prl_plan.specs.declared.graphs.Kind.TheVariants as kinds
use Rattle.prl_plan.specs.declared.horizons.Horizon.{Horizon}
use Rattle.prl_plan.specs.Facts.{IsJob}
use Rattle.prl_plan.specs.Horizons.{constants_of}
use Rattle.prl_plan.specs.Jobs.{task_at, job_count, IsHorizonJob}
use Rattle.prl_plan.specs.Plans.{PlanView, IsActionOf, IsAtPort, IsPlan, actions_of, operands_before}
use Rattle.prl_values.specs.BodyRuns.{place_of_run}
use Rattle.prl_values.specs.Fitting.{FitsTask, port_types}
use Rattle.prl_values.specs.JobValues.{JobValues, given, job_values, reads_of_job, body_of_task, word_of}
use Rattle.prl_values.specs.declared.workers.Work.{Work}
use Rattle.prl_values.specs.declared.workers.Work.TheVariants as works
use Rattle.prl_values.specs.declared.workers.Worker.{Worker}

abbrev pub outs_with : Option CheckedBody → ℕ
outs_with (Some body) = length (output_types body)
outs_with None = 0

-- how many outputs there are
abbrev pub outs_of : List CheckedBody → Work → ℕ
outs_of bodies (works.Sensor k) = 1
outs_of bodies (works.Node word machine) = outs_with (body_named bodies word)
outs_of bodies (works.Actuator column) = 0

-- what a step of a body needs
pub record CanStep (body : CheckedBody) (operands outputs : List Value) (machine : MachineState) : Type 0 where
  pub registers : map type_of machine.registers ≡ register_types body
  pub inputs : map type_of operands ≡ input_types body
  pub room : length outputs ≡ length (output_types body)
  pub steps : machine.steps < 2 ^ 63

-- what it does
pub record StepsTo (body : CheckedBody) (operands : List Value) (before after : MachineState) (outputs : List Value) : Type 0 where
  pub machine : after ≡ record { registers = (body_step body operands before.registers).registers; steps = before.steps + 1 }
  pub gives : outputs ≡ (body_step body operands before.registers).outputs
  pub typed : map type_of outputs ≡ output_types body

-- what a run on these operands needs: a sensor the row, a node the types, an actuator room
abbrev pub CanRun : Rows → List CheckedBody → ℕ → List Value → List Value → Work → Type 0
CanRun rows bodies job operands outputs (works.Sensor k) = (k < length rows) × (job < length (rows_of rows k))
CanRun rows bodies job operands outputs (works.Node word machine) =
    (body : CheckedBody) × (body_named bodies word ≡ Some body) × CanStep body operands outputs machine
CanRun rows bodies job operands outputs (works.Actuator column) = (job < length column.items) × (0 < length operands)

abbrev pub IsReady : Rows → List CheckedBody → ℕ → List Value → Worker → Type 0
IsReady rows bodies job operands worker =
    (length worker.outputs.items ≡ outs_of bodies worker.work) × CanRun rows bodies job operands worker.outputs.items worker.work

-- what a run gives at the outputs, and what it makes of the work
abbrev pub RunsTo : Rows → List CheckedBody → ℕ → List Value → List Value → Work → Work → Type 0
RunsTo rows bodies job operands outputs (works.Sensor k) work =
    (work ≡ works.Sensor k) × ((value : Value) × (slice_get (rows_of rows k) job ≡ Some value) × (outputs ≡ value ∷ []))
RunsTo rows bodies job operands outputs (works.Node word machine) work =
    (next : MachineState) × (work ≡ works.Node word next)
    × ((body : CheckedBody) × (body_named bodies word ≡ Some body) × StepsTo body operands machine next outputs)
RunsTo rows bodies job operands outputs (works.Actuator column) work =
    (after : Vec Value Global) × (value : Value) × (slice_get operands 0 ≡ Some value) × (after.items ≡ slice_set column.items job value) × (work ≡ works.Actuator after)
    × (length outputs ≡ 0)

-- the worker before and after a run
pub record HasRun (rows : Rows) (bodies : List CheckedBody) (job : ℕ) (operands : List Value) (before after : Worker) : Type 0 where
  pub ran : after.ran ≡ true
  pub taken : after.operands.items ≡ operands
  pub runs : RunsTo rows bodies job operands after.outputs.items before.work after.work

-- nothing but the operands changes
pub record HasKept (operands : List Value) (before after : Worker) : Type 0 where
  pub ran : after.ran ≡ before.ran
  pub taken : after.operands.items ≡ operands
  pub outputs : after.outputs.items ≡ before.outputs.items
  pub work : after.work ≡ before.work

-- an operand is taken, and with the last one the body runs
pub record HasTaken (rows : Rows) (bodies : List CheckedBody) (port job : ℕ) (value : Value) (before after : Worker) : Type 0 where
  pub last : port + 1 ≡ length before.operands.items → HasRun rows bodies job (slice_set before.operands.items port value) before after
  pub other : port + 1 ≢ length before.operands.items → HasKept (slice_set before.operands.items port value) before after

-- the body runs where it has not
pub record HasBegun (rows : Rows) (bodies : List CheckedBody) (job : ℕ) (before after : Worker) : Type 0 where
  pub first : before.ran ≡ false → HasRun rows bodies job before.operands.items before after
  pub again : before.ran ≡ true → HasKept before.operands.items before after

-- the job ends
pub record HasEnded (before after : Worker) : Type 0 where
  pub ran : after.ran ≡ false
  pub operands : after.operands.items ≡ before.operands.items
  pub outputs : after.outputs.items ≡ before.outputs.items
  pub work : after.work ≡ before.work

-- the machine of a node task's work
abbrev pub HasMachine : Work → MachineState → Type 0
HasMachine (works.Sensor k) machine = ⊥
HasMachine (works.Node word own) machine = machine ≡ own
HasMachine (works.Actuator column) machine = ⊥

abbrev pub HasNoMachine : Work → Type 0
HasNoMachine (works.Sensor k) = Unit {0}
HasNoMachine (works.Node word own) = ⊥
HasNoMachine (works.Actuator column) = Unit {0}

-- the work of task i before its first job
abbrev pub IsNewWork : PlanView → List CheckedBody → ℕ → ℕ → Work → Type 0
IsNewWork plan bodies until i (works.Sensor k) = (task_at plan.graph i).kind ≡ kinds.Sensor k
IsNewWork plan bodies until i (works.Node word machine) =
    ((k : ℕ) × ((task_at plan.graph i).kind ≡ kinds.Node k)) × (word ≡ word_of (task_at plan.graph i).name)
    × ((body : CheckedBody) × (body_of_task bodies (task_at plan.graph i) ≡ Some body) × (machine ≡ record { registers = first_values body; steps = 0 }))
IsNewWork plan bodies until i (works.Actuator column) =
    ((k : ℕ) × ((task_at plan.graph i).kind ≡ kinds.Actuator k)) × (length column.items ≡ job_count (task_at plan.graph i) until)

-- the worker of task i before its first job
pub record IsNewWorker (plan : PlanView) (bodies : List CheckedBody) (until i : ℕ) (worker : Worker) : Type 0 where
  pub ports : length worker.operands.items ≡ length (port_types plan.graph.edges i)
  pub room : length worker.outputs.items ≡ outs_of bodies worker.work
  pub ran : worker.ran ≡ false
  pub work : IsNewWork plan bodies until i worker.work

-- how the work of task i stands after so many runs
abbrev pub IsWork : PlanView → List CheckedBody → ℕ → JobValues → ℕ → ℕ → Work → Type 0
IsWork plan bodies until v i steps (works.Sensor k) = (task_at plan.graph i).kind ≡ kinds.Sensor k
IsWork plan bodies until v i steps (works.Node word machine) =
    ((k : ℕ) × ((task_at plan.graph i).kind ≡ kinds.Node k)) × (word ≡ word_of (task_at plan.graph i).name)
    × ((body : CheckedBody) × (body_of_task bodies (task_at plan.graph i) ≡ Some body)
    × (machine ≡ record { registers = registers_before body (reads_of_job plan.graph v i) steps; steps = steps }))
IsWork plan bodies until v i steps (works.Actuator column) =
    ((k : ℕ) × ((task_at plan.graph i).kind ≡ kinds.Actuator k)) × (length column.items ≡ job_count (task_at plan.graph i) until)
    × ((m : ℕ) → m < steps → slice_get column.items m ≡ slice_get (reads_of_job plan.graph v i m) 0)

-- what the last run gave, where it was that of job n of task i
abbrev pub HasGiven : JobValues → ℕ → ℕ → List Value → Work → Type 0
HasGiven v i n outputs (works.Sensor k) = outputs ≡ v i n
HasGiven v i n outputs (works.Node word machine) = outputs ≡ v i n
HasGiven v i n outputs (works.Actuator column) = Unit {0}

-- one where the body has run
abbrev pub once : Bool → ℕ
once ran = if ran then 1 else 0

-- what the worker of task i keeps, where its next action stands at this place of job n
pub record IsWorker (plan : PlanView) (bodies : List CheckedBody) (until : ℕ) (v : JobValues) (i n place : ℕ) (worker : Worker) : Type 0 where
  pub ports : length worker.operands.items ≡ length (port_types plan.graph.edges i)
  -- the operands that the job has read so far
  pub taken : (q : ℕ) → q < operands_before (actions_of plan i n) place →
      slice_get worker.operands.items q ≡ slice_get (reads_of_job plan.graph v i n) q
  pub room : length worker.outputs.items ≡ outs_of bodies worker.work
  pub ran : worker.ran ≡ nat_le (place_of_run plan i n) place
  pub given : worker.ran ≡ true → HasGiven v i n worker.outputs.items worker.work
  pub work : IsWork plan bodies until v i (n + once worker.ran) worker.work

-- the laws of values that a job rests on
pub record HasLaws (plan : PlanView) (bodies : List CheckedBody) (rows : Rows) (until : ℕ) (v : JobValues) (i n : ℕ) : Type 0 where
  pub job : IsHorizonJob plan.graph until i n
  pub counted : n < job_count (task_at plan.graph i) until
  pub small : n < 2 ^ 63
  pub values : v i n ≡ given plan.graph bodies rows v i n
  pub reads : map type_of (reads_of_job plan.graph v i n) ≡ port_types plan.graph.edges i
  pub registers : (body : CheckedBody) → body_of_task bodies (task_at plan.graph i) ≡ Some body → FitsTask plan.graph i body →
      map type_of (registers_before body (reads_of_job plan.graph v i) n) ≡ register_types body
  pub fits : (k : ℕ) → (task_at plan.graph i).kind ≡ kinds.Node k → (body : CheckedBody) → body_of_task bodies (task_at plan.graph i) ≡ Some body →
      FitsTask plan.graph i body
  pub row : (k : ℕ) → (task_at plan.graph i).kind ≡ kinds.Sensor k → (value : Value) × (slice_get (rows_of rows k) n ≡ Some value)

-- what the jobs of a run of a plan rest on
pub record HaveWorkLaws (plan : PlanView) (horizon : Horizon) (bodies : List CheckedBody) (rows : Rows) : Type 0 where
  pub whole : IsPlan plan
  pub jobs : (i n : ℕ) → IsJob (constants_of plan horizon) i n → HasLaws plan bodies rows horizon.until (job_values plan.graph bodies rows horizon.until) i n
  pub each : (i n place : ℕ) → IsActionOf plan i n (slice_index_or (actions_of plan i n) place actions.End)
  pub ports : (i n place port : ℕ) → IsAtPort port (slice_index_or (actions_of plan i n) place actions.End) → operands_before (actions_of plan i n) place ≡ port

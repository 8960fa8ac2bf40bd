-- What is told of a cycle, of a clock mismatch, of a chain of jobs and of a loop of them.
use Rattle.std.specs.Prelude.{◌≡◌, ◌⊎◌, ℕ, ℤ, pos, List, [], Option, Some, None}
use Rattle.prl_base.specs.Decimals.{decimal_of}
use Rattle.prl_flow.specs.Programs.{FlatProgram}
use Rattle.prl_plan.specs.declared.graphs.TaskGraph.{TaskGraph}
use Rattle.prl_plan.specs.Jobs.{Job, task_at}
use Rattle.prl_clashes.specs.declared.clashes.Clash.{Clash}
use Rattle.prl_clashes.specs.ClashTexts.{clash_text}
use Rattle.prl_clashes.specs.ClockWays.{IsClash}
use Rattle.prl_ways.specs.declared.chains.Chain.{Chain}
use Rattle.prl_ways.specs.declared.rounds.Round.{Round}
use Rattle.prl_ways.specs.Chains.{IsChainTo, IsCircle}
use Rattle.prl_ways.specs.ChainTexts.{chain_text, circle_text}
use Rattle.prl_ways.specs.Rounds.{IsRound}
use Rattle.prl_ways.specs.RoundTexts.{flow_label, round_text}
use Rattle.prl_waytext.specs.Longs.{IsTooLong, long_text}
use Rattle.prl_waytext.specs.ProgramTexts.{IsFlatOf, IsGraphIn}

-- the flows round a cycle of the program through the flow of this label
pub record IsCycleOf (program : List ℕ) (asked : Option (List ℕ)) (label : List ℕ) (flat : FlatProgram) (round : Round) : Type 0 where
  pub is_flat : IsFlatOf program asked flat
  pub labelled : flow_label flat round.first ≡ label
  pub is_round : IsRound flat round.first round

-- what is told of a cycle: nothing, or the flows round one
abbrev pub IsCycleTold : Option (List ℕ) → Option (List ℕ) → List ℕ → List ℕ → Type 0
IsCycleTold None asked label text = text ≡ []
IsCycleTold (Some program) asked label text =
    (text ≡ []) ⊎ ((flat : FlatProgram) × (round : Round) × IsCycleOf program asked label flat round × (text ≡ round_text flat round))

-- a flow of the program that is told at this byte, with two ways that give it two clocks
pub record IsClashOf (program : List ℕ) (asked : Option (List ℕ)) (number : List ℕ) (flat : FlatProgram) (clash : Clash) : Type 0 where
  pub is_flat : IsFlatOf program asked flat
  pub at : ℕ
  pub told : decimal_of number ≡ Some at
  pub is_clash : IsClash flat at clash

-- what is told of a clock mismatch: nothing, or two clocks of a flow with the ways that give it them
abbrev pub IsClashTold : Option (List ℕ) → Option (List ℕ) → List ℕ → List ℕ → Type 0
IsClashTold None asked number text = text ≡ []
IsClashTold (Some program) asked number text =
    (text ≡ []) ⊎ ((flat : FlatProgram) × (clash : Clash) × IsClashOf program asked number flat clash × (text ≡ clash_text flat clash))

-- the number with a sign that a text writes
abbrev pub IsDated : List ℕ → ℤ → Type 0
IsDated text date = (n : ℕ) × (decimal_of text ≡ Some n) × (date ≡ pos n)

-- the job of the name of a task and of a number
pub record IsJobNamed (graph : TaskGraph) (name number : List ℕ) (job : Job) : Type 0 where
  pub named : (task_at graph job.task).name ≡ name
  pub numbered : IsDated number job.number

-- a chain of jobs of the program to the job that is named, which needs until this date
pub record IsChainNamed (program : List ℕ) (asked : Option (List ℕ)) (name number needs : List ℕ) (graph : TaskGraph) (chain : Chain) : Type 0 where
  pub is_graph : IsGraphIn program asked graph
  pub job : Job
  pub is_job : IsJobNamed graph name number job
  pub date : ℤ
  pub dated : IsDated needs date
  pub is_chain : IsChainTo graph job date chain

-- a task of the program whose jobs need more than they have, each alone
pub record IsLongTold (program : List ℕ) (asked : Option (List ℕ)) (text : List ℕ) : Type 0 where
  pub graph : TaskGraph
  pub is_graph : IsGraphIn program asked graph
  pub task : ℕ
  pub long : IsTooLong graph task
  pub is : text ≡ long_text (task_at graph task)

-- what is told of a job that has too little time: a task that needs more than it has; else nothing, or the chain
abbrev pub IsChainTold : Option (List ℕ) → Option (List ℕ) → List ℕ → List ℕ → List ℕ → List ℕ → Type 0
IsChainTold None asked name number needs text = text ≡ []
IsChainTold (Some program) asked name number needs text =
    IsLongTold program asked text
    ⊎ ((text ≡ []) ⊎ ((graph : TaskGraph) × (chain : Chain) × IsChainNamed program asked name number needs graph chain × (text ≡ chain_text graph chain)))

-- a circle of jobs of the program
pub record IsCircleOf (program : List ℕ) (asked : Option (List ℕ)) (graph : TaskGraph) (chain : Chain) : Type 0 where
  pub is_graph : IsGraphIn program asked graph
  pub is_circle : IsCircle graph chain

-- what is told of a job that waits for a loop: a task that needs more than it has; else nothing, or the circle
abbrev pub IsCircleTold : Option (List ℕ) → Option (List ℕ) → List ℕ → Type 0
IsCircleTold None asked text = text ≡ []
IsCircleTold (Some program) asked text =
    IsLongTold program asked text
    ⊎ ((text ≡ []) ⊎ ((graph : TaskGraph) × (chain : Chain) × IsCircleOf program asked graph chain × (text ≡ circle_text graph chain)))

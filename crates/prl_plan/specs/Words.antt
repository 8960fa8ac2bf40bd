-- Dependency words: what the jobs of a consumer read on an edge, as constants first, and then as
-- instances that repeat with a step.
use Rattle.std.specs.Prelude.{◌≡◌, ◌+◌, ◌-◌, ◌*◌, ◌/◌, ◌%◌, ◌≤◌, ℕ, List, Option, Some, None, length, slice_get, slice_index, sum_by}
use Rattle.prl_base.specs.declared.operators.Op.{Op}
use Rattle.prl_base.specs.declared.values.Value.{Value}
use Rattle.prl_plan.specs.declared.graphs.Edge.{Edge}
use Rattle.prl_plan.specs.declared.graphs.TaskGraph.{TaskGraph}
use Rattle.prl_plan.specs.declared.limits.TheConstants.{MAX_PREFIX}
use Rattle.prl_plan.specs.declared.walks.Operand.{Operand}
use Rattle.prl_plan.specs.declared.walks.Operand.TheVariants as operands
use Rattle.prl_plan.specs.declared.words.Word.{Word}
use Rattle.prl_plan.specs.Operands.{walk}
use Rattle.prl_plan.specs.Repeats.{IsShortest}

-- the instance that job i after the prefix reads: the repeating part comes again after so many
-- jobs, higher by so many instances
abbrev pub number_at : Word → ℕ → ℕ
number_at w i = slice_index w.repeat (i % w.step_in) + i / w.step_in * w.step_out

-- a constant where there is one
abbrev pub constant_or : Option Value → Operand → Operand
constant_or (Some c) other = operands.Const c
constant_or None other = other

-- the operand of job n
abbrev pub word_at : Word → ℕ → Operand
word_at w n = constant_or (slice_get w.prefix n) (operands.From (number_at w (n - length w.prefix)))

-- the step of the jobs is the length of the repeating part, which has at least one number
pub record IsWord (w : Word) : Type 0 where
  pub some : 1 ≤ w.step_in
  pub long : length w.repeat ≡ w.step_in

-- From job `from` on, so many jobs later the walk gives an instance that is higher by so many.
abbrev pub Climbs : List Op → ℕ → ℕ → ℕ → Type 0
Climbs ops from jobs instances =
    (n m : ℕ) → from ≤ n → walk ops n ≡ operands.From m →
    walk ops (n + jobs) ≡ operands.From (m + instances)

-- from job `from` on, the instances that are read repeat after so many jobs, each as much higher as the others
abbrev pub RepeatsAfter : List Op → ℕ → ℕ → Type 0
RepeatsAfter ops from jobs = (instances : ℕ) × Climbs ops from jobs instances

-- the word of an edge with these operators, from the consumer's end on: for each job it gives what
-- the walk over them gives, and its repeating part is the shortest that serves
pub record IsWordOf (ops : List Op) (w : Word) : Type 0 where
  pub word : IsWord w
  pub at : (n : ℕ) → word_at w n ≡ walk ops n
  pub shortest : IsShortest (RepeatsAfter ops (length w.prefix)) w.step_in

-- how many constants the prefixes of these words have
abbrev pub constants_in : List Word → ℕ
constants_in words = sum_by (λ (w : Word). length w.prefix) words

-- a word for each edge, in the order of the edges, with no more constants than the limit; those of an edge
-- from a constant number the constant's instances
pub record AreWords (graph : TaskGraph) (words : List Word) : Type 0 where
  pub few : constants_in words ≤ MAX_PREFIX
  pub long : length words ≡ length graph.edges
  pub each : (e : ℕ) (edge : Edge) → slice_get graph.edges e ≡ Some edge →
      (w : Word) × (slice_get words e ≡ Some w) × IsWordOf edge.ops w

-- Each actuator has one task.
use Rattle.prl_base.proofs.Standard.{◌≡◌, ◌+◌, ◌<◌, ◌≤◌, ℕ, zero, suc, List, [], ◌∷◌, length, map, get_or, inl, inr, refl, sym, ◌∙◌, ap, subst, arith, cases_order, get_or_default}
use Rattle.prl_base.specs.Names.{IsName}
use Rattle.prl_plan.specs.Vocabulary.{AreNumbered, IsTaskName, no_task, PlanView, IsPlan}
use Rattle.prl_plan.specs.declared.graphs.Kind.{Kind}
use Rattle.prl_plan.specs.declared.graphs.Task.{Task}
use Rattle.prl_plan.specs.declared.graphs.Kind.TheVariants as kinds
use Rattle.prl_track.specs.Machine.{Drives}

-- numbers go on from at least as many actuators, and from one more after an actuator
record HasTail (actuators : ℕ) (kind : Kind) (rest : List Kind) : Type 0 where
  pub sensors : ℕ
  pub nodes : ℕ
  pub later : ℕ
  pub least : actuators ≤ later
  pub numbered : AreNumbered sensors nodes later rest
  pub own : (k : ℕ) → kind ≡ kinds.Actuator k → (k ≡ actuators) × (later ≡ actuators + 1)

tail_of : (sensors nodes actuators : ℕ) (kind : Kind) (rest : List Kind) → AreNumbered sensors nodes actuators (kind ∷ rest) → HasTail actuators kind rest
tail_of sensors nodes actuators (kinds.Sensor k) rest is = record {
  sensors = sensors + 1;
  nodes = nodes;
  later = actuators;
  least = omega arith;
  numbered = is.3;
  own = λ other same. absurd cc;
}
tail_of sensors nodes actuators (kinds.Node k) rest is = record {
  sensors = sensors;
  nodes = nodes + 1;
  later = actuators;
  least = omega arith;
  numbered = is.2;
  own = λ other same. absurd cc;
}
tail_of sensors nodes actuators (kinds.Actuator k) rest is = record {
  sensors = sensors;
  nodes = nodes;
  later = actuators + 1;
  least = omega arith;
  numbered = is.1;
  own = λ other same. (let e : k ≡ other = cc in sym e ∙ is.0, refl);
}

at_least : (tasks : List Task) (sensors nodes actuators i k : ℕ) → AreNumbered sensors nodes actuators (map (λ (task : Task). task.kind) tasks) → i < length tasks →
    (get_or tasks i no_task).kind ≡ kinds.Actuator k → actuators ≤ k
at_least [] sensors nodes actuators i k is inside kind = absurd (omega (arith, inside))
at_least (task ∷ tasks) sensors nodes actuators zero k is inside kind =
    let tail = tail_of sensors nodes actuators task.kind (map (λ (task : Task). task.kind) tasks) is in
    let own = (tail.own k kind).0 in
    omega (arith, own)
at_least (task ∷ tasks) sensors nodes actuators (suc i) k is inside kind =
    let tail = tail_of sensors nodes actuators task.kind (map (λ (task : Task). task.kind) tasks) is in
    let rest = at_least tasks tail.sensors tail.nodes tail.later i k tail.numbered (omega (arith, inside)) kind in
    let least = tail.least in
    omega (arith, rest, least)

apart : (tasks : List Task) (sensors nodes actuators i j k : ℕ) → AreNumbered sensors nodes actuators (map (λ (task : Task). task.kind) tasks) → i < j → j < length tasks →
    (get_or tasks i no_task).kind ≡ kinds.Actuator k → (get_or tasks j no_task).kind ≡ kinds.Actuator k → ⊥
apart [] sensors nodes actuators i j k is before inside first second = absurd (omega (arith, inside))
apart (task ∷ tasks) sensors nodes actuators i zero k is before inside first second = absurd (omega (arith, before))
apart (task ∷ tasks) sensors nodes actuators zero (suc j) k is before inside first second =
    let tail = tail_of sensors nodes actuators task.kind (map (λ (task : Task). task.kind) tasks) is in
    let own = tail.own k first in
    let its = own.0 in
    let later = own.1 in
    let rest = at_least tasks tail.sensors tail.nodes tail.later j k tail.numbered (omega (arith, inside)) second in
    absurd (omega (arith, its, later, rest))
apart (task ∷ tasks) sensors nodes actuators (suc i) (suc j) k is before inside first second =
    let tail = tail_of sensors nodes actuators task.kind (map (λ (task : Task). task.kind) tasks) is in
    apart tasks tail.sensors tail.nodes tail.later i j k tail.numbered (omega (arith, before)) (omega (arith, inside)) first second

pub one_task : (plan : PlanView) → IsPlan plan → (i j k : ℕ) → Drives plan i k → Drives plan j k → i ≡ j
one_task plan is i j k first second =
    elim (cases_order i j) [
      | inl same ↦ same
      | inr other ↦
          (elim other [
            | inl before ↦ absurd (apart plan.graph.tasks 0 0 0 i j k is.graph.kinds before second.0 first.1 second.1)
            | inr after ↦ absurd (apart plan.graph.tasks 0 0 0 j i k is.graph.kinds after first.0 second.1 first.1)
          ])
    ]

-- a task of a graph, as it is read
pub task_read : (items tasks : List Task) (i : ℕ) (task : Task) → items ≡ tasks → i < length tasks → task ≡ get_or items i task → task ≡ get_or tasks i no_task
task_read items tasks i task same inside is = is ∙ ap (λ (xs : List Task). get_or xs i task) same ∙ get_or_default tasks i task no_task inside

-- an actuator's task has a name
pub actuator_name : (kind : Kind) (k : ℕ) (name : List ℕ) → kind ≡ kinds.Actuator k → IsTaskName kind name → IsName name
actuator_name kind k name is named = subst (λ (x : Kind). IsTaskName x name) is named

-- Tasks, one after another.
use Rattle.prl_base.proofs.Standard.{◌≡◌, ◌≤◌, ◌+◌, ℕ, List, [], ◌∷◌, ◌++◌, length, get_or, slice_get, Some, refl, sym, ◌∙◌, ap, subst, arith, ⊎_elim, length_push, decimal}
use Rattle.prl_base.specs.declared.operators.Clock.{Clock}
use Rattle.prl_flow.specs.Programs.{FlatProgram}
use Rattle.prl_flow.specs.declared.programs.App.{App}
use Rattle.prl_plan.specs.declared.graphs.Kind.TheVariants as kinds
use Rattle.prl_plan.specs.declared.graphs.Task.{Task}
use Rattle.prl_graph.specs.Vocabulary.{actuator_no, node_no, IsTaskOf, application_clock, sensor, node, actuator, AreFirstTasks, MakesActuator, MakesNode, MakesSensor, AreLeastDues}
use Rattle.prl_graph.proofs.LeastDues.{least_of_all}
use Rattle.prl_graph.proofs.Lists.{push_cases}

one_task : (p : FlatProgram) (clocks : List Clock) (n : ℕ) (tasks : List Task) (task : Task) → AreFirstTasks p clocks n tasks → IsTaskOf p clocks n task
    → AreFirstTasks p clocks (n + 1) (tasks ++ task ∷ [])
one_task p clocks n tasks task are is =
    record {
      count = length_push tasks task ∙ ap (λ m. m + 1) are.count;
      each = λ i other h. ⊎_elim
          (λ old. are.each i other old)
          (λ last. subst (λ t. IsTaskOf p clocks i t) last.1 (subst (λ m. IsTaskOf p clocks m task) (sym (last.0 ∙ are.count)) is))
          (push_cases tasks task i other h);
    }

pub one_sensor : (p : FlatProgram) (clocks : List Clock) (k : ℕ) (tasks after : List Task) (task : Task) → AreFirstTasks p clocks k tasks → MakesSensor p clocks k task → after ≡ tasks ++ task ∷ []
    → AreFirstTasks p clocks (k + 1) after
one_sensor p clocks k tasks after task are makes is =
    subst (AreFirstTasks p clocks (k + 1)) (sym is)
    (one_task p clocks k tasks task are (sensor (record { flow = makes.flow; found = makes.found; is = makes.is })))

pub one_node : (p : FlatProgram) (clocks : List Clock) (k n : ℕ) (dues : List ℕ) (tasks after : List Task) (task : Task) → AreLeastDues p clocks n dues → length p.flows ≤ n → AreFirstTasks p clocks (node_no p k) tasks
    → MakesNode p clocks k (get_or dues k 0) task → after ≡ tasks ++ task ∷ [] → AreFirstTasks p clocks (node_no p (k + 1)) after
one_node p clocks k n dues tasks after task leasts most are makes is =
    let number : node_no p k + 1 ≡ node_no p (k + 1) = omega arith in
    subst (λ m. AreFirstTasks p clocks m after) number
    (subst (AreFirstTasks p clocks (node_no p k + 1)) (sym is)
    (one_task p clocks (node_no p k) tasks task are
    (node (record {
      number = k;
      at = refl;
      app = makes.app;
      found = makes.found;
      due = get_or dues k 0;
      least = least_of_all p n k (application_clock clocks makes.app).period (get_or dues k 0) most (leasts.each k makes.app makes.found);
      is = makes.is;
    }))))

pub one_actuator : (p : FlatProgram) (clocks : List Clock) (k : ℕ) (tasks after : List Task) (task : Task) → AreFirstTasks p clocks (actuator_no p k) tasks → MakesActuator p clocks k task
    → after ≡ tasks ++ task ∷ [] → AreFirstTasks p clocks (actuator_no p (k + 1)) after
one_actuator p clocks k tasks after task are makes is =
    let number : actuator_no p k + 1 ≡ actuator_no p (k + 1) = omega arith in
    subst (λ m. AreFirstTasks p clocks m after) number
    (subst (AreFirstTasks p clocks (actuator_no p k + 1)) (sym is)
    (one_task p clocks (actuator_no p k) tasks task are
    (actuator (record { number = k; at = refl; flow = makes.flow; found = makes.found; is = makes.is }))))

pub renumbered : (p : FlatProgram) (clocks : List Clock) (n m : ℕ) (tasks : List Task) → n ≡ m → AreFirstTasks p clocks n tasks → AreFirstTasks p clocks m tasks
renumbered p clocks n m tasks same are = subst (λ k. AreFirstTasks p clocks k tasks) same are

pub node_made : (p : FlatProgram) (clocks : List Clock) (k due : ℕ) (app : App) (name : List ℕ) (clock : Clock) → slice_get p.apps k ≡ Some app → name ≡ app.name ++ 64 ∷ decimal k
    → clock ≡ application_clock clocks app → MakesNode p clocks k due (record { name = name; kind = kinds.Node k; clock = clock; wcet = app.wcet; due = due })
node_made p clocks k due app name clock found name_is clock_is = record {
  app = app;
  found = found;
  is = ap (λ n. record { name = n; kind = kinds.Node k; clock = clock; wcet = app.wcet; due = due }) name_is
      ∙ ap (λ t. record { name = app.name ++ 64 ∷ decimal k; kind = kinds.Node k; clock = t; wcet = app.wcet; due = due }) clock_is;
}

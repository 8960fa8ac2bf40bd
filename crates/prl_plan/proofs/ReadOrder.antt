-- Over a plan: what a job reads is of a job whose encoded release is earlier, and a task's releases rise.
use Rattle.prl_base.proofs.Standard.{◌≡◌, ◌+◌, ◌<◌, ◌≤◌, ℕ, zero, suc, List, [], ◌∷◌, length, refl, sym, ◌∙◌, ap, subst, arith, pos, Some, slice_get, ints, mul-le-mul_right, slice_get-get_or}
use Rattle.prl_base.specs.Vocabulary.{IsOperatorFor, IsOfType}
use Rattle.prl_base.specs.declared.operators.Op.{Op}
use Rattle.prl_base.specs.declared.values.Ty.{Ty}
use Rattle.prl_base.specs.declared.values.Value.{Value}
use Rattle.prl_base.specs.declared.operators.Op.TheVariants as operators
use Rattle.prl_plan.specs.Vocabulary.{Edge, TaskGraph, Producer, Operand, IsWellFormed, IsEdge, IsSource, task_at, IsHorizonJob, walk, operand_from, operand_of, ComesFrom, PlanView, IsPlan, edge_at}
use Rattle.prl_plan.specs.Vocabulary.{no_edge, release_at}
use Rattle.prl_plan.specs.declared.graphs.Producer.TheVariants as producers
use Rattle.prl_plan.specs.declared.walks.Operand.TheVariants as operands
use Rattle.prl_plan.proofs.PlanFacts.{along_at, later_at, operand_horizon}
use Rattle.prl_plan.proofs.RoundLaws.{source_inside}
use Rattle.prl_plan.proofs.PlanNumbers.{window_within}
use Rattle.prl_plan.proofs.RoundPeriods.{task_is}
use Rattle.prl_plan.proofs.WalkLaws.{operand_walks}
use Rattle.prl_plan.proofs.WalkNumbers.{divisor_within}

-- the job that gives what is read is released earlier
pub read_earlier : (plan : PlanView) → IsPlan plan → (e i n m : ℕ) → e < length plan.graph.edges → ComesFrom (edge_at plan.graph e).from i →
    operand_of (edge_at plan.graph e) n ≡ operands.From m → release_at plan i m < release_at plan (edge_at plan.graph e).to.0 n
read_earlier plan is e i n m inside comes reads =
    (along_at plan is e i n m inside comes (operand_walks (edge_at plan.graph e) n m reads).2).0

-- a later job of a task is not released earlier
pub releases_rise : (plan : PlanView) → IsPlan plan → (i m n : ℕ) → i < length plan.graph.tasks → m ≤ n → release_at plan i m ≤ release_at plan i n
releases_rise = later_at

-- a horizon job is released, by its encoded date, less than a hyperperiod after the horizon's date
pub released_soon : (plan : PlanView) → IsPlan plan → (until i n : ℕ) → IsHorizonJob plan.graph until i n → release_at plan i n < until + plan.graph.hyper
released_soon plan is until i n job =
    let t = task_is plan.graph is.graph i job.task in
    omega (arith, ints, window_within plan.graph plan.windows is.dates is.room i (pos n) job.task, divisor_within _ plan.graph.hyper is.graph.hyper t.divides, t.due.1, t.wcet.0, job.early)

-- a constant that a walk gives has the type of its operators
walk_typed : (ty : Ty) (ops : List Op) → ((k : ℕ) (op : Op) → slice_get ops k ≡ Some op → IsOperatorFor ty op) → (n : ℕ) (c : Value) →
    walk ops n ≡ operands.Const c → IsOfType ty c
walk_typed ty [] are n c h = cc
walk_typed ty (operators.Up k ∷ ops) are n c h = walk_typed ty ops (λ j o is. are (suc j) o is) _ c h
walk_typed ty (operators.Down k ∷ ops) are n c h = walk_typed ty ops (λ j o is. are (suc j) o is) _ c h
walk_typed ty (operators.Shift q ∷ ops) are n c h = walk_typed ty ops (λ j o is. are (suc j) o is) n c h
walk_typed ty (operators.Tail ∷ ops) are n c h = walk_typed ty ops (λ j o is. are (suc j) o is) _ c h
walk_typed ty (operators.Cons v ∷ ops) are zero c h = (let e : v ≡ c = cc in subst (λ (x : Value). IsOfType ty x) e (are 0 (operators.Cons v) refl))
walk_typed ty (operators.Cons v ∷ ops) are (suc n) c h = walk_typed ty ops (λ j o is. are (suc j) o is) n c h
walk_typed ty (operators.Fby v ∷ ops) are zero c h = (let e : v ≡ c = cc in subst (λ (x : Value). IsOfType ty x) e (are 0 (operators.Fby v) refl))
walk_typed ty (operators.Fby v ∷ ops) are (suc n) c h = walk_typed ty ops (λ j o is. are (suc j) o is) n c h

-- a constant that is read has the edge's type
pub constant_typed : (graph : TaskGraph) → IsWellFormed graph → (e n : ℕ) (c : Value) → e < length graph.edges →
    operand_of (edge_at graph e) n ≡ operands.Const c → IsOfType (edge_at graph e).ty c
constant_typed graph good e n c inside reads = go (edge_at graph e).from refl (walk (edge_at graph e).ops n) refl
  where
    edge : Edge
    edge = edge_at graph e

    is : IsEdge graph (edge_at graph e)
    is = good.edges e (edge_at graph e) (slice_get-get_or graph.edges e no_edge inside)

    go : (from : Producer) → (edge_at graph e).from ≡ from → (w : Operand) → walk (edge_at graph e).ops n ≡ w → IsOfType (edge_at graph e).ty c
    go (producers.Port task out) f (operands.Const d) w = walk_typed (edge_at graph e).ty (edge_at graph e).ops is.operators n c (w ∙ same)
      where
        same : operands.Const d ≡ operands.Const c
        same = sym (ap (λ (x : Producer). operand_from x (walk (edge_at graph e).ops n)) f ∙ w) ∙ reads
    go (producers.Port task out) f (operands.From m) w =
        absurd (let e : operands.From m ≡ operands.Const c = sym (ap (λ (x : Producer). operand_from x (walk (edge_at graph e).ops n)) f ∙ w) ∙ reads in cc)
    go (producers.Constant value) f (operands.Const d) w = walk_typed (edge_at graph e).ty (edge_at graph e).ops is.operators n c (w ∙ same)
      where
        same : operands.Const d ≡ operands.Const c
        same = sym (ap (λ (x : Producer). operand_from x (walk (edge_at graph e).ops n)) f ∙ ap (λ (x : Operand). operand_from (producers.Constant value) x) w) ∙ reads
    go (producers.Constant value) f (operands.From m) w =
        let e1 : operands.Const value ≡ operands.Const c =
        sym (ap (λ (x : Producer). operand_from x (walk (edge_at graph e).ops n)) f ∙ ap (λ (x : Operand). operand_from (producers.Constant value) x) w) ∙ reads in
        let one : value ≡ c = cc in
        subst (λ (x : Value). IsOfType (edge_at graph e).ty x) one (subst (λ (x : Producer). IsSource graph (edge_at graph e) is.clocks.0 x) f is.clocks.2)

-- an instance that a horizon job reads is one that a horizon job gives
pub read_of_horizon : (graph : TaskGraph) → IsWellFormed graph → (until e i n m : ℕ) → e < length graph.edges → ComesFrom (edge_at graph e).from i →
    IsHorizonJob graph until (edge_at graph e).to.0 n → operand_of (edge_at graph e) n ≡ operands.From m → IsHorizonJob graph until i m
read_of_horizon = operand_horizon

-- an earlier job of a task with a horizon job is one
pub earlier_horizon : (graph : TaskGraph) (until i m n : ℕ) → m ≤ n → IsHorizonJob graph until i n → IsHorizonJob graph until i m
earlier_horizon graph until i m n before job =
    record { task = job.task; early = omega (arith, ints, mul-le-mul_right (task_at graph i).clock.period before, job.early) }

-- the producer of an edge is a task of the graph
pub source_task : (graph : TaskGraph) → IsWellFormed graph → (e i : ℕ) → e < length graph.edges → ComesFrom (edge_at graph e).from i → i < length graph.tasks
source_task graph good e i inside comes =
    source_inside graph (edge_at graph e) (good.edges e (edge_at graph e) (slice_get-get_or graph.edges e no_edge inside)) (edge_at graph e).from refl i comes

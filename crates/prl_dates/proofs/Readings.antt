-- What is read from a graph, and that the numbers of its jobs fit.
use Rattle.prl_base.proofs.Standard.{◌≡◌, ◌+◌, ◌<◌, ◌≤◌, ℕ, suc, List, ◌∷◌, length, get_or, Some, inl, inr, sym, ◌∙◌, ap, subst, arith, ℤ, pos, ◌-ℤ◌, slice_get, ints, pred_ℤ, get_or_default}
use Rattle.prl_base.proofs.Standard.{slice_get-get_or, cases_lt}
use Rattle.prl_base.specs.Operators.{preceding_number}
use Rattle.prl_base.specs.declared.operators.Op.{Op}
use Rattle.prl_base.specs.declared.operators.Op.TheVariants as operators
use Rattle.prl_plan.specs.Vocabulary.{IsWellFormed, jobs_in_hyperperiod, task_at, no_task, PrecedingFits}
use Rattle.prl_plan.specs.declared.graphs.Task.{Task}
use Rattle.prl_plan.specs.declared.graphs.TaskGraph.{TaskGraph}
use Rattle.prl_plan.proofs.Floors.{suc_is, pred_is}
use Rattle.prl_dates.specs.Vocabulary.{jobs_of, jobs_before}
use Rattle.prl_dates.proofs.Indices.{before_rises, before_all}

-- an element of a list is the one that stands there
pub item_stands : {A : Type 0} (xs : List A) (i : ℕ) (x : A) → i < length xs → x ≡ get_or xs i x → slice_get xs i ≡ Some x
item_stands {A} xs i x below is = slice_get-get_or xs i x below ∙ ap (λ (y : A). Some y) (sym is)

pub task_read : (graph : TaskGraph) (xs : List Task) (i : ℕ) (d : Task) → xs ≡ graph.tasks → i < length graph.tasks → get_or xs i d ≡ task_at graph i
task_read graph xs i d same below = ap (λ (ts : List Task). get_or ts i d) same ∙ get_or_default graph.tasks i d no_task below

-- the jobs of some tasks are no more than a hyperperiod's
pub before_few : (graph : TaskGraph) → IsWellFormed graph → (i : ℕ) → i ≤ length graph.tasks → jobs_before graph i ≤ 20000
before_few graph good i within =
    let a = before_all graph in
    elim (cases_lt i (length graph.tasks)) [
      | inl less ↦ omega (arith, a, good.few_jobs, before_rises graph i (length graph.tasks) less)
      | inr all ↦
          (let e : i ≡ length graph.tasks = omega arith in
          omega (arith, a, good.few_jobs, ap (λ (x : ℕ). jobs_before graph x) e))
    ]

pub before_next : (graph : TaskGraph) (i : ℕ) → jobs_before graph (i + 1) ≡ jobs_before graph i + jobs_of graph i
before_next graph i = ap (λ (n : ℕ). jobs_before graph n) (let e : i + 1 ≡ suc i = omega arith in e)

-- the indices of a task are in the tables
pub indices_inside : (graph : TaskGraph) (i : ℕ) → i < length graph.tasks → jobs_before graph i + jobs_of graph i ≤ jobs_in_hyperperiod graph
indices_inside graph i inside = omega (arith, before_rises graph i (length graph.tasks) inside, before_all graph)

-- the numbers on the way to a job that precedes fit one operator after the other
pub pred_same : (n : ℤ) → n -ℤ pos 1 ≡ pred_ℤ n
pred_same n = omega (arith, ints, pred_is n)

pub fits_rest : (op : Op) (ops : List Op) (n : ℤ) → PrecedingFits (op ∷ ops) n → PrecedingFits ops (preceding_number op n)
fits_rest (operators.Up k) ops n fits = fits.1
fits_rest (operators.Down k) ops n fits = fits.2
fits_rest (operators.Shift q) ops n fits = fits
fits_rest operators.Tail ops n fits = subst (λ (z : ℤ). PrecedingFits ops z) (sym (suc_is n)) fits.1
fits_rest (operators.Cons c) ops n fits = subst (λ (z : ℤ). PrecedingFits ops z) (pred_same n) fits.1
fits_rest (operators.Fby c) ops n fits = subst (λ (z : ℤ). PrecedingFits ops z) (pred_same n) fits.1

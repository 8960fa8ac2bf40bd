-- Classes are released early, and pieces are short.
use Rattle.prl_base.proofs.Standard.{◌≡◌, ◌+◌, ◌*◌, ◌<◌, ◌≤◌, ◌^◌, ℕ, List, length, arith, pos, ◌≤ℤ◌, pos-*ℤ-pos, mul-le-mul_right, ints}
use Rattle.prl_plan.specs.Vocabulary.{encoded_deadline, task_at, deadline_of, IsHorizonJob, PlanView, IsPlan, release_at, deadline_at}
use Rattle.prl_plan.proofs.DatePeriods.{jobs_are}
use Rattle.prl_plan.proofs.RoundPeriods.{task_is}
use Rattle.prl_tables.specs.Vocabulary.{AreShort, Entry, classes, IsPiece, ArePieces}
use Rattle.prl_tables.proofs.Shifts.{some_classes}

pub class_is_early : (plan : PlanView) → IsPlan plan → (i c : ℕ) → i < length plan.graph.tasks → c < classes plan.graph i →
    IsHorizonJob plan.graph (2 ^ 31 + plan.graph.hyper) i c
class_is_early plan is i c inside below = record {
  task = inside;
  early =
      (let start = (task_is plan.graph is.graph i inside).start in
      let m = mul-le-mul_right (task_at plan.graph i).clock.period (let g : c + 1 ≤ classes plan.graph i = omega (arith, below) in g) in
      let e : (c + 1) * (task_at plan.graph i).clock.period ≡ c * (task_at plan.graph i).clock.period + (task_at plan.graph i).clock.period = omega arith in
      omega (arith, ints, start, (task_is plan.graph is.graph i inside).period.0, m, e, jobs_are plan.graph is.graph i inside, pos-*ℤ-pos c (task_at plan.graph i).clock.period));
}

pub hyper_small : (plan : PlanView) → IsPlan plan → 2 ^ 31 + plan.graph.hyper < 2 ^ 32
hyper_small plan is = (let few = is.graph.hyper in omega (arith, few))

-- a window is at most a hyperperiod long
pub short_window : (plan : PlanView) → IsPlan plan → (i m : ℕ) → i < length plan.graph.tasks → deadline_at plan i m ≤ release_at plan i m + plan.graph.hyper
short_window plan is i m inside =
    let below : encoded_deadline plan.graph plan.windows i (pos m) ≤ℤ deadline_of (task_at plan.graph i) (pos m) = is.dates.deadlines.deadlines.below i (pos m) inside in
    let one = mul-le-mul_right (task_at plan.graph i).clock.period (some_classes plan is i inside) in
    let self : 1 * (task_at plan.graph i).clock.period ≡ (task_at plan.graph i).clock.period = omega arith in
    omega (arith, ints, is.dates.releases.releases.above i (pos m) inside, below, (task_is plan.graph is.graph i inside).due.1, jobs_are plan.graph is.graph i inside, one, self)

pub piece_ends : (plan : PlanView) (entry : Entry) → IsPiece plan entry → deadline_at plan entry.task.0 entry.job < 2 ^ 33 → entry.at + entry.units < 2 ^ 33
piece_ends plan entry piece small = (let to = piece.to in omega (arith, to, small))

pub piece_is_short : (plan : PlanView) → IsPlan plan → (entry : Entry) → IsPiece plan entry → entry.units ≤ plan.graph.hyper
piece_is_short plan is entry piece =
    (let w = short_window plan is entry.task.0 entry.job piece.task in let from = piece.from in let to = piece.to in omega (arith, w, from, to))

pub some_period : (plan : PlanView) → IsPlan plan → (i : ℕ) → i < length plan.graph.tasks → 1 ≤ (task_at plan.graph i).clock.period
some_period plan is i inside = (task_is plan.graph is.graph i inside).period.0

pub pieces_short : (plan : PlanView) → IsPlan plan → (entries : List Entry) → ArePieces plan entries →
    ((entry : Entry) → IsPiece plan entry → entry.units ≤ plan.graph.hyper) → AreShort plan.graph.hyper entries
pieces_short plan is entries pieces long k entry at = record {
  long = (is.graph.hyper, (let few = is.graph.few_ticks in omega (arith, few)));
  units = ((pieces k entry at).units, long entry (pieces k entry at));
}

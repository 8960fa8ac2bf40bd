-- Facts on which the making of a table rests.
use Rattle.prl_base.proofs.Standard.{◌≡◌, ◌+◌, ◌*◌, ◌/◌, ◌%◌, ◌<◌, ◌≤◌, ◌^◌, ◌&&◌, ℕ, suc, Bool, true, false, List, [], ◌∷◌, Option, Some, None, length, get_or, nat_le, nat_lt, inl, inr, refl, sym}
use Rattle.prl_base.proofs.Standard.{◌∙◌, ap, arith, IfSome, max, min, slice_get, mul-le-mul_left, cases_lt, nat_tests, div_ceil_times, get_or_from_slice_get, slice_get-get_or, slice_get_within}
use Rattle.prl_base.proofs.Standard.{IsNonDecreasingBy}
use Rattle.prl_base.specs.declared.numbers.TaskNo.{TaskNo}
use Rattle.prl_plan.specs.Vocabulary.{PlanView, IsPlan, constants_of, release_at}
use Rattle.prl_plan.specs.declared.graphs.Task.{Task}
use Rattle.prl_plan.specs.declared.horizons.Horizon.{Horizon}
use Rattle.prl_edf.specs.Vocabulary.{IsEdfRun, wcets_of}
use Rattle.prl_tables.specs.Vocabulary.{comes_after, AreOrdered, classes, IsGood}
use Rattle.prl_overlaps.specs.declared.entries.Entry.{Entry}
use Rattle.prl_tables.proofs.OrderLaws.{release_later}
use Rattle.prl_tables.proofs.Shifts.{split}
use Rattle.prl_table.specs.Vocabulary.{greatest_start, AreOfPlan, HasTicks}
use Rattle.prl_table.proofs.OneTable.{good_apart}

small_starts : (tasks : List Task) → ((i : ℕ) (task : Task) → slice_get tasks i ≡ Some task → task.clock.start < 2 ^ 31) → greatest_start tasks < 2 ^ 31
small_starts [] small = omega arith
small_starts (task ∷ tasks) small =
    (let here = small 0 task refl in let rest = small_starts tasks (λ i t at. small (suc i) t at) in omega (arith, here, rest))

pub starts_small : (plan : PlanView) → IsPlan plan → greatest_start plan.graph.tasks < 2 ^ 31
starts_small plan is = small_starts plan.graph.tasks (λ i task at. (is.graph.tasks i task at).start)

pub cut_small : (start hyper b : ℕ) → 1 ≤ hyper → hyper < 2 ^ 31 → start < 2 ^ 31 → b ≡ start / hyper + min 1 (start % hyper) → ((1 + b) * hyper < 2 ^ 33) × (b < 2 ^ 32)
cut_small start hyper b some few early is =
    (let up = (div_ceil_times start hyper some).1 in
    let times = ap (λ (x : ℕ). x * hyper) is in
    let whole : (1 + b) * hyper ≡ hyper + b * hyper = omega arith in
    let least = mul-le-mul_left b some in
    (omega (arith, up, times, whole, few, early), omega (arith, up, times, least, few, early)))

pub task_there : (plan : PlanView) (ticks : List (Option (TaskNo × ℕ))) (t : ℕ) (d : Option (TaskNo × ℕ)) → AreOfPlan plan ticks → t < length ticks →
    IfSome (get_or ticks t d) (λ job. job.0.0 < length plan.graph.tasks)
task_there plan ticks t d jobs inside = go (get_or ticks t d) (jobs t (get_or ticks t d) (slice_get-get_or ticks t d inside))
  where
    go : (tick : Option (TaskNo × ℕ)) → IfSome tick (λ job. (job.0.0 < length plan.graph.tasks) × (job.1 / classes plan.graph job.0.0 * plan.graph.hyper ≤ t)) →
        IfSome tick (λ job. job.0.0 < length plan.graph.tasks)
    go None is = is
    go (Some job) is = is.0

-- the ticks of a long run go to jobs of the plan, which are released by then
module _ (plan : PlanView) (is : IsPlan plan) (h : Horizon) (run : ℕ → Option (ℕ × ℕ)) (edf : IsEdfRun (constants_of plan h) (wcets_of plan) run) where
  pub are_of_plan : (ticks : List (Option (TaskNo × ℕ))) → HasTicks run ticks → AreOfPlan plan ticks
  are_of_plan ticks has t None at = tt
  are_of_plan ticks has t (Some job) at =
      (let ready = edf.timed.ready t job.0.0 job.1 (sym (has t (Some job) at)) in
      let inside = ready.job.task in
      let released = ready.released in
      let later = release_later plan is job.0.0 (job.1 % classes plan.graph job.0.0) (job.1 / classes plan.graph job.0.0) inside in
      let whole = ap (λ (x : ℕ). release_at plan job.0.0 x) (split plan is job.0.0 job.1) in
      (inside, omega (arith, released, later, whole)))

-- the entries of a good table in the order of time are in the order of a text
strict_good : (plan : PlanView) (entries : List Entry) → IsGood plan entries → IsNonDecreasingBy (λ (e : Entry). e.at) entries → (k : ℕ) (a b : Entry) →
    slice_get entries k ≡ Some a → slice_get entries (suc k) ≡ Some b → a.at < b.at
strict_good plan entries good sorted k a b at_a at_b =
    (let in_b = slice_get_within entries (suc k) b at_b in
    let up = sorted k (suc k) a (omega arith) in_b in
    let is_a = ap (λ (e : Entry). e.at) (get_or_from_slice_get entries k a a at_a) in
    let is_b = ap (λ (e : Entry). e.at) (get_or_from_slice_get entries (suc k) b a at_b) in
    elim (cases_lt a.at b.at) [
      | inl less ↦ less
      | inr not_less ↦ absurd
          (let one : k ≡ suc k = good_apart plan entries good k (suc k) a b at_a at_b (omega (arith, up, is_a, is_b, not_less)) in omega (arith, one))
    ])

after_less : (a b : Entry) → a.at < b.at → comes_after a b ≡ true
after_less a b less = grind (arith, nat_tests, less)

ordered_after : (last : Entry) (entries : List Entry) → ((k : ℕ) (a b : Entry) → slice_get (last ∷ entries) k ≡ Some a → slice_get (last ∷ entries) (suc k) ≡ Some b → a.at < b.at) →
    AreOrdered (Some last) entries
ordered_after last [] strict = tt
ordered_after last (entry ∷ entries) strict = (after_less last entry (strict 0 last entry refl refl), ordered_after entry entries (λ k a b x y. strict (suc k) a b x y))

pub ordered_good : (plan : PlanView) (entries : List Entry) → IsGood plan entries → IsNonDecreasingBy (λ (e : Entry). e.at) entries → AreOrdered None entries
ordered_good plan [] good sorted = tt
ordered_good plan (entry ∷ entries) good sorted = (refl, ordered_after entry entries (strict_good plan (entry ∷ entries) good sorted))

-- tests of ticks
lt_true : (a b : ℕ) → a < b → nat_lt a b ≡ true
lt_true a b less = grind (arith, nat_tests, less)

lt_false : (a b : ℕ) → b ≤ a → nat_lt a b ≡ false
lt_false a b not_less = grind (arith, nat_tests, not_less)

le_false : (a b : ℕ) → b < a → nat_le a b ≡ false
le_false a b less = grind (arith, nat_tests, less)

pub yes_test : (f u t : ℕ) → f ≤ u → u ≡ t → (nat_le f u && nat_lt u (t + 1)) ≡ true
yes_test f u t low same = grind (arith, nat_tests, low, same)

pub same_test : (f u t : ℕ) → (u ≡ t → ⊥) → (nat_le f u && nat_lt u t) ≡ (nat_le f u && nat_lt u (t + 1))
same_test f u t other = elim (cases_lt u t) [
  | inl less ↦ ap (λ (b : Bool). nat_le f u && b) (lt_true u t less ∙ sym (lt_true u (t + 1) (omega (arith, less))))
  | inr not_less ↦ ap (λ (b : Bool). nat_le f u && b) (lt_false u t not_less ∙ sym (lt_false u (t + 1) (omega (arith, not_less, other))))
]

pub end_test : (f u t to len : ℕ) → u < len → min to len ≤ t → f ≤ t → t ≤ max f (min to len) → (nat_le f u && nat_lt u t) ≡ (nat_le f u && nat_lt u to)
end_test f u t to len inside past low near = elim (cases_lt u f) [
  | inl before ↦
      ap (λ (b : Bool). b && nat_lt u t) (le_false f u before) ∙ sym (ap (λ (b : Bool). b && nat_lt u to) (le_false f u before))
  | inr from ↦ elim (cases_lt u to) [
    | inl less ↦ ap (λ (b : Bool). nat_le f u && b) (lt_true u t (omega (arith, inside, past, less)) ∙ sym (lt_true u to less))
    | inr not_less ↦ ap (λ (b : Bool). nat_le f u && b) (lt_false u t (omega (arith, near, not_less, from)) ∙ sym (lt_false u to not_less))
  ]
]

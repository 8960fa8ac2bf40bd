-- What is cut out of a feasible and steady run of a plan, in whatever order, is a good table.
use Rattle.prl_base.proofs.Standard.{◌≡◌, ◌+◌, ◌*◌, ◌<◌, ◌≤◌, ℕ, List, [], ◌∷◌, Option, Some, length, cond, refl, sym, ◌∙◌, ap, arith, pos, ◌≤ℤ◌, ◌↔◌, slice_get, div_ceil, swap, IsPermutation}
use Rattle.prl_base.proofs.Standard.{pos-*ℤ-pos, mul-le-mul_right, div_ceil_times, ints, sum_by-cons, IsPermutation-keeps, sum_by-IsPermutation, slice_get-get_or}
use Rattle.std.specs.List.{sum_by}
use Rattle.prl_plan.specs.Vocabulary.{encoded_deadline, constants_of, task_at, no_task, deadline_of, job_count, IsHorizonJob, PlanView, IsPlan, release_at}
use Rattle.prl_plan.specs.declared.horizons.Horizon.{Horizon}
use Rattle.prl_plan.proofs.DatePeriods.{jobs_are}
use Rattle.prl_plan.proofs.RoundPeriods.{task_is}
use Rattle.prl_edf.specs.Vocabulary.{IsEdfRun, MeetsAllWindows, wcets_of}
use Rattle.prl_tables.specs.Tables.{classes, is_of, units_of, IsGood}
use Rattle.prl_overlaps.specs.declared.entries.Entry.{Entry}
use Rattle.prl_table.specs.Made.{Run, cut_from, cut_to, goes, greatest_start, hypers_before, later, run_until, IsCut, IsCutFrom, IsRun}
use Rattle.prl_table.proofs.Cuts.{cut_is}
use Rattle.prl_table.proofs.Edf.{edf_is_run}
use Rattle.prl_table.proofs.MadeRuns.{earliest, start_below, steady, timed}
use Rattle.prl_table.proofs.MadeTables.{made_is_good}
use Rattle.prl_overlaps.proofs.Swaps.{at_place, one_place}

no_entry : Entry
no_entry = record { at = 0; task = record { 0 = 0 }; job = 0; units = 0 }

units_are_sum : (xs : List Entry) (i c : ℕ) → units_of xs i c ≡ sum_by (λ (e : Entry). cond (is_of i c e) e.units 0) xs
units_are_sum [] i c = refl
units_are_sum (x ∷ xs) i c =
    ap (λ (n : ℕ). cond (is_of i c x) x.units 0 + n) (units_are_sum xs i c) ∙ sym (sum_by-cons (λ (e : Entry). cond (is_of i c e) e.units 0) x xs)

module _ (plan : PlanView) (run : Run) (start bound : ℕ) where
  -- what a cut says of places
  record AreCut (entries : List Entry) : Type 0 where
    piece : (k : ℕ) (entry : Entry) → slice_get entries k ≡ Some entry → (back : ℕ) × IsCutFrom plan run start entry back
    once : (k l : ℕ) (one other : Entry) (x y t : ℕ) → slice_get entries k ≡ Some one → slice_get entries l ≡ Some other →
        one.at + x * plan.graph.hyper ≤ t → t < one.at + x * plan.graph.hyper + one.units → IsCutFrom plan run start one x →
        other.at + y * plan.graph.hyper ≤ t → t < other.at + y * plan.graph.hyper + other.units → IsCutFrom plan run start other y → k ≡ l

  swapped : (l : List Entry) (i j : ℕ) → i < length l → j < length l → AreCut l → AreCut (swap l i j)
  swapped l i j i_in j_in are = record {
    piece = λ k entry at. (let a = at_place no_entry l i j i_in j_in k in are.piece a.0 entry (sym a.1 ∙ at));
    once = λ k m one other x y t at_k at_m a b c d e f.
        (let p = at_place no_entry l i j i_in j_in k in
        let q = at_place no_entry l i j i_in j_in m in
        one_place no_entry l i j i_in j_in k m p.0 q.0 p.2 q.2 (are.once p.0 q.0 one other x y t (sym p.1 ∙ at_k) (sym q.1 ∙ at_m) a b c d e f));
  }

  pub cut_permuted : (xs ys : List Entry) → IsPermutation xs ys → IsCut plan run start bound xs → IsCut plan run start bound ys
  cut_permuted xs ys permuted cut =
      let are : AreCut ys = IsPermutation-keeps xs AreCut (record { piece = cut.piece; once = cut.once }) swapped ys permuted in
      record {
        piece = are.piece;
        once = are.once;
        units = λ i c i_in c_in. units_are_sum ys i c ∙ sum_by-IsPermutation (λ (e : Entry). cond (is_of i c e) e.units 0) xs ys permuted ∙ sym (units_are_sum xs i c) ∙ cut.units i c i_in c_in;
      }

-- each class is released before the hyperperiod that is cut out
late : (plan : PlanView) → IsPlan plan → (i c : ℕ) → i < length plan.graph.tasks → c < classes plan.graph i → release_at plan i c < cut_from plan
late plan is i c inside below =
    let task = task_is plan.graph is.graph i inside in
    let wcet = task.wcet.0 in
    let room = is.room.room i (pos c) inside in
    let before : encoded_deadline plan.graph plan.windows i (pos c) ≤ℤ deadline_of (task_at plan.graph i) (pos c) = is.dates.deadlines.deadlines.below i (pos c) inside in
    let due = task.due.1 in
    let times = mul-le-mul_right (task_at plan.graph i).clock.period (let g : c + 1 ≤ classes plan.graph i = omega (arith, below) in g) in
    let split : (c + 1) * (task_at plan.graph i).clock.period ≡ c * (task_at plan.graph i).clock.period + (task_at plan.graph i).clock.period = omega arith in
    let hyper = jobs_are plan.graph is.graph i inside in
    let product = pos-*ℤ-pos c (task_at plan.graph i).clock.period in
    let start = start_below plan.graph.tasks i (task_at plan.graph i) (slice_get-get_or plan.graph.tasks i no_task inside) in
    let some = is.graph.hyper in
    let up = (div_ceil_times (greatest_start plan.graph.tasks) plan.graph.hyper some).0 in
    let whole : hypers_before plan.graph * plan.graph.hyper ≡ plan.graph.hyper + div_ceil (greatest_start plan.graph.tasks) plan.graph.hyper * plan.graph.hyper = omega arith in
    omega (arith, ints, wcet, room, before, due, times, split, hyper, product, start, up, whole)

-- what is released in that hyperperiod is of the run's horizon
of_horizon : (plan : PlanView) → IsPlan plan → (until : ℕ) → until ≡ run_until plan → (i m : ℕ) → i < length plan.graph.tasks →
    release_at plan i m < cut_from plan + plan.graph.hyper → IsHorizonJob plan.graph until i m
of_horizon plan is until same i m inside early = record {
  task = inside;
  early =
      (let above = is.dates.releases.releases.above i (pos m) inside in
      let product = pos-*ℤ-pos m (task_at plan.graph i).clock.period in
      omega (arith, ints, above, early, same, product));
}

pub made_table_good : (plan : PlanView) → IsPlan plan → (h : Horizon) →
    ((i n : ℕ) → i < length plan.graph.tasks → 0 < (task_at plan.graph i).clock.period → IsHorizonJob plan.graph h.until i n ↔ (n < job_count (task_at plan.graph i) h.until)) →
    h.until ≡ run_until plan → (run : ℕ → Option (ℕ × ℕ)) →
    IsEdfRun (constants_of plan h) (wcets_of plan) run → MeetsAllWindows (constants_of plan h) (wcets_of plan) run →
    ((t : ℕ) → cut_from plan ≤ t → t < cut_from plan + plan.graph.hyper → later plan (run t) ≡ run (t + plan.graph.hyper)) →
    (entries : List Entry) → IsPermutation (cut_to plan run (cut_from plan) plan.graph.hyper) entries → IsGood plan entries
made_table_good plan is h counted until run edf met steady_run entries permuted =
    let is_run : IsRun plan h.until (goes run) = edf_is_run plan h.until (goes run) (timed plan is h run edf met counted) (earliest plan is h run edf met counted) in
    let many : cut_from plan + plan.graph.hyper ≤ (hypers_before plan.graph + 1) * plan.graph.hyper =
    (let e : (hypers_before plan.graph + 1) * plan.graph.hyper ≡ hypers_before plan.graph * plan.graph.hyper + plan.graph.hyper = omega arith in omega (arith, e)) in
    let cut = cut_is plan is h.until run is_run (cut_from plan) (hypers_before plan.graph + 1) many in
    made_is_good plan is h.until (goes run) is_run (cut_from plan) (hypers_before plan.graph + 1) (steady plan run (cut_from plan) steady_run)
    (late plan is) (of_horizon plan is h.until until) many entries
    (cut_permuted plan (goes run) (cut_from plan) (hypers_before plan.graph + 1) (cut_to plan run (cut_from plan) plan.graph.hyper) entries permuted cut)

-- Indices of a hyperperiod: each is that of one job of it, and jobs a hyperperiod apart have the same one.
use Rattle.prl_base.proofs.Standard.{◌≡◌, ◌+◌, ◌-◌, ◌*◌, ◌/◌, ◌%◌, ◌<◌, ◌≤◌, ℕ, zero, suc, List, [], ◌∷◌, length, map, inl, inr, refl, sym, ◌∙◌, ap, subst, arith, ℤ, pos, negsuc, ◌+ℤ◌, sum, take}
use Rattle.prl_base.proofs.Standard.{slice_index_or, mul-div_cancel, add-mul-mod_self_right, mod-eq_of_lt, cases_lt, mod_below, ints, sum_by-cons}
use Rattle.prl_plan.specs.Vocabulary.{place_in, task_at, release_of, no_task, IsWellFormed, jobs_in_hyperperiod}
use Rattle.prl_plan.specs.declared.graphs.Task.{Task}
use Rattle.prl_plan.specs.declared.graphs.TaskGraph.{TaskGraph}
use Rattle.prl_plan.proofs.RoundPeriods.{task_is, release_shift}
use Rattle.prl_dates.specs.Vocabulary.{jobs_of, jobs_before, index_of}

-- a number's place in a list that repeats in both directions comes again a list's length later
pub place_again : (len : ℕ) → 1 ≤ len → (m : ℤ) → place_in (m +ℤ pos len) len ≡ place_in m len
place_again len some (pos n) =
    ap (λ (k : ℕ). k % len) (let e : n + len ≡ n + 1 * len = omega arith in e) ∙ add-mul-mod_self_right n 1 len
place_again len some (negsuc n) =
    elim (cases_lt n len) [
      | inl below ↦
          (let at : negsuc n +ℤ pos len ≡ pos (len - 1 - n) = omega (arith, ints, below) in
          let m : (len - 1 - n) % len ≡ len - 1 - n = mod-eq_of_lt (let e : len - 1 - n < len = omega (arith, some) in e) in
          ap (λ (z : ℤ). place_in z len) at ∙ m ∙ ap (λ (k : ℕ). len - 1 - k) (sym (mod-eq_of_lt below)))
      | inr above ↦
          (let at : negsuc n +ℤ pos len ≡ negsuc (n - len) = omega (arith, ints, above) in
          let back : n - len + 1 * len ≡ n = omega (arith, above) in
          let m : n % len ≡ (n - len) % len = ap (λ (k : ℕ). k % len) (sym back) ∙ add-mul-mod_self_right (n - len) 1 len in
          ap (λ (z : ℤ). place_in z len) at ∙ ap (λ (k : ℕ). len - 1 - k) (sym m))
    ]

pub place_below : (len : ℕ) → 1 ≤ len → (m : ℤ) → place_in m len < len
place_below len some (pos n) = mod_below n len some
place_below len some (negsuc n) = omega (arith, some)

pub place_self : (len n : ℕ) → n < len → place_in (pos n) len ≡ n
place_self len n below = mod-eq_of_lt below

module _ (graph : TaskGraph) where
  -- the jobs before a task, and its own, come before those of a later one
  pub before_rises : (i j : ℕ) → i < j → jobs_before graph i + jobs_of graph i ≤ jobs_before graph j
  before_rises i zero below = absurd (omega arith)
  before_rises i (suc j) below =
      elim (cases_lt i j) [
        | inl less ↦ (let r = before_rises i j less in omega (arith, r))
        | inr same ↦ (let e : i ≡ j = omega arith in subst (λ (x : ℕ). jobs_before graph x + jobs_of graph x ≤ jobs_before graph j + jobs_of graph j) (sym e) (omega arith))
      ]

  -- an index is of one task, and of one place there
  pub one_index : (i j p q : ℕ) → p < jobs_of graph i → q < jobs_of graph j → jobs_before graph i + p ≡ jobs_before graph j + q → (i ≡ j) × (p ≡ q)
  one_index i j p q first second same =
      elim (cases_lt i j) [
        | inl less ↦ absurd (omega (arith, before_rises i j less, same, first))
        | inr above ↦
            elim (cases_lt j i) [
              | inl less ↦ absurd (omega (arith, before_rises j i less, same, second))
              | inr under ↦
                  (let e : i ≡ j = omega (arith, above, under) in
                  (e, omega (arith, ap (λ (x : ℕ). jobs_before graph x) e, same)))
            ]
      ]

  sum_more : (f : Task → ℕ) (tasks : List Task) (k : ℕ) → k < length tasks → sum (map f (take (suc k) tasks)) ≡ sum (map f (take k tasks)) + f (slice_index_or tasks k no_task)
  sum_more f [] k below = absurd (omega arith)
  sum_more f (t ∷ tasks) zero below = sum_by-cons (λ (x : ℕ). x) (f t) [] ∙ (let e : f t + 0 ≡ 0 + f t = omega arith in e)
  sum_more f (t ∷ tasks) (suc k) below =
      (let r = sum_more f tasks k (omega arith) in
      let first : sum (f t ∷ map f (take (suc k) tasks)) ≡ f t + sum (map f (take (suc k) tasks)) = sum_by-cons (λ (x : ℕ). x) (f t) (map f (take (suc k) tasks)) in
      first ∙ (let e : f t + sum (map f (take (suc k) tasks)) ≡ f t + sum (map f (take k tasks)) + f (slice_index_or tasks k no_task) = omega (arith, r) in e)
      ∙ ap (λ (x : ℕ). x + f (slice_index_or tasks k no_task)) (sym (sum_by-cons (λ (x : ℕ). x) (f t) (map f (take k tasks)))))

  before_is : (i : ℕ) → i ≤ length graph.tasks → jobs_before graph i ≡ sum (map (λ (t : Task). graph.hyper / t.clock.period) (take i graph.tasks))
  before_is zero within = refl
  before_is (suc i) within =
      omega (arith, before_is i (omega arith), sum_more (λ (t : Task). graph.hyper / t.clock.period) graph.tasks i (omega arith))

  take_whole : {A : Type 0} (xs : List A) → take (length xs) xs ≡ xs
  take_whole [] = refl
  take_whole (x ∷ xs) = ap (λ ys. x ∷ ys) (take_whole xs)

  -- before the end come all
  pub before_all : jobs_before graph (length graph.tasks) ≡ jobs_in_hyperperiod graph
  before_all =
      before_is (length graph.tasks) (omega arith)
      ∙ ap (λ (ts : List Task). sum (map (λ (t : Task). graph.hyper / t.clock.period) ts)) (take_whole graph.tasks)

  pub index_below : (i p : ℕ) → i < length graph.tasks → p < jobs_of graph i → jobs_before graph i + p < jobs_in_hyperperiod graph
  index_below i p inside below = omega (arith, before_rises i (length graph.tasks) inside, before_all)

  module _ (good : IsWellFormed graph) where
    pub jobs_are : (i : ℕ) → i < length graph.tasks → graph.hyper ≡ jobs_of graph i * (task_at graph i).clock.period
    jobs_are i inside =
        let is = task_is graph good i inside in
        let times : graph.hyper / (task_at graph i).clock.period ≡ is.divides.0 =
        ap (λ (x : ℕ). x / (task_at graph i).clock.period) is.divides.1 ∙ mul-div_cancel is.divides.0 is.period.0 in
        is.divides.1 ∙ ap (λ (x : ℕ). x * (task_at graph i).clock.period) (sym times)

    pub some_jobs : (i : ℕ) → i < length graph.tasks → 1 ≤ jobs_of graph i
    some_jobs i inside = go (jobs_of graph i) (jobs_are i inside)
      where
        go : (jobs : ℕ) → graph.hyper ≡ jobs * (task_at graph i).clock.period → 1 ≤ jobs
        go zero is = absurd (let z : 0 * (task_at graph i).clock.period ≡ 0 = omega arith in omega (arith, z, is, good.hyper))
        go (suc jobs) is = omega arith

    pub index_again : (i : ℕ) → i < length graph.tasks → (m : ℤ) → index_of graph i (m +ℤ pos (jobs_of graph i)) ≡ index_of graph i m
    index_again i inside m = ap (λ (k : ℕ). jobs_before graph i + k) (place_again (jobs_of graph i) (some_jobs i inside) m)

    pub release_again : (i : ℕ) → i < length graph.tasks → (m : ℤ) →
        release_of (task_at graph i) (m +ℤ pos (jobs_of graph i)) ≡ release_of (task_at graph i) m +ℤ pos graph.hyper
    release_again i inside m = release_shift graph good i (jobs_of graph i) (jobs_are i inside) m

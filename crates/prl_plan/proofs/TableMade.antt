-- The rows by date are the job table.
use Rattle.prl_base.proofs.Standard.{◌≡◌, ◌+◌, ◌*◌, ◌<◌, ◌≤◌, ◌⊎◌, ◌++◌, ℕ, zero, suc, List, [], ◌∷◌, length, Some, None, inl, inr, refl, sym, ◌∙◌, ap, subst, arith, cond, eqb, pos, ◌≤ℤ◌, slice_get}
use Rattle.prl_base.proofs.Standard.{cases_eq, cases_lt, ints}
use Rattle.std.proofs.Common.{eq-eqb, ne_eqb}
use Rattle.prl_plan.specs.Vocabulary.{Operand, task_at, deadline_of, job_count, IsHorizonJob, encoded_deadline, PlanView, IsPlan, release_at, TableRow, IsJobTable, ComesBefore, operands_over, row_of}
use Rattle.prl_plan.specs.Vocabulary.{jobs_at, rows_at, rows_before, job_table}
use Rattle.prl_plan.proofs.Counts.{IsHorizonJob_count, job_count_horizon}
use Rattle.prl_plan.proofs.PlanFacts.{task_fact, room_at, apart_at}

-- every element, any two in their order, and some element
abbrev Each : {A : Type 0} → (A → Type 0) → List A → Type 0
Each {A} P xs = (k : ℕ) (z : A) → slice_get xs k ≡ Some z → P z

abbrev Ordered : {A : Type 0} → (A → A → Type 0) → List A → Type 0
Ordered {A} R xs = (k l : ℕ) (x y : A) → k < l → slice_get xs k ≡ Some x → slice_get xs l ≡ Some y → R x y

abbrev Has : {A : Type 0} → List A → A → Type 0
Has xs x = (k : ℕ) × (slice_get xs k ≡ Some x)

nothing : {A : Type 0} (x : A) → None ≡ Some x → ⊥
nothing x e = cc

the_same : {A : Type 0} (x y : A) → Some x ≡ Some y → x ≡ y
the_same x y e = cc

-- where an element of two lists stands
split : {A : Type 0} (xs ys : List A) (k : ℕ) (z : A) → slice_get (xs ++ ys) k ≡ Some z →
    ((slice_get xs k ≡ Some z) × (k < length xs)) ⊎ ((j : ℕ) × (k ≡ length xs + j) × (slice_get ys j ≡ Some z))
split [] ys k z h = inr (k, omega arith, h)
split (x ∷ xs) ys zero z h = inl (h, omega arith)
split (x ∷ xs) ys (suc k) z h =
    elim (split xs ys k z h) [
      | inl here ↦ inl (here.0, omega (arith, here.1))
      | inr there ↦ inr (there.0, omega (arith, there.1), there.2)
    ]

ordered_two : {A : Type 0} (R : A → A → Type 0) (xs ys : List A) → Ordered R xs → Ordered R ys → ((x y : A) → Has xs x → Has ys y → R x y) → Ordered R (xs ++ ys)
ordered_two R xs ys first second cross k l x y before at_x at_y =
    elim (split xs ys k x at_x) [
      | inl here ↦
          (elim (split xs ys l y at_y) [
            | inl there ↦ first k l x y before here.0 there.0
            | inr there ↦ cross x y (k, here.0) (there.0, there.2)
          ])
      | inr here ↦
          (elim (split xs ys l y at_y) [
            | inl there ↦ absurd (omega (arith, before, there.1, here.1))
            | inr there ↦ second here.0 there.0 x y (omega (arith, before, here.1, there.1)) here.2 there.2
          ])
    ]

has_left : {A : Type 0} (xs ys : List A) (x : A) → Has xs x → Has (xs ++ ys) x
has_left [] ys x has = absurd (nothing x has.1)
has_left (z ∷ xs) ys x (zero, h) = (0, h)
has_left (z ∷ xs) ys x (suc k, h) = let r = has_left xs ys x (k, h) in (suc r.0, r.1)

has_right : {A : Type 0} (xs ys : List A) (x : A) → Has ys x → Has (xs ++ ys) x
has_right [] ys x has = has
has_right (z ∷ xs) ys x has = let r = has_right xs ys x has in (suc r.0, r.1)

only : {A : Type 0} (x z : A) (k : ℕ) → slice_get (x ∷ []) k ≡ Some z → z ≡ x
only x z zero h = sym (the_same x z h)
only x z (suc k) h = absurd (nothing z h)

first_only : {A : Type 0} (x z : A) (k : ℕ) → slice_get (x ∷ []) k ≡ Some z → k ≡ 0
first_only x z zero h = refl
first_only x z (suc k) h = absurd (nothing z h)

module _ (plan : PlanView) where
  -- the row of job n, where it is released at t
  abbrev single : ℕ → ℕ → ℕ → List TableRow
  single i t n = cond (eqb (release_at plan i n) t) (row_of plan i n ∷ []) []

  in_single : (i t n k : ℕ) (z : TableRow) → slice_get (single i t n) k ≡ Some z → (z ≡ row_of plan i n) × (release_at plan i n ≡ t)
  in_single i t n k z h =
      elim (cases_eq (release_at plan i n) t) [
        | inl same ↦ (
          only (row_of plan i n) z k (subst (λ b. slice_get (cond b (row_of plan i n ∷ []) []) k ≡ Some z) (eq-eqb (release_at plan i n) t same) h),
          same,
        )
        | inr other ↦ absurd (nothing z (subst (λ b. slice_get (cond b (row_of plan i n ∷ []) []) k ≡ Some z) (ne_eqb (release_at plan i n) t other) h))
      ]

  at_first : (i t n k : ℕ) (z : TableRow) → slice_get (single i t n) k ≡ Some z → k ≡ 0
  at_first i t n k z h =
      elim (cases_eq (release_at plan i n) t) [
        | inl same ↦ first_only (row_of plan i n) z k (subst (λ b. slice_get (cond b (row_of plan i n ∷ []) []) k ≡ Some z) (eq-eqb (release_at plan i n) t same) h)
        | inr other ↦ absurd (nothing z (subst (λ b. slice_get (cond b (row_of plan i n ∷ []) []) k ≡ Some z) (ne_eqb (release_at plan i n) t other) h))
      ]

  single_has : (i t n : ℕ) → release_at plan i n ≡ t → Has (single i t n) (row_of plan i n)
  single_has i t n same = subst (λ b. Has (cond b (row_of plan i n ∷ []) []) (row_of plan i n)) (sym (eq-eqb (release_at plan i n) t same)) (0, refl)

  -- the row is of one of the first n jobs of task i, and released at t
  record IsJobAt (i t n : ℕ) (row : TableRow) : Type 0 where
    job : ℕ
    below : job < n
    is : row ≡ row_of plan i job
    date : release_at plan i job ≡ t

  jobs_each : (i t n : ℕ) → Each (IsJobAt i t n) (jobs_at plan i t n)
  jobs_each i t zero k z h = absurd (nothing z h)
  jobs_each i t (suc n) k z h =
      elim (split (jobs_at plan i t n) (single i t n) k z h) [
        | inl here ↦
            (let is = jobs_each i t n k z here.0 in
            record { job = is.job; below = omega (arith, is.below); is = is.is; date = is.date })
        | inr there ↦
            (let is = in_single i t n there.0 z there.2 in
            record { job = n; below = omega arith; is = is.0; date = is.1 })
      ]

  has_job : (i t n count : ℕ) → n < count → release_at plan i n ≡ t → Has (jobs_at plan i t count) (row_of plan i n)
  has_job i t n zero below date = absurd (omega (arith, below))
  has_job i t n (suc c) below date =
      elim (cases_lt n c) [
        | inl earlier ↦ has_left (jobs_at plan i t c) (single i t c) (row_of plan i n) (has_job i t n c earlier date)
        | inr last ↦
            (let at : n ≡ c = omega (arith, below, last) in
            has_right (jobs_at plan i t c) (single i t c) (row_of plan i n)
            (subst (λ x. Has (single i t x) (row_of plan i n)) at (single_has i t n date)))
      ]

  -- the row is of a horizon job of one of the first i tasks, and released at t
  record IsRowAt (until t i : ℕ) (row : TableRow) : Type 0 where
    below : row.task < i
    job : IsHorizonJob plan.graph until row.task row.job
    operands : row.operands ≡ operands_over plan.graph.edges row.task row.job
    date : release_at plan row.task row.job ≡ t

  has_row : (until t i n upto : ℕ) → i < upto → n < job_count (task_at plan.graph i) until → release_at plan i n ≡ t →
      Has (rows_at plan until t upto) (row_of plan i n)
  has_row until t i n zero below job date = absurd (omega (arith, below))
  has_row until t i n (suc j) below job date =
      elim (cases_lt i j) [
        | inl earlier ↦
            has_left (rows_at plan until t j) (jobs_at plan j t (job_count (task_at plan.graph j) until)) (row_of plan i n) (has_row until t i n j earlier job date)
        | inr last ↦
            (let at : i ≡ j = omega (arith, below, last) in
            has_right (rows_at plan until t j) (jobs_at plan j t (job_count (task_at plan.graph j) until)) (row_of plan i n)
            (subst (λ x. Has (jobs_at plan x t (job_count (task_at plan.graph x) until)) (row_of plan i n)) at
            (has_job i t n (job_count (task_at plan.graph i) until) job date)))
      ]

  has_before : (until i n t : ℕ) → i < length plan.graph.tasks → n < job_count (task_at plan.graph i) until → release_at plan i n < t →
      Has (rows_before plan until t) (row_of plan i n)
  has_before until i n zero inside job early = absurd (omega (arith, early))
  has_before until i n (suc t) inside job early =
      elim (cases_lt (release_at plan i n) t) [
        | inl earlier ↦
            has_left (rows_before plan until t) (rows_at plan until t (length plan.graph.tasks)) (row_of plan i n) (has_before until i n t inside job earlier)
        | inr last ↦
            (let at : release_at plan i n ≡ t = omega (arith, early, last) in
            has_right (rows_before plan until t) (rows_at plan until t (length plan.graph.tasks)) (row_of plan i n)
            (has_row until t i n (length plan.graph.tasks) inside job at))
      ]

  -- the row is of a horizon job that is released before t
  record IsRowBefore (until t : ℕ) (row : TableRow) : Type 0 where
    job : IsHorizonJob plan.graph until row.task row.job
    operands : row.operands ≡ operands_over plan.graph.edges row.task row.job
    date : release_at plan row.task row.job < t

  module _ (is : IsPlan plan) where
    -- a later job of a task is released later
    rising_releases : (i m n : ℕ) → i < length plan.graph.tasks → m < n → release_at plan i m < release_at plan i n
    rising_releases i m n inside before =
        omega (arith, apart_at plan is i m n inside before, room_at plan is i m inside, (task_fact plan is i inside).wcet.0)

    jobs_ordered : (i t n : ℕ) → i < length plan.graph.tasks → Ordered (ComesBefore plan) (jobs_at plan i t n)
    jobs_ordered i t zero inside = λ k l x y before at_x at_y. absurd (nothing x at_x)
    jobs_ordered i t (suc n) inside =
        ordered_two (ComesBefore plan) (jobs_at plan i t n) (single i t n) (jobs_ordered i t n inside)
        (λ k l x y before at_x at_y. (absurd (omega (arith, before, at_first i t n k x at_x, at_first i t n l y at_y))))
        (λ x y in_x in_y.
        (let first = jobs_each i t n in_x.0 x in_x.1 in
        absurd (omega (arith, rising_releases i first.job n inside first.below, first.date, (in_single i t n in_y.0 y in_y.1).1))))

    rows_each : (until t i : ℕ) → i ≤ length plan.graph.tasks → Each (IsRowAt until t i) (rows_at plan until t i)
    rows_each until t zero within k z h = absurd (nothing z h)
    rows_each until t (suc i) within k z h =
        elim (split (rows_at plan until t i) (jobs_at plan i t (job_count (task_at plan.graph i) until)) k z h) [
          | inl here ↦
              (let row = rows_each until t i (omega (arith, within)) k z here.0 in
              record { below = omega (arith, row.below); job = row.job; operands = row.operands; date = row.date })
          | inr there ↦
              (let at = jobs_each i t (job_count (task_at plan.graph i) until) there.0 z there.2 in
              let inside : i < length plan.graph.tasks = omega (arith, within) in
              subst (IsRowAt until t (suc i)) (sym at.is)
              (record {
                below = omega arith;
                job = IsHorizonJob_count plan.graph until i at.job inside (task_fact plan is i inside).period.0 at.below;
                operands = refl;
                date = at.date;
              }))
        ]

    rows_ordered : (until t i : ℕ) → i ≤ length plan.graph.tasks → Ordered (ComesBefore plan) (rows_at plan until t i)
    rows_ordered until t zero within = λ k l x y before at_x at_y. absurd (nothing x at_x)
    rows_ordered until t (suc i) within =
        let count : ℕ = job_count (task_at plan.graph i) until in
        ordered_two (ComesBefore plan) (rows_at plan until t i) (jobs_at plan i t count) (rows_ordered until t i (omega (arith, within)))
        (jobs_ordered i t count (omega (arith, within)))
        (λ x y in_x in_y.
        (let row = rows_each until t i (omega (arith, within)) in_x.0 x in_x.1 in
        let at = jobs_each i t count in_y.0 y in_y.1 in
        let j : y.task ≡ i = ap (λ (r : TableRow). r.task) at.is in
        inr (omega (arith, row.date, ap (λ (r : TableRow). release_at plan r.task r.job) at.is ∙ at.date), omega (arith, row.below, j))))

    before_each : (until t : ℕ) → Each (IsRowBefore until t) (rows_before plan until t)
    before_each until zero k z h = absurd (nothing z h)
    before_each until (suc t) k z h =
        elim (split (rows_before plan until t) (rows_at plan until t (length plan.graph.tasks)) k z h) [
          | inl here ↦
              (let row = before_each until t k z here.0 in
              record { job = row.job; operands = row.operands; date = (omega (arith, row.date)) })
          | inr there ↦
              (let row = rows_each until t (length plan.graph.tasks) (omega arith) there.0 z there.2 in
              record { job = row.job; operands = row.operands; date = (omega (arith, row.date)) })
        ]

    before_ordered : (until t : ℕ) → Ordered (ComesBefore plan) (rows_before plan until t)
    before_ordered until zero = λ k l x y before at_x at_y. absurd (nothing x at_x)
    before_ordered until (suc t) =
        ordered_two (ComesBefore plan) (rows_before plan until t) (rows_at plan until t (length plan.graph.tasks)) (before_ordered until t)
        (rows_ordered until t (length plan.graph.tasks) (omega arith))
        (λ x y in_x in_y.
        (inl (omega (arith, (before_each until t in_x.0 x in_x.1).date, (rows_each until t (length plan.graph.tasks) (omega arith) in_y.0 y in_y.1).date))))

    -- a period is at most a hyperperiod
    period_within : (i : ℕ) → i < length plan.graph.tasks → (task_at plan.graph i).clock.period ≤ plan.graph.hyper
    period_within i inside = go (task_fact plan is i inside).divides.0 (task_fact plan is i inside).divides.1
      where
        go : (times : ℕ) → plan.graph.hyper ≡ times * (task_at plan.graph i).clock.period → (task_at plan.graph i).clock.period ≤ plan.graph.hyper
        go zero e = absurd (let some : 1 ≤ plan.graph.hyper = is.graph.hyper in omega (arith, e, some))
        go (suc times) e =
            let more : suc times * (task_at plan.graph i).clock.period ≡ times * (task_at plan.graph i).clock.period + (task_at plan.graph i).clock.period = omega arith in
            omega (arith, e, more)

    -- no horizon job is released so late
    released_within : (until i n : ℕ) → IsHorizonJob plan.graph until i n → release_at plan i n < until + plan.graph.hyper
    released_within until i n job =
        let below : encoded_deadline plan.graph plan.windows i (pos n) ≤ℤ deadline_of (task_at plan.graph i) (pos n) =
        is.dates.deadlines.deadlines.below i (pos n) job.task in
        omega (arith, ints, below, job.early, room_at plan is i n job.task, (task_fact plan is i job.task).due.1, period_within i job.task)

    pub table_made : (until : ℕ) → IsJobTable plan until (job_table plan until)
    table_made until = record {
      jobs = λ k row at. (before_each until (until + plan.graph.hyper) k row at).job;
      operands = λ k row at. (before_each until (until + plan.graph.hyper) k row at).operands;
      all = λ i n job.
          (let has = has_before until i n (until + plan.graph.hyper) job.task
          (job_count_horizon plan.graph until i n (task_fact plan is i job.task).period.0 job) (released_within until i n job) in
          (has.0, row_of plan i n, has.1, refl, refl));
      order = before_ordered until (until + plan.graph.hyper);
    }

-- lists in a strict order that have the same elements are one
one_list : {A : Type 0} (R : A → A → Type 0) → ((x y : A) → R x y → R y x → ⊥) → (xs ys : List A) → Ordered R xs → Ordered R ys →
    ((x : A) → Has xs x → Has ys x) → ((y : A) → Has ys y → Has xs y) → xs ≡ ys
one_list R strict [] [] first second there back = refl
one_list R strict [] (y ∷ ys) first second there back = absurd (let h = back y (0, refl) in nothing y h.1)
one_list R strict (x ∷ xs) [] first second there back = absurd (let h = there x (0, refl) in nothing x h.1)
one_list {A} R strict (x ∷ xs) (y ∷ ys) first second there back =
    let same : x ≡ y = heads (there x (0, refl)) (back y (0, refl)) in
    ap (λ z. z ∷ xs) same
    ∙ ap (λ zs. y ∷ zs)
    (one_list R strict xs ys (λ k l a b before at_a at_b. first (suc k) (suc l) a b (omega (arith, before)) at_a at_b)
    (λ k l a b before at_a at_b. second (suc k) (suc l) a b (omega (arith, before)) at_a at_b)
    (λ z has. after_head z has (there z (suc has.0, has.1)) same)
    (λ z has. before_head z has (back z (suc has.0, has.1)) same))
  where
    heads : Has (y ∷ ys) x → Has (x ∷ xs) y → x ≡ y
    heads (zero, h) other = sym (the_same y x h)
    heads (suc k, h) (zero, g) = the_same x y g
    heads (suc k, h) (suc l, g) = absurd (strict x y (first 0 (suc l) x y (omega arith) refl g) (second 0 (suc k) y x (omega arith) refl h))

    after_head : (z : A) → Has xs z → Has (y ∷ ys) z → x ≡ y → Has ys z
    after_head z has (zero, h) same =
        absurd (let r : R x z = first 0 (suc has.0) x z (omega arith) refl has.1 in
        let q : R x x = subst (λ w. R x w) (sym (the_same y z h) ∙ sym same) r in strict x x q q)
    after_head z has (suc k, h) same = (k, h)

    before_head : (z : A) → Has ys z → Has (x ∷ xs) z → x ≡ y → Has xs z
    before_head z has (zero, h) same =
        absurd (let r : R y z = second 0 (suc has.0) y z (omega arith) refl has.1 in
        let q : R y y = subst (λ w. R y w) (sym (the_same x z h) ∙ same) r in strict y y q q)
    before_head z has (suc k, h) same = (k, h)

not_both : (plan : PlanView) (x y : TableRow) → ComesBefore plan x y → ComesBefore plan y x → ⊥
not_both plan x y (inl a) (inl b) = omega (arith, a, b)
not_both plan x y (inl a) (inr b) = omega (arith, a, b.0)
not_both plan x y (inr a) (inl b) = omega (arith, b, a.0)
not_both plan x y (inr a) (inr b) = omega (arith, a.1, b.1)

-- a row is known by its task and its job
abbrev made_of : ℕ → ℕ → List Operand → TableRow
made_of i n operands = record { task = i; job = n; operands = operands }

row_is : (plan : PlanView) (a b : TableRow) → a.operands ≡ operands_over plan.graph.edges a.task a.job → b.operands ≡ operands_over plan.graph.edges b.task b.job →
    a.task ≡ b.task → a.job ≡ b.job → a ≡ b
row_is plan a b is_a is_b task job =
    ap (made_of a.task a.job) is_a
    ∙ ap (λ i. made_of i a.job (operands_over plan.graph.edges i a.job)) task
    ∙ ap (λ n. made_of b.task n (operands_over plan.graph.edges b.task n)) job
    ∙ ap (made_of b.task b.job) (sym is_b)

has_all : (plan : PlanView) (until : ℕ) (a b : List TableRow) → IsJobTable plan until a → IsJobTable plan until b → (row : TableRow) → Has a row → Has b row
has_all plan until a b made other row has =
    let found = other.all row.task row.job (made.jobs has.0 row has.1) in
    (found.0, found.2 ∙ ap (λ (r : TableRow). Some r) (row_is plan found.1 row (other.operands found.0 found.1 found.2) (made.operands has.0 row has.1) found.3 found.4))

-- there is one table
pub one_table : (plan : PlanView) (until : ℕ) (a b : List TableRow) → IsJobTable plan until a → IsJobTable plan until b → a ≡ b
one_table plan until a b made other =
    one_list (ComesBefore plan) (not_both plan) a b made.order other.order (has_all plan until a b made other) (has_all plan until b a other made)

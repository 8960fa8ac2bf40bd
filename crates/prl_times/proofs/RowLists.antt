-- Lists of rows, one more at their end.
use Rattle.prl_base.proofs.Standard.{◌≡◌, ◌+◌, ◌++◌, ◌∙◌, ◌&&◌, ℕ, suc, Bool, true, false, List, [], ◌∷◌, Option, Some, None, Result, Ok, Err, IfOk, MatchOption, OnOk, codes, false≢true, is_some, nat_tests, refl, sym, length, map, cond, nat_lt, ap, subst, arith, append_assoc, map-append}
use Rattle.prl_base.specs.declared.numbers.TaskNo.{TaskNo}
use Rattle.prl_plan.specs.declared.graphs.TaskGraph.{TaskGraph}
use Rattle.prl_plan.specs.Vocabulary.{PlanView, is_actuator, is_sensor, task_at}
use Rattle.prl_steady.specs.Shares.{sum_within, told_until}
use Rattle.prl_times.specs.Rows.{Subject, about, age, ages_at, each_to, is_asked, sensors_at, task, tasks_to, share_within, withins_to}
use Rattle.prl_io.specs.Pairs.{value_of}
use Rattle.prl_times.specs.Options.{has}
use Rattle.prl_times.specs.Told.{AreLasting, IsEverAsked}
use Rattle.prl_timetext.specs.declared.rows.Row.{Row}

-- the sensors with one more
pub sensors_more : (graph : TaskGraph) (only : Option TaskNo) (a s : ℕ) (base old new : List Subject) → old ≡ base ++ sensors_at graph only a s →
    new ≡ old ++ cond (is_sensor (task_at graph s).kind && is_asked only s) (age s a ∷ []) [] → new ≡ base ++ sensors_at graph only a (s + 1)
sensors_more graph only a s base old new before more =
    let next : suc s ≡ s + 1 = omega arith in
    subst (λ (n : ℕ). new ≡ base ++ sensors_at graph only a n) next
    (more ∙ ap (λ (xs : List Subject). xs ++ cond (is_sensor (task_at graph s).kind && is_asked only s) (age s a ∷ []) []) before
    ∙ append_assoc base (sensors_at graph only a s) (cond (is_sensor (task_at graph s).kind && is_asked only s) (age s a ∷ []) []))

-- the actuators with one more
pub ages_more : (graph : TaskGraph) (sensor actuator : Option TaskNo) (a : ℕ) (base old new : List Subject) → old ≡ base ++ ages_at graph sensor actuator a →
    new ≡ old ++ cond (is_actuator (task_at graph a).kind && is_asked actuator a) (sensors_at graph sensor a (length graph.tasks)) [] → new ≡ base ++ ages_at graph sensor actuator (a + 1)
ages_more graph sensor actuator a base old new before more =
    let next : suc a ≡ a + 1 = omega arith in
    subst (λ (n : ℕ). new ≡ base ++ ages_at graph sensor actuator n) next
    (more ∙ ap (λ (xs : List Subject). xs ++ cond (is_actuator (task_at graph a).kind && is_asked actuator a) (sensors_at graph sensor a (length graph.tasks)) []) before
    ∙ append_assoc base (ages_at graph sensor actuator a) (cond (is_actuator (task_at graph a).kind && is_asked actuator a) (sensors_at graph sensor a (length graph.tasks)) []))

-- a row more
pub about_push : (old : List Row) (row : Row) → map about (old ++ row ∷ []) ≡ map about old ++ about row ∷ []
about_push old row = map-append about old (row ∷ [])

-- what holds twice of an outcome
pub both : {X E : Type 0} (r : Result X E) (P Q S : X → Type 0) → IfOk r P → IfOk r Q → ((x : X) → P x → Q x → S x) → IfOk r S
both (Ok x) P Q S p q f = f x p q
both (Err e) P Q S p q f = tt

-- the tasks with one more
pub tasks_more : (i : ℕ) (base old new : List Subject) → old ≡ base ++ tasks_to i → new ≡ old ++ task i ∷ [] → new ≡ base ++ tasks_to (i + 1)
tasks_more i base old new before more =
    let next : suc i ≡ i + 1 = omega arith in
    subst (λ (n : ℕ). new ≡ base ++ tasks_to n) next
    (more ∙ ap (λ (xs : List Subject). xs ++ task i ∷ []) before ∙ append_assoc base (tasks_to i) (task i ∷ []))

-- the tasks, by what is told of each, with one more
pub each_more : (subject : ℕ → Subject) (i : ℕ) (base old new : List Subject) → old ≡ base ++ each_to subject i → new ≡ old ++ subject i ∷ [] → new ≡ base ++ each_to subject (i + 1)
each_more subject i base old new before more =
    let next : suc i ≡ i + 1 = omega arith in
    subst (λ (n : ℕ). new ≡ base ++ each_to subject n) next
    (more ∙ ap (λ (xs : List Subject). xs ++ subject i ∷ []) before ∙ append_assoc base (each_to subject i) (subject i ∷ []))

-- the tasks that have jobs in an interval, with one more
pub withins_more : (plan : PlanView) (from to i : ℕ) (base old new : List Subject) → old ≡ base ++ withins_to plan from to i →
    new ≡ old ++ cond (nat_lt 0 (sum_within plan (λ i n. 1) (told_until plan) from to i)) (share_within from to i ∷ []) [] → new ≡ base ++ withins_to plan from to (i + 1)
withins_more plan from to i base old new before more =
    let next : suc i ≡ i + 1 = omega arith in
    subst (λ (n : ℕ). new ≡ base ++ withins_to plan from to n) next
    (more ∙ ap (λ (xs : List Subject). xs ++ cond (nat_lt 0 (sum_within plan (λ i n. 1) (told_until plan) from to i)) (share_within from to i ∷ []) []) before
    ∙ append_assoc base (withins_to plan from to i) (cond (nat_lt 0 (sum_within plan (λ i n. 1) (told_until plan) from to i)) (share_within from to i ∷ []) []))

-- a row more, and rows behind it
pub about_more : (old new : List Row) (row : Row) (last more : List Subject) → new ≡ old ++ row ∷ [] → last ≡ map about new ++ more → last ≡ map about old ++ about row ∷ more
about_more old new row last more pushed behind =
    behind ∙ ap (λ (xs : List Row). map about xs ++ more) pushed ∙ ap (λ (xs : List Subject). xs ++ more) (about_push old row) ∙ append_assoc (map about old) (about row ∷ []) more

-- what holds of an outcome, and so something weaker
pub ok_weaker : {X E : Type 0} (r : Result X E) (P Q : Type 0) → OnOk r P → (P → Q) → OnOk r Q
ok_weaker (Ok x) P Q p f = f p
ok_weaker (Err e) P Q p f = tt

-- a task with jobs in an interval, and one without
pub some_jobs : (jobs sum : ℕ) (s : Subject) → jobs ≡ sum → (jobs ≡ 0 → ⊥) → s ∷ [] ≡ cond (nat_lt 0 sum) (s ∷ []) []
some_jobs jobs sum s same some = go (nat_lt 0 sum) (grind (arith, nat_tests))
  where
    go : (b : Bool) → b ≡ true → s ∷ [] ≡ cond b (s ∷ []) []
    go true is = refl
    go false is = absurd (false≢true is)

pub no_jobs : (jobs sum : ℕ) (s : Subject) → jobs ≡ sum → jobs ≡ 0 → ◌≡◌ {A = List Subject} [] (cond (nat_lt 0 sum) (s ∷ []) [])
no_jobs jobs sum s same none = go (nat_lt 0 sum) (grind (arith, nat_tests))
  where
    go : (b : Bool) → b ≡ false → ◌≡◌ {A = List Subject} [] (cond b (s ∷ []) [])
    go false is = refl
    go true is = absurd (false≢true (sym is))

-- what the words ask for ever
pub ever_asked : (plan : PlanView) (words : List (List ℕ)) (ever : List Subject) → has (codes "--for-ever") words ≡ true → AreLasting plan ever → IsEverAsked plan words ever
ever_asked plan words ever asks are = go (value_of (codes "--for-ever") words) asks
  where
    go : (o : Option (List ℕ)) → is_some o ≡ true → MatchOption o (ever ≡ []) (λ word. AreLasting plan ever)
    go None is = absurd (false≢true is)
    go (Some word) is = are

pub ever_not_asked : (plan : PlanView) (words : List (List ℕ)) → has (codes "--for-ever") words ≡ false → IsEverAsked plan words []
ever_not_asked plan words asks = go (value_of (codes "--for-ever") words) asks
  where
    go : (o : Option (List ℕ)) → is_some o ≡ false → MatchOption o (◌≡◌ {A = List Subject} [] []) (λ word. AreLasting plan [])
    go None is = refl
    go (Some word) is = absurd (false≢true (sym is))

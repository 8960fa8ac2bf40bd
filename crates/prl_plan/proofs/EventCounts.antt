-- A free list of events from the opening is no longer than the horizon has actions and ticks.
use Rattle.prl_base.proofs.Standard.{◌≡◌, ◌≢◌, ◌+◌, ◌<◌, ◌≤◌, ◌++◌, ℕ, zero, suc, List, [], ◌∷◌, length, length-append, length-set, get_or, set, refl, sym, ◌∙◌, ap, arith, inl, inr, cases_lt}
use Rattle.prl_base.proofs.Standard.{cases_eq, get_or-set_at, get_or-set_other, get_or-replicate, length-replicate}
use Rattle.prl_plan.specs.Vocabulary.{Action, Event, Horizon, IsJob, Placement, sum_below, constants_on, IsHorizon, PlanView, actions_of, reads_of, writes_of, HasJob, IsFree, KeepsFree, RunConstants}
use Rattle.prl_plan.specs.Vocabulary.{ExecState, opening, action_at, next_action, after_action, after_event, after_events}
use Rattle.prl_plan.specs.declared.events.Action.TheVariants as actions
use Rattle.prl_plan.specs.declared.events.Event.TheVariants as events
use Rattle.prl_plan.proofs.PartsOfSums.{sum_most, sum_grows}

-- the end of a horizon job is the last of its actions
abbrev pub EndsLast : RunConstants → Type 0
EndsLast c = (i n : ℕ) → IsJob c i n → (last : ℕ) × (length (c.actions i n) ≡ last + 1) × (action_at c i n last ≡ actions.End)

-- how many actions the first n jobs of task i have
abbrev pub actions_before : RunConstants → ℕ → ℕ → ℕ
actions_before c i n = sum_below (λ m. length (c.actions i m)) n

-- how many actions all horizon jobs have, with the ticks up to the end
abbrev pub all_events : RunConstants → ℕ
all_events c = sum_below (λ i. actions_before c i (c.jobs i)) c.tasks + c.end

-- at least so many events lead to a state
abbrev pub events_in : RunConstants → ExecState → ℕ
events_in c s = sum_below (λ i. actions_before c i (get_or s.ended i 0) + get_or s.places i 0) c.tasks + s.now

-- what stands after a list
get_after : (xs : List Action) (a : Action) → get_or (xs ++ a ∷ []) (length xs) actions.End ≡ a
get_after [] a = refl
get_after (x ∷ xs) a = get_after xs a

pub plan_ends_last : (plan : PlanView) (on : Placement) (h : Horizon) → EndsLast (constants_on plan on h)
plan_ends_last plan on h i n job =
    let front : List Action = reads_of plan i n 0 plan.graph.edges ++ writes_of plan i n 0 plan.graph.edges in
    let same : actions_of plan i n ≡ front ++ actions.End ∷ [] = refl in (
      length front,
      (ap length same ∙ length-append front (actions.End ∷ [])),
      (ap (λ (xs : List Action). get_or xs (length front) actions.End) same ∙ get_after front actions.End),
    )

sum_none : (f : ℕ → ℕ) (n : ℕ) → ((k : ℕ) → k < n → f k ≡ 0) → sum_below f n ≡ 0
sum_none f zero each = refl
sum_none f (suc n) each = omega (arith, sum_none f n (λ k below. each k (omega (arith, below))), each n (omega arith))

sum_more : (f : ℕ → ℕ) (a b : ℕ) → a ≤ b → sum_below f a ≤ sum_below f b
sum_more f a zero most = (let same : a ≡ 0 = omega (arith, most) in omega (arith, ap (sum_below f) same))
sum_more f a (suc b) most = elim (cases_eq a (suc b)) [
  | inl same ↦ omega (arith, ap (sum_below f) same)
  | inr other ↦ omega (arith, sum_more f a b (omega (arith, most, other)))
]

module _ (c : RunConstants) (ends : EndsLast c) where
  -- no task is past its horizon jobs, nor past the end of its job
  record Fits (s : ExecState) : Type 0 where
    ended : length s.ended ≡ c.tasks
    places : length s.places ≡ c.tasks
    within : s.now ≤ c.end
    counted : (i : ℕ) → i < c.tasks → get_or s.ended i 0 ≤ c.jobs i
    inside : (i : ℕ) → i < c.tasks → get_or s.ended i 0 < c.jobs i → get_or s.places i 0 < length (c.actions i (get_or s.ended i 0))
    over : (i : ℕ) → i < c.tasks → get_or s.ended i 0 ≡ c.jobs i → get_or s.places i 0 ≡ 0

  long : (i n : ℕ) → IsJob c i n → 0 < length (c.actions i n)
  long i n job = omega (arith, (ends i n job).1)

  zero_at : (i : ℕ) → i < c.tasks → get_or (opening c).ended i 0 ≡ 0
  zero_at i inside = get_or-replicate c.tasks i 0 0 inside

  opening_fits : Fits (opening c)
  opening_fits = record {
    ended = length-replicate c.tasks 0;
    places = length-replicate c.tasks 0;
    within = omega arith;
    counted = λ i inside. omega (arith, zero_at i inside);
    inside = λ i inside some.
        (let job : IsJob c i (get_or (opening c).ended i 0) = record { task = inside; job = some } in
        omega (arith, zero_at i inside, long i (get_or (opening c).ended i 0) job));
    over = λ i inside all. zero_at i inside;
  }

  opening_has_none : events_in c (opening c) ≡ 0
  opening_has_none =
      let each : (i : ℕ) → i < c.tasks → actions_before c i (get_or (opening c).ended i 0) + get_or (opening c).ended i 0 ≡ 0 = λ i inside.
      (let e = zero_at i inside in
      let b = ap (actions_before c i) e in omega (arith, e, b)) in
      omega (arith, sum_none (λ i. actions_before c i (get_or (opening c).ended i 0) + get_or (opening c).ended i 0) c.tasks each)

  module _ (s : ExecState) (fits : Fits s) (i : ℕ) (has : HasJob c s i) where
    in_places : i < length s.places
    in_places = omega (arith, fits.places, has.task)

    in_ended : i < length s.ended
    in_ended = omega (arith, fits.ended, has.task)

    its_job : IsJob c i (get_or s.ended i 0)
    its_job = record { task = has.task; job = has.job }

    -- an action that is no end is not the last one
    more : (next_action c s i ≡ actions.End → ⊥) → get_or s.places i 0 + 1 < length (c.actions i (get_or s.ended i 0))
    more none =
        let last = ends i (get_or s.ended i 0) its_job in
        elim (cases_eq (get_or s.places i 0) last.0) [
          | inl same ↦ absurd (none (ap (action_at c i (get_or s.ended i 0)) same ∙ last.2))
          | inr other ↦ omega (arith, fits.inside i has.task has.job, last.1, other)
        ]

    module _ (t : ExecState) (now : t.now ≡ s.now) (ended : t.ended ≡ s.ended) (places : t.places ≡ set s.places i (get_or s.places i 0 + 1))
        (none : next_action c s i ≡ actions.End → ⊥) where
      same_ended : (j : ℕ) → get_or t.ended j 0 ≡ get_or s.ended j 0
      same_ended j = ap (λ (xs : List ℕ). get_or xs j 0) ended

      here_place : get_or t.places i 0 ≡ get_or s.places i 0 + 1
      here_place = ap (λ (xs : List ℕ). get_or xs i 0) places ∙ get_or-set_at s.places i i (get_or s.places i 0 + 1) 0 refl in_places

      other_place : (j : ℕ) → j ≢ i → get_or t.places j 0 ≡ get_or s.places j 0
      other_place j ne = ap (λ (xs : List ℕ). get_or xs j 0) places ∙ get_or-set_other s.places i j (get_or s.places i 0 + 1) 0 ne

      moved_fits : Fits t
      moved_fits = record {
        ended = ap length ended ∙ fits.ended;
        places = ap length places ∙ (length-set s.places i (get_or s.places i 0 + 1) ∙ fits.places);
        within = (let w = fits.within in omega (arith, w, now));
        counted = λ j inside. (let e = same_ended j in let k = fits.counted j inside in omega (arith, e, k));
        inside = λ j inside some. (let e = same_ended j in
            let below : get_or s.ended j 0 < c.jobs j = omega (arith, e, some) in
            let long = ap (λ (n : ℕ). length (c.actions j n)) e in
            elim (cases_eq j i) [
              | inl same ↦
                  (let p : get_or t.places j 0 ≡ get_or s.places i 0 + 1 = ap (λ (k : ℕ). get_or t.places k 0) same ∙ here_place in
                  omega (arith, more none, p, long ∙ ap (λ (k : ℕ). length (c.actions k (get_or s.ended k 0))) same))
              | inr other ↦ (let p = other_place j other in omega (arith, p, fits.inside j inside below, long))
            ]);
        over = λ j inside all. (let e = same_ended j in elim (cases_eq j i) [
          | inl same ↦ absurd (omega (arith, has.job, e, all, ap (λ (k : ℕ). get_or s.ended k 0) same, ap c.jobs same))
          | inr other ↦ other_place j other ∙ fits.over j inside (sym e ∙ all)
        ]);
      }

      moved_more : events_in c s + 1 ≤ events_in c t
      moved_more =
          let sums : sum_below (λ j. actions_before c j (get_or s.ended j 0) + get_or s.places j 0) c.tasks
          < sum_below (λ j. actions_before c j (get_or t.ended j 0) + get_or t.places j 0) c.tasks =
          sum_grows (λ j. actions_before c j (get_or s.ended j 0) + get_or s.places j 0) (λ j. actions_before c j (get_or t.ended j 0) + get_or t.places j 0) i c.tasks has.task
          (let e = ap (actions_before c i) (same_ended i) in let p = here_place in omega (arith, e, p))
          (λ j ne. let e = ap (actions_before c j) (same_ended j) in let p = other_place j ne in omega (arith, e, p)) in
          omega (arith, sums, now)

    abbrev after_end : ExecState
    after_end = after_action s i actions.End

    end_ended : get_or after_end.ended i 0 ≡ get_or s.ended i 0 + 1
    end_ended = get_or-set_at s.ended i i (get_or s.ended i 0 + 1) 0 refl in_ended

    end_place : get_or after_end.places i 0 ≡ 0
    end_place = get_or-set_at s.places i i 0 0 refl in_places

    else_ended : (j : ℕ) → j ≢ i → get_or after_end.ended j 0 ≡ get_or s.ended j 0
    else_ended j ne = get_or-set_other s.ended i j (get_or s.ended i 0 + 1) 0 ne

    else_place : (j : ℕ) → j ≢ i → get_or after_end.places j 0 ≡ get_or s.places j 0
    else_place j ne = get_or-set_other s.places i j 0 0 ne

    end_fits : Fits after_end
    end_fits = record {
      ended = length-set s.ended i (get_or s.ended i 0 + 1) ∙ fits.ended;
      places = length-set s.places i 0 ∙ fits.places;
      within = fits.within;
      counted = λ j inside. (elim (cases_eq j i) [
        | inl same ↦ omega (arith, has.job, ap (λ (k : ℕ). get_or after_end.ended k 0) same ∙ end_ended, ap c.jobs same)
        | inr other ↦ omega (arith, else_ended j other, fits.counted j inside)
      ]);
      inside = λ j inside some. (elim (cases_eq j i) [
        | inl same ↦ (let p : get_or after_end.places j 0 ≡ 0 = ap (λ (k : ℕ). get_or after_end.places k 0) same ∙ end_place in
            omega (arith, p, long j (get_or after_end.ended j 0) (record { task = inside; job = some })))
        | inr other ↦ (let e = else_ended j other in let p = else_place j other in
            omega (arith, p, fits.inside j inside (omega (arith, e, some)), ap (λ (n : ℕ). length (c.actions j n)) e))
      ]);
      over = λ j inside all. (elim (cases_eq j i) [
        | inl same ↦ ap (λ (k : ℕ). get_or after_end.places k 0) same ∙ end_place
        | inr other ↦ else_place j other ∙ fits.over j inside (sym (else_ended j other) ∙ all)
      ]);
    }

    end_more : events_in c s + 1 ≤ events_in c after_end
    end_more =
        let sums : sum_below (λ j. actions_before c j (get_or s.ended j 0) + get_or s.places j 0) c.tasks
        < sum_below (λ j. actions_before c j (get_or after_end.ended j 0) + get_or after_end.places j 0) c.tasks =
        sum_grows (λ j. actions_before c j (get_or s.ended j 0) + get_or s.places j 0) (λ j. actions_before c j (get_or after_end.ended j 0) + get_or after_end.places j 0) i c.tasks has.task
        (let e : actions_before c i (get_or after_end.ended i 0) ≡ actions_before c i (suc (get_or s.ended i 0)) =
        ap (actions_before c i) (let u = end_ended in let v : get_or after_end.ended i 0 ≡ suc (get_or s.ended i 0) = omega (arith, u) in v) in
        let p = end_place in omega (arith, e, p, fits.inside i has.task has.job))
        (λ j ne. let e = ap (actions_before c j) (else_ended j ne) in let p = else_place j ne in omega (arith, e, p)) in
        omega (arith, sums)

    act_counts : (action : Action) → next_action c s i ≡ action → Fits (after_action s i action) × (events_in c s + 1 ≤ events_in c (after_action s i action))
    act_counts (actions.ReadConst port value) is =
        let none : next_action c s i ≡ actions.End → ⊥ = λ e. let f = sym is ∙ e in cc f in
        (moved_fits (after_action s i (actions.ReadConst port value)) refl refl refl none, moved_more (after_action s i (actions.ReadConst port value)) refl refl refl none)
    act_counts (actions.Read port e m slot) is =
        let none : next_action c s i ≡ actions.End → ⊥ = λ e. cc (sym is ∙ e) in
        (moved_fits (after_action s i (actions.Read port e m slot)) refl refl refl none, moved_more (after_action s i (actions.Read port e m slot)) refl refl refl none)
    act_counts (actions.Write e m slot) is =
        let none : next_action c s i ≡ actions.End → ⊥ = λ e. cc (sym is ∙ e) in
        (moved_fits (after_action s i (actions.Write e m slot)) refl refl refl none, moved_more (after_action s i (actions.Write e m slot)) refl refl refl none)
    act_counts actions.End is = (end_fits, end_more)

  tick_fits : (s : ExecState) → Fits s → s.now + 1 ≤ c.end → Fits (after_event c s events.Tick)
  tick_fits s fits may = record { ended = fits.ended; places = fits.places; within = may; counted = fits.counted; inside = fits.inside; over = fits.over }

  event_counts : (s : ExecState) → Fits s → (event : Event) → KeepsFree c s event → Fits (after_event c s event) × (events_in c s + 1 ≤ events_in c (after_event c s event))
  event_counts s fits events.Tick may = (tick_fits s fits may, (omega arith))
  event_counts s fits (events.Act task) keeps = act_counts s fits task.0 keeps.0 (next_action c s task.0) refl

  list_counts : (list : List Event) (s : ExecState) → Fits s → IsFree c s list → Fits (after_events c s list) × (events_in c s + length list ≤ events_in c (after_events c s list))
  list_counts [] s fits free = (fits, (omega arith))
  list_counts (event ∷ list) s fits free =
      let one = event_counts s fits event free.0 in
      let rest = list_counts list (after_event c s event) one.0 free.1 in
      (rest.0, omega (arith, one.1, rest.1))

  fits_within : (s : ExecState) → Fits s → events_in c s ≤ all_events c
  fits_within s fits =
      let each : (i : ℕ) → i < c.tasks → actions_before c i (get_or s.ended i 0) + get_or s.places i 0 ≤ actions_before c i (c.jobs i) = λ i inside.
      (elim (cases_lt (get_or s.ended i 0) (c.jobs i)) [
        | inl some ↦
            omega (arith, fits.inside i inside some, sum_more (λ m. length (c.actions i m)) (suc (get_or s.ended i 0)) (c.jobs i) some)
        | inr none ↦
            (let all : get_or s.ended i 0 ≡ c.jobs i = omega (arith, fits.counted i inside, none) in
            omega (arith, fits.over i inside all, ap (actions_before c i) all))
      ]) in
      omega (arith, sum_most (λ i. actions_before c i (get_or s.ended i 0) + get_or s.places i 0) (λ i. actions_before c i (c.jobs i)) c.tasks each, fits.within)

  -- a free list from the opening has no more events than the horizon
  pub list_is_short : (list : List Event) → IsFree c (opening c) list → length list ≤ all_events c
  list_is_short list free =
      let all = list_counts list (opening c) opening_fits free in
      omega (arith, all.1, fits_within (after_events c (opening c) list) all.0, opening_has_none)

pub plan_counts_all : (plan : PlanView) (on : Placement) (h : Horizon) → IsHorizon plan h → all_events (constants_on plan on h) ≡ h.events
plan_counts_all plan on h is = sym is.events

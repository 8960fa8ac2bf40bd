-- The event that comes next: the choice of its task, and that it is legal.
use Rattle.prl_base.proofs.Standard.{◌≡◌, ◌+◌, ◌-◌, ◌<◌, ◌≤◌, ◌⊎◌, ℕ, zero, suc, Option, Some, None, refl, sym, ap, subst, arith, inl, inr, cases_lt, cases_eq}
use Rattle.prl_plan.specs.Vocabulary.{HasPlanFacts, IsJob, first_unfinished, IsUnfinished, HasJob, ActsReleased, KeepsLegal, IsComplete, IsFirstUnfinished, RunConstants, ExecState}
use Rattle.prl_plan.specs.declared.events.Event.{Event}
use Rattle.prl_plan.specs.declared.events.Event.TheVariants as events
use Rattle.prl_track.specs.Vocabulary.{First, Chosen, IsEarliest, IsIdle, IsNext, TrackView, run_of, IsFirst, IsChosen, NoneReleased, IsChoice, IsInTime, IsNotEarlier}
use Rattle.prl_track.specs.code.Tests.{IsDueFirst, Overtakes}

-- what a track's fields say of its view: the facts of its plan, and its tick
pub record IsKnown (v : TrackView) (now : ℕ) : Type 0 where
  pub facts : HasPlanFacts (run_of v)
  pub clock : now ≡ v.state.now

pub known : (track v : TrackView) → track ≡ v → HasPlanFacts (run_of track) → IsKnown v track.state.now
known track v seen facts = record { facts = subst (λ (w : TrackView). HasPlanFacts (run_of w)) seen facts; clock = ap (λ (w : TrackView). w.state.now) seen }

module _ (c : RunConstants) (facts : HasPlanFacts c) (s : ExecState) where
  -- an unfinished job has no earlier dates than the first one of its task
  rises : (j n : ℕ) → HasJob c s j → IsUnfinished c s j n →
      (c.release j (first_unfinished s j) ≤ c.release j n) × (c.deadline j (first_unfinished s j) ≤ c.deadline j n)
  rises j n has left = elim (cases_eq n (first_unfinished s j)) [
    | inl same ↦
        ((omega (arith, ap (λ (k : ℕ). c.release j k) same), omega (arith, ap (λ (k : ℕ). c.deadline j k) same)))
    | inr other ↦
        (let job : IsJob c j n = record { task = left.task; job = left.job } in
        let apart = facts.apart j (first_unfinished s j) n job (omega (arith, other, left.unfinished)) in
        (omega (arith, apart, facts.window j (first_unfinished s j) (record { task = has.task; job = has.job })), omega (arith, apart, facts.window j n job)))
  ]

  module _ (j : ℕ) where
    -- a fact of the jobs of one task more
    one_more : (P : ℕ → ℕ → Type 0) → ((k n : ℕ) → k < j → P k n) → ((n : ℕ) → P j n) → (k n : ℕ) → k < j + 1 → P k n
    one_more P all here k n below = elim (cases_lt k j) [
      | inl earlier ↦ all k n earlier
      | inr past ↦ (let same : j ≡ k = omega (arith, below, past) in subst (λ (x : ℕ). P x n) same (here n))
    ]

    chosen_stays : (chosen : Chosen) → IsChosen c s j chosen → ((n : ℕ) → IsUnfinished c s j n → c.release j n ≤ s.now → chosen.deadline ≤ c.deadline j n) →
        IsChosen c s (j + 1) chosen
    chosen_stays chosen is later = record {
      below = omega (arith, is.below);
      job = is.job;
      released = is.released;
      deadline = is.deadline;
      first = λ k n below left at. one_more (λ k n. IsUnfinished c s k n → c.release k n ≤ s.now → chosen.deadline ≤ c.deadline k n)
          (λ k n earlier. is.first k n earlier) later k n below left at;
      lowest = is.lowest;
    }

    none_stays : NoneReleased c s j → ((n : ℕ) → IsUnfinished c s j n → s.now < c.release j n) → NoneReleased c s (j + 1)
    none_stays none later k n below left =
        one_more (λ k n. IsUnfinished c s k n → s.now < c.release k n) (λ k n earlier. none k n earlier) later k n below left

    -- a task that has no released unfinished job changes nothing
    choice_stays : (best : Option Chosen) → IsChoice c s j best → ((n : ℕ) → IsUnfinished c s j n → s.now < c.release j n) → IsChoice c s (j + 1) best
    choice_stays None is later = none_stays is later
    choice_stays (Some chosen) is later = chosen_stays chosen is (λ n left at. absurd (omega (arith, later n left, at)))

    pub choice_without : (best : Option Chosen) → IsChoice c s j best → c.jobs j ≤ first_unfinished s j → IsChoice c s (j + 1) best
    choice_without best is done = choice_stays best is (λ n left. absurd (omega (arith, left.job, left.unfinished, done)))

    module _ (first : First) (is_first : IsFirst c s j first) where
      pub no_earlier : (n : ℕ) → IsUnfinished c s j n → (first.release ≤ c.release j n) × (first.deadline ≤ c.deadline j n)
      no_earlier n left =
          (let r = rises j n is_first.left left in
          (omega (arith, r.0, is_first.release), omega (arith, r.1, is_first.deadline)))

      pub choice_unreleased : (best : Option Chosen) → IsChoice c s j best → s.now < first.release → IsChoice c s (j + 1) best
      choice_unreleased best is early = choice_stays best is (λ n left. omega (arith, (no_earlier n left).0, early))

      pub choice_kept : (chosen : Chosen) → IsChosen c s j chosen → chosen.deadline ≤ first.deadline → IsChosen c s (j + 1) chosen
      choice_kept chosen is due = chosen_stays chosen is (λ n left at. omega (arith, (no_earlier n left).1, due))

      module _ (released : first.release ≤ s.now) (next : Chosen) (task : next.task.0 ≡ j) (deadline : next.deadline ≡ first.deadline) where
        next_is : ((k n : ℕ) → k < j → IsUnfinished c s k n → c.release k n ≤ s.now → first.deadline < c.deadline k n) → IsChosen c s (j + 1) next
        next_is earlier = record {
          below = omega (arith, task);
          job = subst (λ (k : ℕ). HasJob c s k) (sym task) is_first.left;
          released = subst (λ (k : ℕ). ActsReleased c s k) (sym task) (omega (arith, is_first.release, released));
          deadline = omega (arith, is_first.deadline, ap (λ (k : ℕ). c.deadline k (first_unfinished s k)) task, deadline);
          first = λ k n below left at. one_more (λ k n. IsUnfinished c s k n → c.release k n ≤ s.now → next.deadline ≤ c.deadline k n)
              (λ k n below left at. omega (arith, earlier k n below left at, deadline))
              (λ n left at. omega (arith, (no_earlier n left).1, deadline)) k n below left at;
          lowest = λ k below has at. omega (arith, earlier k (first_unfinished s k) (omega (arith, below, task)) has at, deadline);
        }

        pub choice_first : NoneReleased c s j → IsChosen c s (j + 1) next
        choice_first none = next_is (λ k n below left at. absurd (omega (arith, none k n below left, at)))

        pub choice_earlier : (chosen : Chosen) → IsChosen c s j chosen → first.deadline < chosen.deadline → IsChosen c s (j + 1) next
        choice_earlier chosen is due = next_is (λ k n below left at. omega (arith, is.first k n below left at, due))

  pub chosen_is_earliest : (chosen : Chosen) → IsChosen c s c.tasks chosen → IsEarliest c s chosen.task.0
  chosen_is_earliest chosen is = record {
    job = is.job;
    released = is.released;
    first = λ j n left at. omega (arith, is.first j n left.task left at, is.deadline);
    lowest = λ j below has at. omega (arith, is.lowest j below has at, is.deadline);
  }

  pub none_is_idle : NoneReleased c s c.tasks → (i n : ℕ) → IsUnfinished c s i n → IsIdle c s
  none_is_idle none i n left = record { left = (i, n, left); none = λ j m unfinished. none j m unfinished.task unfinished }

  -- the event that comes next is legal
  pub next_keeps_legal : (event : Event) → IsNext c s (Some event) → KeepsLegal c s event
  next_keeps_legal (events.Act task) is = (is.job, is.released, λ j n together left released. is.first j n left released)
  next_keeps_legal events.Tick is = record {
    within = omega (arith, due is.left.0 is.left.1 is.left.2, facts.within is.left.0 is.left.1 (record { task = is.left.2.task; job = is.left.2.job }));
    ended = due;
  }
    where
      due : (j n : ℕ) → IsUnfinished c s j n → s.now + 1 < c.deadline j n
      due j n left =
          omega (arith, is.none j n left, facts.window j n (record { task = left.task; job = left.job }))

module _ (c : RunConstants) (facts : HasPlanFacts c) (s : ExecState) where
  -- the first unfinished job of a task that has one
  abbrev first_job : ℕ → First
  first_job j = record {
    job = first_unfinished s j;
    release = c.release j (first_unfinished s j);
    deadline = c.deadline j (first_unfinished s j);
  }

  is_first_job : (j : ℕ) → HasJob c s j → IsFirst c s j (first_job j)
  is_first_job j has = record { job = refl; left = has; release = refl; deadline = refl }

  -- the choice with one task more
  choice_more : (j : ℕ) → j < c.tasks → (best : Option Chosen) → IsChoice c s j best → (more : Option Chosen) × IsChoice c s (j + 1) more
  choice_more j inside best is = elim (cases_lt (first_unfinished s j) (c.jobs j)) [
    | inr done ↦ (best, choice_without c facts s j best is done)
    | inl below ↦
        (let has : HasJob c s j = record { task = inside; job = below; unfinished = omega arith } in
        elim (cases_lt s.now (c.release j (first_unfinished s j))) [
          | inl early ↦ (best, choice_unreleased c facts s j (first_job j) (is_first_job j has) best is early)
          | inr released ↦ at_release j has released best is
        ])
  ]
    where
      at_release : (j : ℕ) → HasJob c s j → c.release j (first_unfinished s j) ≤ s.now → (best : Option Chosen) → IsChoice c s j best →
          (more : Option Chosen) × IsChoice c s (j + 1) more
      at_release j has released None is = (
        Some (record { task = record { 0 = j }; deadline = c.deadline j (first_unfinished s j) }),
        choice_first c facts s j (first_job j) (is_first_job j has) released (record { task = record { 0 = j }; deadline = c.deadline j (first_unfinished s j) }) refl refl is,
      )
      at_release j has released (Some chosen) is = elim (cases_lt (c.deadline j (first_unfinished s j)) chosen.deadline) [
        | inl earlier ↦ (
          Some (record { task = record { 0 = j }; deadline = c.deadline j (first_unfinished s j) }),
          choice_earlier c facts s j (first_job j) (is_first_job j has) released (record { task = record { 0 = j }; deadline = c.deadline j (first_unfinished s j) }) refl refl chosen is earlier,
        )
        | inr kept ↦ (Some chosen, choice_kept c facts s j (first_job j) (is_first_job j has) chosen is kept)
      ]

  choice_up_to : (bound : ℕ) → bound ≤ c.tasks → (best : Option Chosen) × IsChoice c s bound best
  choice_up_to zero within = (None, λ j n below left. absurd (omega (arith, below)))
  choice_up_to (suc j) within =
      let before = choice_up_to j (omega (arith, within)) in
      let e : j + 1 ≡ suc j = omega arith in
      subst (λ (k : ℕ). (best : Option Chosen) × IsChoice c s k best) e (choice_more j (omega (arith, within)) before.0 before.1)

  -- in each state some event comes next, or none does since all is done
  pub some_next : (IsComplete c s ⊎ ((i : ℕ) × (n : ℕ) × IsFirstUnfinished c s i n)) → (next : Option Event) × IsNext c s next
  some_next decided = by_choice (choice_up_to c.tasks (omega arith)).0 (choice_up_to c.tasks (omega arith)).1
    where
      by_choice : (best : Option Chosen) → IsChoice c s c.tasks best → (next : Option Event) × IsNext c s next
      by_choice (Some chosen) is = (Some (events.Act chosen.task), chosen_is_earliest c facts s chosen is)
      by_choice None is = elim decided [
        | inl complete ↦ (None, complete)
        | inr first ↦
            ((Some events.Tick, none_is_idle c facts s is first.0 first.1 (record { task = first.2.task; job = first.2.job; unfinished = omega (arith, first.2.first) })))
      ]

-- what the first unfinished job of a task tells of all of them
module _ (c : RunConstants) (facts : HasPlanFacts c) (s : ExecState) (j : ℕ) where
  module _ (done : c.jobs j ≤ first_unfinished s j) where
    pub none_earlier : (processor deadline : ℕ) → IsNotEarlier c s j processor deadline
    none_earlier processor deadline n together left at = absurd (omega (arith, left.job, left.unfinished, done))

    pub none_due : IsInTime c s j
    none_due n left = absurd (omega (arith, left.job, left.unfinished, done))

  module _ (first : First) (is : IsFirst c s j first) (now : ℕ) (clock : now ≡ s.now) where
    pub has_deadline : 1 ≤ first.deadline
    has_deadline =
        let some_ = facts.positive j (first_unfinished s j) (record { task = is.left.task; job = is.left.job }) in
        omega (arith, is.deadline, some_)

    pub overtakes : (processor deadline : ℕ) → c.processor j ≡ processor → first.release ≤ now → first.deadline < deadline → Overtakes c s j processor deadline
    overtakes processor deadline here released before = (here, is.left, omega (arith, is.release, released, clock), omega (arith, is.deadline, before))

    pub stays_after : (processor deadline : ℕ) → (first.release ≤ now → deadline ≤ first.deadline) → IsNotEarlier c s j processor deadline
    stays_after processor deadline later n together left at =
        let early = no_earlier c facts s j first is n left in
        omega (arith, early.1, later (omega (arith, early.0, clock, at)))

    pub due : first.deadline - 1 ≤ now → IsDueFirst c s j
    due by_then = (is.left, omega (arith, is.deadline, by_then, clock))

    pub in_time : now < first.deadline - 1 → IsInTime c s j
    in_time later n left = omega (arith, (no_earlier c facts s j first is n left).1, later, clock)

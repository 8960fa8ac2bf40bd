-- Each event keeps the rules or is the first to break one, and in each state all jobs have ended or one is the first that
-- has not.
use Rattle.prl_base.proofs.Standard.{◌≡◌, ◌<◌, ◌≤◌, ◌+◌, ◌⊎◌, ℕ, slice_index, refl, inl, inr, arith, cases_eq, cases_lt}
use Rattle.prl_plan.specs.Vocabulary.{Event, Rule, RunConstants, ExecState, first_unfinished, IsUnfinished, HasJob, ActsFirst, KeepsLegal, IsComplete, IsOvertaken, FirstBroken, IsFirstUnfinished}
use Rattle.prl_plan.specs.declared.events.Event.TheVariants as events
use Rattle.prl_plan.specs.declared.events.Rule.TheVariants as rules
use Rattle.prl_plan.proofs.Searches.{all_or_least}

-- of the unfinished horizon jobs all have a property, or one has the other
module _ (c : RunConstants) (s : ExecState) (P Q : ℕ → ℕ → Type 0) (decides : (j n : ℕ) → P j n ⊎ Q j n) where
  abbrev Holds : ℕ → ℕ → Type 0
  Holds j n = IsUnfinished c s j n → P j n

  abbrev Fails : ℕ → ℕ → Type 0
  Fails j n = IsUnfinished c s j n × Q j n

  unfinished_or_not : (j n : ℕ) → IsUnfinished c s j n ⊎ (IsUnfinished c s j n → ⊥)
  unfinished_or_not j n = elim (cases_lt j c.tasks) [
    | inr past ↦ inr (λ h. let lt : j < c.tasks = h.task in omega arith)
    | inl task ↦ elim (cases_lt n (c.jobs j)) [
      | inr past ↦ inr (λ h. let lt : n < c.jobs j = h.job in omega arith)
      | inl job ↦ elim (cases_lt n (slice_index s.ended j)) [
        | inl ended ↦ inr (λ h. let le : slice_index s.ended j ≤ n = h.unfinished in omega arith)
        | inr left ↦ inl (record { task = task; job = job; unfinished = left })
      ]
    ]
  ]

  one_job : (j n : ℕ) → Holds j n ⊎ Fails j n
  one_job j n = elim (unfinished_or_not j n) [
    | inr ended ↦ inl (λ h. absurd (ended h))
    | inl left ↦ elim (decides j n) [ inl here ↦ inl (λ h. here) | inr other ↦ inr (left, other) ]
  ]

  abbrev TaskHolds : ℕ → Type 0
  TaskHolds j = (n : ℕ) → Holds j n

  abbrev TaskFails : ℕ → Type 0
  TaskFails j = (n : ℕ) × Fails j n

  one_task : (j : ℕ) → TaskHolds j ⊎ TaskFails j
  one_task j = elim (all_or_least (Holds j) (Fails j) (one_job j) (c.jobs j)) [
    | inl all ↦ inl (λ n h. all n h.job h)
    | inr least ↦ inr (least.0, least.1.is)
  ]

  all_jobs : ((j n : ℕ) → Holds j n) ⊎ ((j : ℕ) × (n : ℕ) × Fails j n)
  all_jobs = elim (all_or_least TaskHolds TaskFails one_task c.tasks) [
    | inl all ↦ inl (λ j n h. all j h.task n h)
    | inr least ↦ inr (least.0, least.1.is.0, least.1.is.1)
  ]

-- what keeps a job from being due before the one that acts
abbrev IsLater : RunConstants → ExecState → ℕ → ℕ → ℕ → Type 0
IsLater c s i j n = c.processor j ≡ c.processor i → c.release j n ≤ s.now → c.deadline i (first_unfinished s i) ≤ c.deadline j n

abbrev IsEarlier : RunConstants → ExecState → ℕ → ℕ → ℕ → Type 0
IsEarlier c s i j n = (c.processor j ≡ c.processor i) × (c.release j n ≤ s.now) × (c.deadline j n < c.deadline i (first_unfinished s i))

later_or_earlier : (c : RunConstants) (s : ExecState) (i j n : ℕ) → IsLater c s i j n ⊎ IsEarlier c s i j n
later_or_earlier c s i j n = elim (cases_eq (c.processor j) (c.processor i)) [
  | inr apart ↦ inl (λ together released. absurd (apart together))
  | inl together ↦ elim (cases_lt s.now (c.release j n)) [
    | inl early ↦ inl (λ _ released. absurd (omega arith))
    | inr released ↦ elim (cases_lt (c.deadline j n) (c.deadline i (first_unfinished s i))) [
      | inl before ↦ inr (together, released, before)
      | inr after ↦ inl (λ _ _. after)
    ]
  ]
]

first_or_overtaken : (c : RunConstants) (s : ExecState) (i : ℕ) → ActsFirst c s i ⊎ IsOvertaken c s i
first_or_overtaken c s i = elim (all_jobs c s (IsLater c s i) (IsEarlier c s i) (later_or_earlier c s i)) [
  | inl all ↦ inl (λ j n together left. all j n left together)
  | inr other ↦ inr (other.0, other.1, other.2.1.0, other.2.0, other.2.1.1, other.2.1.2)
]

has_job_or_not : (c : RunConstants) (s : ExecState) (i : ℕ) → HasJob c s i ⊎ ((c.tasks ≤ i) ⊎ (c.jobs i ≤ first_unfinished s i))
has_job_or_not c s i = elim (cases_lt i c.tasks) [
  | inr past ↦ inr (inl past)
  | inl task ↦ elim (cases_lt (first_unfinished s i) (c.jobs i)) [
    | inr past ↦ inr (inr past)
    | inl job ↦ inl (record { task = task; job = job; unfinished = omega arith })
  ]
]

-- an event keeps the rules, or there is a first one that it breaks
abbrev pub IsDecided : RunConstants → ExecState → Event → Type 0
IsDecided c s event = KeepsLegal c s event ⊎ ((rule : Rule) × FirstBroken c s event rule)

act_decided : (c : RunConstants) (s : ExecState) (task : _) → IsDecided c s (events.Act task)
act_decided c s task = elim (has_job_or_not c s task.0) [
  | inr none ↦ inr (rules.L2, none)
  | inl has ↦ elim (cases_lt s.now (c.release task.0 (first_unfinished s task.0))) [
    | inl early ↦ inr (rules.L1, (has, early))
    | inr released ↦ elim (first_or_overtaken c s task.0) [
      | inl first ↦ inl (has, released, first)
      | inr overtaken ↦ inr (rules.L3, (has, released, overtaken))
    ]
  ]
]

tick_decided : (c : RunConstants) (s : ExecState) → IsDecided c s events.Tick
tick_decided c s = elim (cases_lt s.now c.end) [
  | inr past ↦ inr (rules.L4, inl past)
  | inl within ↦ elim (all_jobs c s (λ j n. s.now + 1 < c.deadline j n) (λ j n. c.deadline j n ≤ s.now + 1) (λ j n. cases_lt (s.now + 1) (c.deadline j n))) [
    | inl all ↦ inl (record { within = omega arith; ended = all })
    | inr other ↦ inr (rules.L4, inr (other.0, other.1, other.2.0, other.2.1))
  ]
]

pub event_decided : (c : RunConstants) (s : ExecState) (event : Event) → IsDecided c s event
event_decided c s events.Tick = tick_decided c s
event_decided c s (events.Act task) = act_decided c s task

-- all horizon jobs have ended, or one is the first unfinished one of the lowest task that has one
abbrev Ended : RunConstants → ExecState → ℕ → Type 0
Ended c s j = c.jobs j ≤ first_unfinished s j

abbrev Left : RunConstants → ExecState → ℕ → Type 0
Left c s j = first_unfinished s j < c.jobs j

ended_or_left : (c : RunConstants) (s : ExecState) (j : ℕ) → Ended c s j ⊎ Left c s j
ended_or_left c s j = elim (cases_lt (first_unfinished s j) (c.jobs j)) [ inl left ↦ inr left | inr ended ↦ inl ended ]

pub complete_or_unfinished : (c : RunConstants) (s : ExecState) → IsComplete c s ⊎ ((i : ℕ) × (n : ℕ) × IsFirstUnfinished c s i n)
complete_or_unfinished c s = elim (all_or_least (Ended c s) (Left c s) (ended_or_left c s) c.tasks) [
  | inl all ↦ inl (λ j n task job. let ended : c.jobs j ≤ first_unfinished s j = all j task in omega arith)
  | inr least ↦ inr (least.0, first_unfinished s least.0, record { task = least.1.below; job = least.1.is; first = refl; lowest = least.1.earlier })
]

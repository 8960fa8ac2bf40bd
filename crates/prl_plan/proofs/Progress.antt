-- A sound state in which some job has not ended goes on.
use Rattle.prl_base.proofs.Standard.{◌≡◌, ◌+◌, ◌<◌, ◌≤◌, ◌⊎◌, ℕ, zero, suc, get_or, inl, inr, refl, sym, ap, subst, arith, cases_lt}
use Rattle.prl_plan.specs.Vocabulary.{Action, RunConstants, ExecState, next_action, IsUnfinished, HasJob, ActsReleased, MayTick, FindsTag, KeepsGated, first_unfinished, IsJob, ReadsAt, Provides}
use Rattle.prl_plan.specs.Vocabulary.{HasPlanFacts, IsSound, IsLeastReleased}
use Rattle.prl_plan.specs.declared.events.Action.TheVariants as actions
use Rattle.prl_plan.specs.declared.events.Event.TheVariants as events

module _ (c : RunConstants) (facts : HasPlanFacts c) where
  -- the first unfinished job of a task is released no later than the others
  first_earlier : (s : ExecState) (j n : ℕ) → IsUnfinished c s j n → c.release j (first_unfinished s j) ≤ c.release j n
  first_earlier s j n left =
      elim (cases_lt (get_or s.ended j 0) n) [
        | inl before ↦
            (let first : IsJob c j (get_or s.ended j 0) = record { task = left.task; job = (omega (arith, left.job, before)) } in
            omega (arith, facts.window j (get_or s.ended j 0) first, facts.apart j (get_or s.ended j 0) n (record { task = left.task; job = left.job }) before))
        | inr not_before ↦
            (let same : get_or s.ended j 0 ≡ n = omega (arith, left.unfinished, not_before) in
            omega (arith, ap (λ x. c.release j x) same))
      ]

  first_left : (s : ExecState) (j n : ℕ) → IsUnfinished c s j n → HasJob c s j
  first_left s j n left = record {
    task = left.task;
    job = (let z : get_or s.ended j 0 < c.jobs j = omega (arith, left.job, left.unfinished) in z);
    unfinished = (let z : get_or s.ended j 0 ≤ get_or s.ended j 0 = omega arith in z);
  }

  -- of the released jobs that have not ended, the one that is released first finds its tag
  finds : (s : ExecState) → IsSound c s → (i : ℕ) → IsLeastReleased c s i → (action : Action) → next_action c s i ≡ action → FindsTag s action
  finds s sound i least (actions.ReadConst port value) is = tt
  finds s sound i least (actions.Write e m slot) is = tt
  finds s sound i least actions.End is = tt
  finds s sound i least (actions.Read port e m in_slot) is =
      let slot : ℕ = in_slot.0 in
      let n : ℕ = get_or s.ended i 0 in
      let place : ℕ = get_or s.places i 0 in
      let has : HasJob c s i = least.job in
      let reads : ReadsAt c i n place m slot = record { job = record { task = has.task; job = has.job }; action = (port, e, is) } in
      let before = facts.provided i n place m slot reads in
      let j : ℕ = before.0 in
      let k : ℕ = before.1 in
      let provides : Provides c m slot i n j k (before.2) = before.3 in
      let earlier : c.release j k < c.release i n = provides.release in
      elim (cases_lt k (get_or s.ended j 0)) [
        | inl ended ↦
            omega (arith, sound.held i n place m slot reads has, sound.tagged.written j k (before.2) m slot provides.writes (inl ended))
        | inr left ↦ absurd
            (let unfinished : IsUnfinished c s j k = record { task = provides.writes.job.task; job = provides.writes.job.job; unfinished = left } in
            let first : c.release j (first_unfinished s j) ≤ c.release j k = first_earlier s j k unfinished in
            omega (arith, first, least.least j (first_left s j k unfinished) (omega (arith, first, earlier, least.released)), earlier))
      ]

  pub least_release_may_act : (s : ExecState) → IsSound c s → (i : ℕ) → IsLeastReleased c s i → KeepsGated c s (events.Act (record { 0 = i }))
  least_release_may_act s sound i least = (least.job, least.released, finds s sound i least (next_action c s i) refl)

  -- where no unfinished job is released, and some job is unfinished, the tick may come
  pub tick_may_come : (s : ExecState) → ((i : ℕ) → HasJob c s i → s.now < c.release i (first_unfinished s i)) → (j n : ℕ) → IsUnfinished c s j n → MayTick c s
  tick_may_come s none j n left = record { within = within; ended = ended }
    where
      ended : (i k : ℕ) → IsUnfinished c s i k → s.now + 1 < c.deadline i k
      ended i k unfinished =
          omega (arith, none i (first_left s i k unfinished), first_earlier s i k unfinished, facts.window i k (record { task = unfinished.task; job = unfinished.job }))

      within : s.now + 1 ≤ c.end
      within = omega (arith, ended j n left, facts.within j n (record { task = left.task; job = left.job }))

  -- task i may act, as far as the tasks below k are looked at
  record LeastBelow (s : ExecState) (k i : ℕ) : Type 0 where
    job : HasJob c s i
    released : ActsReleased c s i
    least : (j : ℕ) → j < k → HasJob c s j → ActsReleased c s j → c.release i (first_unfinished s i) ≤ c.release j (first_unfinished s j)

  -- the job of task k is unfinished and released, or it is not
  abbrev Ready : ExecState → ℕ → Type 0
  Ready s k = HasJob c s k × ActsReleased c s k

  ready_or : (s : ExecState) (k : ℕ) → k < c.tasks → Ready s k ⊎ (Ready s k → ⊥)
  ready_or s k inside =
      elim (cases_lt (get_or s.ended k 0) (c.jobs k)) [
        | inr over ↦ inr (λ ready. omega (arith, over, ready.0.job))
        | inl some ↦
            (elim (cases_lt s.now (c.release k (get_or s.ended k 0))) [
              | inl early ↦ inr (λ ready. omega (arith, early, ready.1))
              | inr now ↦ inl (
                record { task = inside; job = some; unfinished = (let z : get_or s.ended k 0 ≤ get_or s.ended k 0 = omega arith in z) },
                (let z : c.release k (get_or s.ended k 0) ≤ s.now = omega (arith, now) in z),
              )
            ])
      ]

  below_or_at : (j k : ℕ) → j < suc k → (j < k) ⊎ (j ≡ k)
  below_or_at j k below = elim (cases_lt j k) [ inl less ↦ inl less | inr not_less ↦ inr (omega (arith, below, not_less)) ]

  -- task i, where no task below k and not task k goes before it
  least_to : (s : ExecState) (k i : ℕ) → HasJob c s i → ActsReleased c s i → ((j : ℕ) → j < k → Ready s j → c.release i (first_unfinished s i) ≤ c.release j (first_unfinished s j)) →
      (Ready s k → c.release i (first_unfinished s i) ≤ c.release k (first_unfinished s k)) → LeastBelow s (suc k) i
  least_to s k i job released below here = record {
    job = job;
    released = released;
    least = λ j within has now. elim (below_or_at j k within) [
      | inl less ↦ below j less (has, now)
      | inr at ↦ subst (λ x. c.release i (first_unfinished s i) ≤ c.release x (first_unfinished s x)) (sym at) (here (subst (λ x. Ready s x) at (has, now)))
    ];
  }

  search : (s : ExecState) (k : ℕ) → k ≤ c.tasks → ((i : ℕ) × LeastBelow s k i) ⊎ ((j : ℕ) → j < k → Ready s j → ⊥)
  search s zero within = inr (λ j below ready. omega (arith, below))
  search s (suc k) within =
      elim (ready_or s k (omega (arith, within))) [
        | inr idle ↦
            (elim (search s k (omega (arith, within))) [
              | inl found ↦ inl (found.0, least_to s k found.0 found.1.job found.1.released (λ j less ready. found.1.least j less ready.0 ready.1) (λ ready. absurd (idle ready)))
              | inr none ↦ inr (λ j below ready. elim (below_or_at j k below) [
                | inl less ↦ none j less ready
                | inr at ↦ idle (subst (λ x. Ready s x) at ready)
              ])
            ])
        | inl ready ↦
            (elim (search s k (omega (arith, within))) [
              | inr none ↦ inl (k, least_to s k k ready.0 ready.1 (λ j less other. absurd (none j less other)) (λ _. omega arith))
              | inl found ↦
                  (elim (cases_lt (c.release k (get_or s.ended k 0)) (c.release found.0 (get_or s.ended found.0 0))) [
                    | inl earlier ↦ inl (k, least_to s k k ready.0 ready.1 (λ j less other. (let h = found.1.least j less other.0 other.1 in omega (arith, h, earlier))) (λ _. omega arith))
                    | inr not_earlier ↦ inl (found.0, least_to s k found.0 found.1.job found.1.released (λ j less other. found.1.least j less other.0 other.1) (λ _. omega (arith, not_earlier)))
                  ])
            ])
      ]

  -- some job may act, or the tick may come
  pub sound_state_goes_on : (s : ExecState) → IsSound c s → (j n : ℕ) → IsUnfinished c s j n →
      ((i : ℕ) × IsLeastReleased c s i × KeepsGated c s (events.Act (record { 0 = i })))
      ⊎ (((i : ℕ) → HasJob c s i → ActsReleased c s i → ⊥) × KeepsGated c s events.Tick)
  sound_state_goes_on s sound j n left =
      elim (search s c.tasks (let z : c.tasks ≤ c.tasks = omega arith in z)) [
        | inl found ↦
            (let least : IsLeastReleased c s found.0 = record {
              job = found.1.job;
              released = found.1.released;
              least = λ k has now. found.1.least k has.task has now;
            } in
            inl (found.0, least, least_release_may_act s sound found.0 least))
        | inr none ↦ inr (
          (λ i has now. none i has.task (has, now)),
          tick_may_come s (λ i has. elim (cases_lt s.now (c.release i (get_or s.ended i 0))) [
            | inl early ↦ early
            | inr now ↦ absurd (none i has.task (has, (let z : c.release i (get_or s.ended i 0) ≤ s.now = omega (arith, now) in z)))
          ]) j n left,
        )
      ]

-- A placed list is gated and complete.
use Rattle.prl_base.proofs.Standard.{◌≡◌, ◌≢◌, ◌+◌, ◌++◌, ◌<◌, ◌≤◌, ℕ, zero, suc, Bool, List, [], ◌∷◌, length, replicate, get_or, set, inl, inr, refl, sym, ◌∙◌, ap, subst, arith, eqb, cond, cases_eq}
use Rattle.prl_base.proofs.Standard.{cases_lt, eqb_tells}
use Rattle.prl_plan.specs.Vocabulary.{RunConstants, ExecState, opening, action_at, next_action, after_action, after_event, after_events, HasJob, FindsTag, KeepsGated, IsGated, IsComplete, MayTick}
use Rattle.prl_plan.specs.Vocabulary.{IsJob, ReadsAt, Provides, HasPlanFacts, IsSound}
use Rattle.prl_plan.specs.declared.events.Action.{Action}
use Rattle.prl_plan.specs.declared.events.Event.{Event}
use Rattle.prl_plan.specs.declared.events.Action.TheVariants as actions
use Rattle.prl_plan.specs.declared.events.Event.TheVariants as events
use Rattle.prl_plan.proofs.Places.{get_set}
use Rattle.prl_plan.proofs.StateLaws.{opening_is_sound, gated_event_keeps_sound}
use Rattle.prl_tables.specs.Unrolled.{Placing, acts_of_jobs, acts_of_tasks, unrolled_to, unrolled, ActsBefore, HaveActed, IsPlacing}
use Rattle.prl_edf.specs.Unrolled.{acts_of}
use Rattle.prl_tables.proofs.Ends.{HasEnds}

-- the state to which a list leads, by gated events
abbrev pub Leads : RunConstants → ExecState → List Event → (ExecState → Type 0) → Type 0
Leads c s list P = IsGated c s list × P (after_events c s list)

leads_append : (c : RunConstants) (P Q : ExecState → Type 0) (s : ExecState) (xs ys : List Event) → Leads c s xs P →
    ((t : ExecState) → P t → Leads c t ys Q) → Leads c s (xs ++ ys) Q
leads_append c P Q s [] ys first then = then s first.1
leads_append c P Q s (x ∷ xs) ys first then =
    let rest = leads_append c P Q (after_event c s x) xs ys (first.0.1, first.1) then in
    ((first.0.0, rest.0), rest.1)

module _ (c : RunConstants) (facts : HasPlanFacts c) (ends : HasEnds c) (at : Placing) (placing : IsPlacing c at) where
  abbrev Before : ℕ → ℕ → ℕ → ℕ → ℕ → Type 0
  Before t i n j k = ActsBefore at t i n j k

  abbrev Stands : ℕ → ℕ → ℕ → ExecState → Type 0
  Stands t i n s = HaveActed c at t i n s

  -- within job n of task i, from state s on
  pub record Within (i n place : ℕ) (s r : ExecState) : Type 0 where
    pub sound : IsSound c r
    pub now : r.now ≡ s.now
    pub ended : r.ended ≡ s.ended
    pub here : get_or r.places i 0 ≡ place
    pub others : (j : ℕ) → j ≢ i → get_or r.places j 0 ≡ get_or s.places j 0

  -- after it
  pub record Ended (i n : ℕ) (s r : ExecState) : Type 0 where
    pub sound : IsSound c r
    pub now : r.now ≡ s.now
    pub ended : get_or r.ended i 0 ≡ n + 1
    pub others_ended : (j : ℕ) → j ≢ i → get_or r.ended j 0 ≡ get_or s.ended j 0
    pub here : get_or r.places i 0 ≡ 0
    pub others : (j : ℕ) → j ≢ i → get_or r.places j 0 ≡ get_or s.places j 0

  abbrev Does : ℕ → ℕ → ExecState → ExecState → Type 0
  Does i n s r = (r.now ≡ s.now) × (r.ended ≡ s.ended) × (r.places ≡ set s.places i (get_or s.places i 0 + 1))

  does_one : (s : ExecState) (i n : ℕ) (action : Action) → action ≢ actions.End → Does i n s (after_action s i action)
  does_one s i n (actions.ReadConst port value) differs = (refl, refl, refl)
  does_one s i n (actions.Read port e m slot) differs = (refl, refl, refl)
  does_one s i n (actions.Write e m slot) differs = (refl, refl, refl)
  does_one s i n actions.End differs = absurd (differs refl)

  -- where what is read has ended, its tag is found
  finds : (s : ExecState) → IsSound c s → (i n : ℕ) → HasJob c s i → get_or s.ended i 0 ≡ n →
      ((j k : ℕ) → IsJob c j k → at j k < at i n → k < get_or s.ended j 0) →
      (action : Action) → next_action c s i ≡ action → FindsTag s action
  finds s sound i n has first earlier (actions.ReadConst port value) is = tt
  finds s sound i n has first earlier (actions.Write e m slot) is = tt
  finds s sound i n has first earlier actions.End is = tt
  finds s sound i n has first earlier (actions.Read port e m in_slot) is =
      let slot : ℕ = in_slot.0 in
      let place : ℕ = get_or s.places i 0 in
      let reads : ReadsAt c i (get_or s.ended i 0) place m slot = record { job = record { task = has.task; job = has.job }; action = (port, e, is) } in
      let before = facts.provided i (get_or s.ended i 0) place m slot reads in
      let provides : Provides c m slot i (get_or s.ended i 0) before.0 before.1 before.2 = before.3 in
      let order : at before.0 before.1 < at i (get_or s.ended i 0) = placing.after i (get_or s.ended i 0) place m slot before.0 before.1 before.2 reads provides.writes in
      let moved : at i (get_or s.ended i 0) ≡ at i n = ap (λ (x : ℕ). at i x) first in
      let ended : before.1 < get_or s.ended before.0 0 = earlier before.0 before.1 provides.writes.job (omega (arith, order, moved)) in
      omega (arith, sound.held i (get_or s.ended i 0) place m slot reads has, sound.tagged.written before.0 before.1 before.2 m slot provides.writes (inl ended))

  module _ (i n : ℕ) (job : IsJob c i n) (s : ExecState) (first : get_or s.ended i 0 ≡ n) (now : s.now ≡ at i n)
      (earlier : (j k : ℕ) → IsJob c j k → at j k < at i n → k < get_or s.ended j 0) where
    pub allowed : (place : ℕ) (r : ExecState) → Within i n place s r → KeepsGated c r (events.Act (record { 0 = i }))
    allowed place r w =
        let same : get_or r.ended i 0 ≡ n = ap (λ (xs : List ℕ). get_or xs i 0) w.ended ∙ first in
        let has : HasJob c r i = record {
          task = job.task;
          job = subst (λ (x : ℕ). x < c.jobs i) (sym same) job.job;
          unfinished = omega arith;
        } in
        let released : c.release i (get_or r.ended i 0) ≤ r.now =
        (let e = ap (λ (x : ℕ). c.release i x) same in
        omega (arith, e, placing.released i n job, w.now, now)) in (
          has,
          released,
          finds r w.sound i n has same (λ j k its before. subst (λ (xs : List ℕ). k < get_or xs j 0) (sym w.ended) (earlier j k its before)) (next_action c r i) refl,
        )

    next_is : (place : ℕ) (r : ExecState) → Within i n place s r → next_action c r i ≡ action_at c i n place
    next_is place r w =
        let same : get_or r.ended i 0 ≡ n = ap (λ (xs : List ℕ). get_or xs i 0) w.ended ∙ first in
        ap (λ (x : ℕ). action_at c i x (get_or r.places i 0)) same ∙ ap (λ (x : ℕ). action_at c i n x) w.here

    inside_places : (r : ExecState) → IsSound c r → i < length r.places
    inside_places r sound = (let l = sound.tagged.places in let t = job.task in omega (arith, l, t))

    inside_ended : (r : ExecState) → IsSound c r → i < length r.ended
    inside_ended r sound = (let l = sound.tagged.ended in let t = job.task in omega (arith, l, t))

    set_here : (xs : List ℕ) (v : ℕ) → i < length xs → get_or (set xs i v) i 0 ≡ v
    set_here xs v inside = elim (get_set xs i v i inside) [ inl same ↦ same.1 | inr other ↦ absurd (other.0 refl) ]

    set_other : (xs : List ℕ) (v j : ℕ) → i < length xs → j ≢ i → get_or (set xs i v) j 0 ≡ get_or xs j 0
    set_other xs v j inside differs = elim (get_set xs i v j inside) [ inl same ↦ absurd (differs same.0) | inr other ↦ other.1 ]

    pub step : (place : ℕ) (r : ExecState) → Within i n place s r → place + 1 < length (c.actions i n) →
        Within i n (place + 1) s (after_event c r (events.Act (record { 0 = i })))
    step place r w more =
        let differs : next_action c r i ≢ actions.End = (λ e. ends.before i n place job more (sym (next_is place r w) ∙ e)) in
        let does = does_one r i n (next_action c r i) differs in record {
          sound = gated_event_keeps_sound c facts r w.sound (events.Act (record { 0 = i })) (allowed place r w);
          now = does.0 ∙ w.now;
          ended = does.1 ∙ w.ended;
          here =
              (let e = ap (λ (xs : List ℕ). get_or xs i 0) does.2 in
              let p = w.here in omega (arith, e, set_here r.places (get_or r.places i 0 + 1) (inside_places r w.sound), p));
          others = λ j no_i.
              (let e = ap (λ (xs : List ℕ). get_or xs j 0) does.2 in
              let p = w.others j no_i in omega (arith, e, set_other r.places (get_or r.places i 0 + 1) j (inside_places r w.sound) no_i, p));
        }

    pub last : (place : ℕ) (r : ExecState) → Within i n place s r → place + 1 ≡ length (c.actions i n) →
        Ended i n s (after_event c r (events.Act (record { 0 = i })))
    last place r w at_end =
        let is : next_action c r i ≡ actions.End = next_is place r w ∙ ends.end i n place job at_end in
        let sound = gated_event_keeps_sound c facts r w.sound (events.Act (record { 0 = i })) (allowed place r w) in
        let after : after_action r i (next_action c r i) ≡ after_action r i actions.End = ap (λ (a : Action). after_action r i a) is in
        subst (λ (q : ExecState). Ended i n s q) (sym after) (record {
          sound = subst (λ (q : ExecState). IsSound c q) after sound;
          now = w.now;
          ended =
              (let e = ap (λ (xs : List ℕ). get_or xs i 0) w.ended in omega (arith, set_here r.ended (get_or r.ended i 0 + 1) (inside_ended r w.sound), e, first));
          others_ended = λ j differs. set_other r.ended (get_or r.ended i 0 + 1) j (inside_ended r w.sound) differs ∙ ap (λ (xs : List ℕ). get_or xs j 0) w.ended;
          here = set_here r.places 0 (inside_places r w.sound);
          others = λ j differs. set_other r.places 0 j (inside_places r w.sound) differs ∙ w.others j differs;
        })

    runs : (more place : ℕ) (r : ExecState) → Within i n place s r → place + suc more ≡ length (c.actions i n) →
        Leads c r (replicate (suc more) (events.Act (record { 0 = i }))) (Ended i n s)
    runs zero place r w count = ((allowed place r w, tt), last place r w (omega (arith, count)))
    runs (suc more) place r w count =
        let rest = runs more (place + 1) (after_event c r (events.Act (record { 0 = i }))) (step place r w (omega (arith, count))) (omega (arith, count)) in
        ((allowed place r w, rest.0), rest.1)

  -- what has had its turn still has when one job more has it, or one task more
  more_jobs : (t i n j k : ℕ) → Before t i n j k → Before t i (n + 1) j k
  more_jobs t i n j k (inl earlier) = inl earlier
  more_jobs t i n j k (inr (same, inl lower)) = inr (same, inl lower)
  more_jobs t i n j k (inr (same, inr own)) = inr (same, inr (own.0, (let b = own.1 in omega (arith, b))))

  more_tasks : (t i n j k : ℕ) → Before t i n j k → Before t (suc i) 0 j k
  more_tasks t i n j k (inl earlier) = inl earlier
  more_tasks t i n j k (inr (same, inl lower)) = inr (same, inl (omega (arith, lower)))
  more_tasks t i n j k (inr (same, inr own)) = inr (same, inl (let b = own.0 in omega (arith, b)))

  -- no job acts, and others are asked for
  same_state : (t i n u m : ℕ) (s : ExecState) → Stands t i n s → ((j k : ℕ) → IsJob c j k → Before t u m j k → k < get_or s.ended j 0) →
      ((j k : ℕ) → Before t i n j k → Before t u m j k) → Stands t u m s
  same_state t i n u m s stands done wide =
      record { sound = stands.sound; now = stands.now; idle = stands.idle; done = done; left = λ j k its over. wide j k (stands.left j k its over) }

  -- the jobs of a task act one after the other
  sooner : (i m n : ℕ) → IsJob c i n → m < n → IsJob c i m × (at i m < at i n)
  sooner i m n job before =
      let its : IsJob c i m = record { task = job.task; job = (let j = job.job in omega (arith, j, before)) } in
      (its, omega (arith, placing.due i m its, facts.apart i m n job before, placing.released i n job))

  -- the first unfinished job of a task, when job n has its turn
  pub is_first : (t i n : ℕ) (s : ExecState) → Stands t i n s → IsJob c i n → at i n ≡ t → get_or s.ended i 0 ≡ n
  is_first t i n s stands job here =
      elim (cases_lt n (get_or s.ended i 0)) [
        | inl ended ↦ absurd
            (elim (stands.left i n job ended) [
              | inl before ↦ omega (arith, before, here)
              | inr same ↦ (elim same.1 [ inl below ↦ omega (arith, below) | inr its ↦ (let b = its.1 in omega (arith, b)) ])
            ])
        | inr not_ended ↦
            elim (cases_lt (get_or s.ended i 0) n) [
              | inr past ↦ omega (arith, not_ended, past)
              | inl before ↦ absurd
                  (let first = sooner i (get_or s.ended i 0) n job before in
                  let done = stands.done i (get_or s.ended i 0) first.0 (inl (omega (arith, first.1, here))) in
                  omega (arith, done))
            ]
      ]

  idle_after : (t i n : ℕ) (s r : ExecState) (m : ℕ) → Stands t i m s → Ended i n s r → (j : ℕ) → get_or r.places j 0 ≡ 0
  idle_after t i n s r m stands ended j =
      elim (cases_eq j i) [ inl same ↦ ap (λ (x : ℕ). get_or r.places x 0) same ∙ ended.here | inr other ↦ ended.others j other ∙ stands.idle j ]

  stands_after : (t i n : ℕ) (s r : ExecState) → Stands t i n s → IsJob c i n → at i n ≡ t → get_or s.ended i 0 ≡ n → Ended i n s r → Stands t i (n + 1) r
  stands_after t i n s r stands job here first ended = record {
    sound = ended.sound;
    now = ended.now ∙ stands.now;
    idle = idle_after t i n s r n stands ended;
    done = λ j k its before. elim (cases_eq j i) [
      | inl same ↦
          (let was : get_or s.ended j 0 ≡ n = ap (λ (x : ℕ). get_or s.ended x 0) same ∙ first in
          elim (cases_lt k (n + 1)) [
            | inl below ↦ omega (arith, ap (λ (x : ℕ). get_or r.ended x 0) same ∙ ended.ended, below)
            | inr past ↦ absurd
                (elim before [
                  | inl earlier ↦ (let d = stands.done j k its (inl earlier) in omega (arith, d, was, past))
                  | inr at_t ↦ (elim at_t.1 [
                    | inl lower ↦ omega (arith, lower, same)
                    | inr own ↦ (let b = own.1 in omega (arith, b, past))
                  ])
                ])
          ])
      | inr other ↦
          (let d : k < get_or s.ended j 0 = stands.done j k its (elim before [
            | inl earlier ↦ inl earlier
            | inr at_t ↦ (elim at_t.1 [ inl lower ↦ inr (at_t.0, inl lower) | inr own ↦ absurd (other own.0) ])
          ]) in omega (arith, ended.others_ended j other, d))
    ];
    left = λ j k its over. elim (cases_eq j i) [
      | inl same ↦
          (let was : get_or s.ended j 0 ≡ n = ap (λ (x : ℕ). get_or s.ended x 0) same ∙ first in
          elim (cases_eq k n) [
            | inl now ↦ inr (ap (λ (x : ℕ). at x k) same ∙ ap (λ (x : ℕ). at i x) now ∙ here, inr (same, omega (arith, now)))
            | inr not_now ↦ more_jobs t i n j k (stands.left j k its (omega (arith, over, ap (λ (x : ℕ). get_or r.ended x 0) same ∙ ended.ended, was, not_now)))
          ])
      | inr other ↦ more_jobs t i n j k (stands.left j k its (let e = ended.others_ended j other in omega (arith, e, over)))
    ];
  }

  -- a job that does not act now changes nothing
  stands_without : (t i n : ℕ) (s : ExecState) → Stands t i n s → at i n ≢ t → Stands t i (n + 1) s
  stands_without t i n s stands other = same_state t i n i (n + 1) s stands (λ j k its before. stands.done j k its (narrow j k before)) (more_jobs t i n)
    where
      narrow : (j k : ℕ) → Before t i (n + 1) j k → Before t i n j k
      narrow j k (inl earlier) = inl earlier
      narrow j k (inr (same, inl lower)) = inr (same, inl lower)
      narrow j k (inr (same, inr own)) =
          elim (cases_eq k n) [
            | inl now ↦ absurd (other (sym (ap (λ (x : ℕ). at x k) own.0 ∙ ap (λ (x : ℕ). at i x) now) ∙ same))
            | inr not_now ↦ inr (same, inr (own.0, (let b = own.1 in omega (arith, b, not_now))))
          ]

  pub job_acts : (t i n : ℕ) (s : ExecState) → Stands t i n s → IsJob c i n → at i n ≡ t → Leads c s (acts_of c i n) (Stands t i (n + 1))
  job_acts t i n s stands job here =
      let earlier : (j k : ℕ) → IsJob c j k → at j k < at i n → k < get_or s.ended j 0 =
      (λ j k its before. stands.done j k its (inl (omega (arith, before, here)))) in
      go (length (c.actions i n)) refl (ends.some i n job) (is_first t i n s stands job here) earlier
    where
      go : (count : ℕ) → length (c.actions i n) ≡ count → 1 ≤ length (c.actions i n) → get_or s.ended i 0 ≡ n →
          ((j k : ℕ) → IsJob c j k → at j k < at i n → k < get_or s.ended j 0) →
          Leads c s (acts_of c i n) (Stands t i (n + 1))
      go zero count some first earlier = absurd (omega (arith, count, some))
      go (suc more) count some first earlier =
          let within : Within i n 0 s s = record { sound = stands.sound; now = refl; ended = refl; here = stands.idle i; others = λ j differs. refl } in
          let run = runs i n job s first (stands.now ∙ sym here) earlier more 0 s within (omega (arith, count)) in
          subst (λ (x : ℕ). Leads c s (replicate x (events.Act (record { 0 = i }))) (Stands t i (n + 1))) (sym count)
          (run.0, stands_after t i n s (after_events c s (replicate (suc more) (events.Act (record { 0 = i })))) stands job here first run.1)

  -- the jobs of a task at tick t
  jobs_act : (t i n : ℕ) → i < c.tasks → n ≤ c.jobs i → (s : ExecState) → Stands t i 0 s → Leads c s (acts_of_jobs c at t i n) (Stands t i n)
  jobs_act t i zero task small s stands = (tt, stands)
  jobs_act t i (suc n) task small s stands =
      leads_append c (Stands t i n) (Stands t i (suc n)) s (acts_of_jobs c at t i n) (cond (eqb (at i n) t) (acts_of c i n) [])
      (jobs_act t i n task (omega (arith, small)) s stands)
      (λ r here. elim (eqb_tells (at i n) t) [
        | inl hit ↦ subst (λ (b : Bool). Leads c r (cond b (acts_of c i n) []) (Stands t i (suc n))) (sym hit.0)
            (subst (λ (x : ℕ). Leads c r (acts_of c i n) (Stands t i x)) (let e : n + 1 ≡ suc n = omega arith in e)
            (job_acts t i n r here (record { task = task; job = omega (arith, small) }) hit.1))
        | inr miss ↦ subst (λ (b : Bool). Leads c r (cond b (acts_of c i n) []) (Stands t i (suc n))) (sym miss.0)
            (subst (λ (x : ℕ). Leads c r [] (Stands t i x)) (let e : n + 1 ≡ suc n = omega arith in e) (tt, stands_without t i n r here miss.1))
      ])

  -- all jobs of a task have had their turn
  next_task : (t i : ℕ) (s : ExecState) → Stands t i (c.jobs i) s → Stands t (suc i) 0 s
  next_task t i s stands = same_state t i (c.jobs i) (suc i) 0 s stands (λ j k its before. stands.done j k its (narrow j k its before)) (more_tasks t i (c.jobs i))
    where
      narrow : (j k : ℕ) → IsJob c j k → Before t (suc i) 0 j k → Before t i (c.jobs i) j k
      narrow j k its (inl earlier) = inl earlier
      narrow j k its (inr (same, inl lower)) =
          elim (cases_eq j i) [
            | inl own ↦ inr (same, inr (own, (let b = its.job in let e = ap (λ (x : ℕ). c.jobs x) own in omega (arith, b, e))))
            | inr other ↦ inr (same, inl (omega (arith, lower, other)))
          ]
      narrow j k its (inr (same, inr own)) = absurd (let b = own.1 in omega (arith, b))

  -- a task whose first unfinished job, if it has one, does not act at tick t has had its turn
  pub skip_task : (t i : ℕ) (s : ExecState) → Stands t i 0 s → (get_or s.ended i 0 < c.jobs i → at i (get_or s.ended i 0) ≢ t) → Stands t (suc i) 0 s
  skip_task t i s stands other = same_state t i 0 (suc i) 0 s stands narrow (more_tasks t i 0)
    where
      narrow : (j k : ℕ) → IsJob c j k → Before t (suc i) 0 j k → k < get_or s.ended j 0
      narrow j k its (inl earlier) = stands.done j k its (inl earlier)
      narrow j k its (inr (same, inr own)) = absurd (let b = own.1 in omega (arith, b))
      narrow j k its (inr (same, inl lower)) =
          elim (cases_eq j i) [
            | inr apart ↦ stands.done j k its (inr (same, inl (omega (arith, lower, apart))))
            | inl own ↦
                elim (cases_lt k (get_or s.ended j 0)) [
                  | inl ended ↦ ended
                  | inr not_ended ↦ absurd
                      (let jobs = ap (λ (x : ℕ). c.jobs x) own in
                      let ended = ap (λ (x : ℕ). get_or s.ended x 0) own in
                      let at_own = ap (λ (x : ℕ). at x k) own in
                      elim (cases_eq (get_or s.ended i 0) k) [
                        | inl first ↦ other (omega (arith, its.job, jobs, first)) (ap (λ (x : ℕ). at i x) first ∙ sym at_own ∙ same)
                        | inr later ↦
                            (let before : get_or s.ended i 0 < k = omega (arith, not_ended, ended, later) in
                            let first = sooner i (get_or s.ended i 0) k (subst (λ (x : ℕ). IsJob c x k) own its) before in
                            let done = stands.done i (get_or s.ended i 0) first.0 (inl (omega (arith, first.1, at_own, same))) in
                            omega (arith, done))
                      ])
                ]
          ]

  -- nor does a task whose first unfinished job has just done its acts there have another one
  pub task_done : (t i n : ℕ) (s r : ExecState) → Stands t i 0 s → IsJob c i n → at i n ≡ t → get_or s.ended i 0 ≡ n → Ended i n s r → Stands t (suc i) 0 r
  task_done t i n s r stands job here first ended = record {
    sound = ended.sound;
    now = ended.now ∙ stands.now;
    idle = idle_after t i n s r 0 stands ended;
    done = λ j k its before. elim (cases_eq j i) [
      | inl same ↦
          (let up : get_or r.ended j 0 ≡ n + 1 = ap (λ (x : ℕ). get_or r.ended x 0) same ∙ ended.ended in
          elim (cases_lt n k) [
            | inr low ↦ omega (arith, up, low)
            | inl above ↦ absurd
                (let acts = (sooner i n k (subst (λ (x : ℕ). IsJob c x k) same its) above).1 in
                let at_own = ap (λ (x : ℕ). at x k) same in
                elim before [
                  | inl earlier ↦ omega (arith, acts, at_own, earlier, here)
                  | inr at_t ↦ (let e = at_t.0 in omega (arith, acts, at_own, e, here))
                ])
          ])
      | inr other ↦
          (let d : k < get_or s.ended j 0 = stands.done j k its (elim before [
            | inl earlier ↦ inl earlier
            | inr at_t ↦ (elim at_t.1 [ inl lower ↦ inr (at_t.0, inl (omega (arith, lower, other))) | inr own ↦ absurd (let b = own.1 in omega (arith, b)) ])
          ]) in omega (arith, ended.others_ended j other, d))
    ];
    left = λ j k its over. elim (cases_eq j i) [
      | inl same ↦
          (let was : get_or s.ended j 0 ≡ n = ap (λ (x : ℕ). get_or s.ended x 0) same ∙ first in
          elim (cases_eq k n) [
            | inl now ↦ inr (ap (λ (x : ℕ). at x k) same ∙ ap (λ (x : ℕ). at i x) now ∙ here, inl (omega (arith, same)))
            | inr not_now ↦ more_tasks t i 0 j k (stands.left j k its (omega (arith, over, ap (λ (x : ℕ). get_or r.ended x 0) same ∙ ended.ended, was, not_now)))
          ])
      | inr other ↦ more_tasks t i 0 j k (stands.left j k its (let e = ended.others_ended j other in omega (arith, e, over)))
    ];
  }

  tasks_act : (t i : ℕ) → i ≤ c.tasks → (s : ExecState) → Stands t 0 0 s → Leads c s (acts_of_tasks c at t i) (Stands t i 0)
  tasks_act t zero small s stands = (tt, stands)
  tasks_act t (suc i) small s stands =
      leads_append c (Stands t i 0) (Stands t (suc i) 0) s (acts_of_tasks c at t i) (acts_of_jobs c at t i (c.jobs i))
      (tasks_act t i (omega (arith, small)) s stands)
      (λ r here.
      (let run = jobs_act t i (c.jobs i) (omega (arith, small)) (omega arith) r here in
      (run.0, next_task t i (after_events c r (acts_of_jobs c at t i (c.jobs i))) run.1)))

  -- the tick after all that acts at tick t
  pub ticks : (t : ℕ) → t < c.end → (s : ExecState) → Stands t c.tasks 0 s → Leads c s (events.Tick ∷ []) (Stands (suc t) 0 0)
  ticks t within s stands =
      let may : MayTick c s = record {
        within = (let n = stands.now in omega (arith, n, within));
        ended = λ j n left. (let its : IsJob c j n = record { task = left.task; job = left.job } in
            let due : at j n < c.deadline j n = placing.due j n its in
            elim (cases_lt t (at j n)) [
              | inl later ↦ omega (arith, due, later, stands.now)
              | inr not_later ↦ absurd
                  (let d : n < get_or s.ended j 0 = stands.done j n its (elim (cases_lt (at j n) t) [
                    | inl earlier ↦ inl earlier
                    | inr same ↦ inr (omega (arith, not_later, same), inl left.task)
                  ]) in
                  let u = left.unfinished in omega (arith, d, u))
            ]);
      } in (
        (may, tt),
        record {
          sound = gated_event_keeps_sound c facts s stands.sound events.Tick may;
          now = (let n = stands.now in omega (arith, n));
          idle = stands.idle;
          done = λ j k its before. stands.done j k its (narrow j k its before);
          left = λ j k its over. wide j k (stands.left j k its over);
        },
      )
    where
      narrow : (j k : ℕ) → IsJob c j k → Before (suc t) 0 0 j k → Before t c.tasks 0 j k
      narrow j k its (inl earlier) =
          elim (cases_lt (at j k) t) [ inl before ↦ inl before | inr same ↦ inr (omega (arith, earlier, same), inl its.task) ]
      narrow j k its (inr (same, inl lower)) = absurd (omega (arith, lower))
      narrow j k its (inr (same, inr own)) = absurd (let b = own.1 in omega (arith, b))

      wide : (j k : ℕ) → Before t c.tasks 0 j k → Before (suc t) 0 0 j k
      wide j k (inl earlier) = inl (omega (arith, earlier))
      wide j k (inr (same, rest)) = inl (omega (arith, same))

  pub stands_first : Stands 0 0 0 (opening c)
  stands_first = record {
    sound = opening_is_sound c facts;
    now = refl;
    idle = λ j. zero_everywhere c.tasks j;
    done = λ j k its before. absurd (none j k before);
    left = λ j k its over. absurd (let z = zero_everywhere c.tasks j in omega (arith, over, z));
  }
    where
      zero_everywhere : (n j : ℕ) → ◌≡◌ {A = ℕ} (get_or (replicate n 0) j 0) 0
      zero_everywhere zero j = refl
      zero_everywhere (suc n) zero = refl
      zero_everywhere (suc n) (suc j) = zero_everywhere n j

      none : (j k : ℕ) → Before 0 0 0 j k → ⊥
      none j k (inl earlier) = omega (arith, earlier)
      none j k (inr (same, inl lower)) = omega (arith, lower)
      none j k (inr (same, inr own)) = (let b = own.1 in omega (arith, b))

  list_leads : (t : ℕ) → t ≤ c.end → Leads c (opening c) (unrolled_to c at t) (Stands t 0 0)
  list_leads zero small = (tt, stands_first)
  list_leads (suc t) small =
      leads_append c (Stands t c.tasks 0) (Stands (suc t) 0 0) (opening c) (unrolled_to c at t ++ acts_of_tasks c at t c.tasks) (events.Tick ∷ [])
      (leads_append c (Stands t 0 0) (Stands t c.tasks 0) (opening c) (unrolled_to c at t) (acts_of_tasks c at t c.tasks)
      (list_leads t (omega (arith, small)))
      (λ r here. tasks_act t c.tasks (omega arith) r here))
      (λ q there. ticks t (omega (arith, small)) q there)

  pub placed_gated : IsGated c (opening c) (unrolled c at)
  placed_gated = (list_leads c.end (omega arith)).0

  pub placed_complete : IsComplete c (after_events c (opening c) (unrolled c at))
  placed_complete = λ j n task job.
      (let its : IsJob c j n = record { task = task; job = job } in
      (list_leads c.end (omega arith)).1.done j n its (inl (omega (arith, placing.due j n its, facts.within j n its))))

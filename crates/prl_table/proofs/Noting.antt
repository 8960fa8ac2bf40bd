-- What is noted of jobs that one thread has done.
use Rattle.prl_base.proofs.Standard.{◌≡◌, ◌≢◌, ◌+◌, ◌<◌, ℕ, List, [], length, get_or, set, inl, inr, refl, sym, ◌∙◌, ap, subst, arith, Option, Some, None}
use Rattle.prl_base.proofs.Standard.{cases_eq, cases_lt, get_or-set_at, get_or-set_other, length-set}
use Rattle.prl_plan.specs.Vocabulary.{IsJob, HasPlanFacts, RunConstants, ExecState}
use Rattle.prl_tables.specs.Unrolled.{Placing, HaveActed, IsPlacing, ActsBefore}
use Rattle.prl_table.specs.Noted.{noted_at, with_noted, AreNoted, AreAllNoted, HaveRoom}

row : List (List (Option ℕ)) → ℕ → List (Option ℕ)
row ticks i = get_or ticks i []

module _ (c : RunConstants) (ticks : List (List (Option ℕ))) (i n t : ℕ) (room : HaveRoom c ticks) (job : IsJob c i n) where
  in_tasks : i < length ticks
  in_tasks = (let l = room.tasks in let k = job.task in omega (arith, l, k))

  in_jobs : n < length (get_or ticks i [])
  in_jobs = (let l = room.jobs i job.task in let k = job.job in omega (arith, l, k))

  row_same : get_or (with_noted ticks i n t) i [] ≡ set (get_or ticks i []) n (Some t)
  row_same = get_or-set_at ticks i i (set (get_or ticks i []) n (Some t)) [] refl in_tasks

  row_other : (j : ℕ) → j ≢ i → get_or (with_noted ticks i n t) j [] ≡ get_or ticks j []
  row_other j other = get_or-set_other ticks i j (set (get_or ticks i []) n (Some t)) [] other

  pub noted_here : noted_at (with_noted ticks i n t) i n ≡ Some t
  noted_here = ap (λ (xs : List (Option ℕ)). get_or xs n None) row_same ∙ get_or-set_at (get_or ticks i []) n n (Some t) None refl in_jobs

  pub noted_job : (m : ℕ) → m ≢ n → noted_at (with_noted ticks i n t) i m ≡ noted_at ticks i m
  noted_job m other = ap (λ (xs : List (Option ℕ)). get_or xs m None) row_same ∙ get_or-set_other (get_or ticks i []) n m (Some t) None other

  pub noted_task : (j m : ℕ) → j ≢ i → noted_at (with_noted ticks i n t) j m ≡ noted_at ticks j m
  noted_task j m other = ap (λ (xs : List (Option ℕ)). get_or xs m None) (row_other j other)

  pub room_kept : HaveRoom c (with_noted ticks i n t)
  room_kept = record {
    tasks = length-set ticks i (set (get_or ticks i []) n (Some t)) ∙ room.tasks;
    jobs = λ j task. elim (cases_eq j i) [
      | inl same ↦ ap (λ (x : ℕ). length (get_or (with_noted ticks i n t) x [])) same ∙ ap (λ (xs : List (Option ℕ)). length xs) row_same
          ∙ length-set (get_or ticks i []) n (Some t) ∙ room.jobs i job.task ∙ ap (λ (x : ℕ). c.jobs x) (sym same)
      | inr other ↦ ap (λ (xs : List (Option ℕ)). length xs) (row_other j other) ∙ room.jobs j task
    ];
  }

pub noted_tick : (c : RunConstants) (at : Placing) (ticks : List (List (Option ℕ))) (t : ℕ) → AreNoted c at t c.tasks ticks → AreNoted c at (t + 1) 0 ticks
noted_tick c at ticks t before j m its (inl earlier) =
    elim (cases_eq (at j m) t) [
      | inl now ↦ before j m its (inr (now, inl its.task))
      | inr other ↦ before j m its (inl (omega (arith, earlier, other)))
    ]
noted_tick c at ticks t before j m its (inr (same, inl lower)) = absurd (omega (arith, lower))
noted_tick c at ticks t before j m its (inr (same, inr own)) = absurd (let b = own.1 in omega (arith, b))

pub none_noted : (c : RunConstants) (at : Placing) (ticks : List (List (Option ℕ))) → AreNoted c at 0 0 ticks
none_noted c at ticks j m its (inl earlier) = absurd (omega (arith, earlier))
none_noted c at ticks j m its (inr (same, inl lower)) = absurd (omega (arith, lower))
none_noted c at ticks j m its (inr (same, inr own)) = absurd (let b = own.1 in omega (arith, b))

module _ (c : RunConstants) (facts : HasPlanFacts c) (at : Placing) (placing : IsPlacing c at) where
  sooner : (i m n : ℕ) → IsJob c i n → m < n → IsJob c i m × (at i m < at i n)
  sooner i m n job before =
      let its : IsJob c i m = record { task = job.task; job = (let j = job.job in omega (arith, j, before)) } in
      (its, omega (arith, placing.due i m its, facts.apart i m n job before, placing.released i n job))

  -- two jobs of a task do not act at one tick
  one_at : (i m n t : ℕ) → IsJob c i m → IsJob c i n → at i m ≡ t → at i n ≡ t → m ≢ n → ⊥
  one_at i m n t its job there here differs =
      elim (cases_lt m n) [
        | inl earlier ↦ (let s = (sooner i m n job earlier).1 in omega (arith, s, here, there))
        | inr not_earlier ↦ (let s = (sooner i n m its (omega (arith, not_earlier, differs))).1 in omega (arith, s, here, there))
      ]

  others_before : (t i j m : ℕ) → j ≢ i → ActsBefore at t (i + 1) 0 j m → ActsBefore at t i 0 j m
  others_before t i j m other (inl earlier) = inl earlier
  others_before t i j m other (inr (same, inl lower)) = inr (same, inl (omega (arith, lower, other)))
  others_before t i j m other (inr (same, inr own)) = absurd (let b = own.1 in omega (arith, b))

  own_before : (t i j m : ℕ) → (at j m ≢ t) → ActsBefore at t (i + 1) 0 j m → ActsBefore at t i 0 j m
  own_before t i j m not_now (inl earlier) = inl earlier
  own_before t i j m not_now (inr (same, inl lower)) = absurd (not_now same)
  own_before t i j m not_now (inr (same, inr own)) = absurd (not_now same)

  pub noted_one : (ticks : List (List (Option ℕ))) (t i n : ℕ) → HaveRoom c ticks → IsJob c i n → at i n ≡ t → AreNoted c at t i ticks →
      AreNoted c at t (i + 1) (with_noted ticks i n t)
  noted_one ticks t i n room job here before j m its acts =
      elim (cases_eq j i) [
        | inr other ↦ noted_task c ticks i n t room job j m other ∙ before j m its (others_before t i j m other acts)
        | inl same ↦
            elim (cases_eq m n) [
              | inl now ↦
                  ap (λ (x : ℕ). noted_at (with_noted ticks i n t) x m) same ∙ ap (λ (y : ℕ). noted_at (with_noted ticks i n t) i y) now
                  ∙ noted_here c ticks i n t room job ∙ ap (λ (x : ℕ). Some x) (sym here)
                  ∙ ap (λ (y : ℕ). Some (at i y)) (sym now) ∙ ap (λ (x : ℕ). Some (at x m)) (sym same)
              | inr differs ↦
                  ap (λ (x : ℕ). noted_at (with_noted ticks i n t) x m) same ∙ noted_job c ticks i n t room job m differs
                  ∙ ap (λ (x : ℕ). noted_at ticks x m) (sym same)
                  ∙ before j m its (own_before t i j m (λ there. one_at i m n t (subst (λ (x : ℕ). IsJob c x m) same its) job
                  (ap (λ (x : ℕ). at x m) (sym same) ∙ there) here differs) acts)
            ]
      ]

  pub noted_skip : (ticks : List (List (Option ℕ))) (t i : ℕ) (s : ExecState) → HaveActed c at t i 0 s →
      (get_or s.ended i 0 < c.jobs i → at i (get_or s.ended i 0) ≢ t) → AreNoted c at t i ticks → AreNoted c at t (i + 1) ticks
  noted_skip ticks t i s acted other before j m its acts =
      elim (cases_eq j i) [
        | inr differs ↦ before j m its (others_before t i j m differs acts)
        | inl same ↦ before j m its (own_before t i j m (λ there.
            none (subst (λ (x : ℕ). IsJob c x m) same its) (ap (λ (x : ℕ). at x m) (sym same) ∙ there)) acts)
      ]
    where
      none : IsJob c i m → at i m ≡ t → ⊥
      none own here =
          elim (cases_lt m (get_or s.ended i 0)) [
            | inl ended ↦
                elim (acted.left i m own ended) [
                  | inl early ↦ omega (arith, early, here)
                  | inr now ↦ (elim now.1 [ inl lower ↦ omega (arith, lower) | inr mine ↦ (let b = mine.1 in omega (arith, b)) ])
                ]
            | inr not_ended ↦
                elim (cases_eq (get_or s.ended i 0) m) [
                  | inl first ↦ other (let b = own.job in omega (arith, b, first)) (ap (λ (x : ℕ). at i x) first ∙ here)
                  | inr later ↦
                      (let first = sooner i (get_or s.ended i 0) m own (omega (arith, not_ended, later)) in
                      let done = acted.done i (get_or s.ended i 0) first.0 (inl (omega (arith, first.1, here))) in
                      omega (arith, done))
                ]
          ]

  pub all_noted : (ticks : List (List (Option ℕ))) → AreNoted c at c.end 0 ticks → AreAllNoted c at ticks
  all_noted ticks before i n job = before i n job (inl (omega (arith, placing.due i n job, facts.within i n job)))

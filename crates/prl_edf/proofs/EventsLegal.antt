-- The events of a run by earliest deadline first that meets all windows are legal, and in the end each job has ended.
use Rattle.prl_base.proofs.Standard.{◌≡◌, ◌≢◌, ◌+◌, ◌<◌, ◌≤◌, ℕ, zero, suc, List, [], ◌∷◌, Option, Some, None, Bool, cond, length, get_or, replicate, inl, inr, refl, sym, ap, subst, ◌∙◌, arith}
use Rattle.prl_base.proofs.Standard.{cases_lt, cases_eq, get_or-eq_default, get_or-replicate, length-replicate, eqb_tells}
use Rattle.prl_plan.specs.Vocabulary.{IsJob, HasPlanFacts, RunConstants, ExecState, opening, after_event, after_events, IsUnfinished, KeepsLegal, IsLegal, IsComplete}
use Rattle.prl_plan.specs.declared.events.Event.{Event}
use Rattle.prl_plan.specs.declared.events.Event.TheVariants as events
use Rattle.prl_edf.specs.Vocabulary.{units_before, IsReady, AreUnits, IsEdfRun, MeetsAllWindows, acts_of, acts_in, events_to, IsLastBusy, IsUnrolled, HaveOneEnd}
use Rattle.prl_edf.proofs.Acts.{state_of_two, legal_of_two, Follows, acts_well}
use Rattle.prl_edf.proofs.Units.{units_rise, unit_not, unit_none, never_more}

zeros : (n i : ℕ) → get_or (replicate {A = ℕ} n 0) i 0 ≡ 0
zeros n i = elim (cases_lt i n) [
  | inl inside ↦ get_or-replicate n i 0 0 inside
  | inr past ↦ get_or-eq_default (replicate {A = ℕ} n 0) 0 (let e = length-replicate {A = ℕ} n 0 in omega (arith, e, past))
]

module _ (c : RunConstants) (facts : HasPlanFacts c) (one : HaveOneEnd c) (cost units : ℕ → ℕ → ℕ) (run : ℕ → Option (ℕ × ℕ)) (are : AreUnits c cost units)
    (edf : IsEdfRun c units run) (met : MeetsAllWindows c units run) where
  -- at the date `now`, the jobs that have ended are those that have all their units before t
  pub record AgreesAt (now t : ℕ) (s : ExecState) : Type 0 where
    pub date : s.now ≡ now
    pub ended_long : length s.ended ≡ c.tasks
    pub places_long : length s.places ≡ c.tasks
    pub places : (i : ℕ) → get_or s.places i 0 ≡ 0
    pub done : (i n : ℕ) → IsJob c i n → n < get_or s.ended i 0 → units i n ≤ units_before run t i n
    pub left : (i n : ℕ) → IsJob c i n → get_or s.ended i 0 ≤ n → units_before run t i n < units i n

  at_opening : AgreesAt 0 0 (opening c)
  at_opening = record {
    date = refl;
    ended_long = length-replicate c.tasks 0;
    places_long = length-replicate c.tasks 0;
    places = λ i. zeros c.tasks i;
    done = λ i n job ended. absurd (let e = zeros c.tasks i in omega (arith, ended, e));
    left = λ i n job ended. (are i n job).0;
  }

  -- a tick: the jobs that have not ended are not due then
  module _ (t : ℕ) (s : ExecState) (agrees : AgreesAt t (suc t) s) where
    pub may_tick : t < c.end → KeepsLegal c s events.Tick
    may_tick within = record {
      within = (let e = agrees.date in omega (arith, e, within));
      ended = λ i n unfinished.
          (let job : IsJob c i n = record { task = unfinished.task; job = unfinished.job } in
          elim (cases_lt (s.now + 1) (c.deadline i n)) [
            | inl early ↦ early
            | inr due ↦ absurd (let rise = units_rise run i n (c.deadline i n) (suc t) (omega (arith, due, agrees.date)) in omega (arith, rise, agrees.left i n job unfinished.unfinished, met i n job))
          ]);
    }

    after_tick : AgreesAt (suc t) (suc t) (after_event c s events.Tick)
    after_tick = record {
      date = (let e = agrees.date in omega (arith, e));
      ended_long = agrees.ended_long;
      places_long = agrees.places_long;
      places = agrees.places;
      done = agrees.done;
      left = agrees.left;
    }

  module _ (t : ℕ) (s : ExecState) (agrees : AgreesAt t t s) where
    -- an unfinished job that is released is ready
    unfinished_ready : (i n : ℕ) → IsUnfinished c s i n → c.release i n ≤ s.now → IsReady c units run t i n
    unfinished_ready i n unfinished released =
        let job : IsJob c i n = record { task = unfinished.task; job = unfinished.job } in
        record { job = job; released = (let e = agrees.date in omega (arith, e, released)); left = agrees.left i n job unfinished.unfinished }

    -- the earlier jobs of a task have ended by the release of a later one, so the ready job is the first that has not
    is_first : (i n : ℕ) → IsReady c units run t i n → get_or s.ended i 0 ≡ n
    is_first i n ready =
        let job = ready.job in
        let not_more : get_or s.ended i 0 ≤ n = elim (cases_lt n (get_or s.ended i 0)) [
          | inr few ↦ few
          | inl ended ↦ absurd (let all = agrees.done i n job ended in omega (arith, all, ready.left))
        ] in
        let not_less : n ≤ get_or s.ended i 0 = elim (cases_lt (get_or s.ended i 0) n) [
          | inr enough ↦ enough
          | inl earlier ↦ absurd
              (let m : ℕ = get_or s.ended i 0 in
              let is : IsJob c i m = record { task = job.task; job = (let h = job.job in omega (arith, h, earlier)) } in
              let open_yet = agrees.left i m is (omega arith) in
              let rise = units_rise run i m (c.deadline i m) t (omega (arith, facts.apart i m n job earlier, ready.released)) in
              omega (arith, open_yet, met i m is, rise))
        ] in
        omega (arith, not_more, not_less)

    -- the key: the job whose unit this is may act, since no released unfinished job is due earlier
    may_act : (i n : ℕ) → run t ≡ Some (i, n) → KeepsLegal c s (events.Act (record { 0 = i }))
    may_act i n is =
        let ready = edf.timed.ready t i n is in
        let first : get_or s.ended i 0 ≡ n = is_first i n ready in
        let job = ready.job in
        let at_deadline = ap (c.deadline i) first in (
          record { task = job.task; job = (let h = job.job in omega (arith, h, first)); unfinished = omega arith },
          (let r = ready.released in omega (arith, r, agrees.date, ap (c.release i) first)),
          (λ j k _ unfinished released. (let h = edf.earliest t i n j k is (unfinished_ready j k unfinished released) in omega (arith, h, at_deadline))),
        )

    -- where no job has its last unit in this tick, nothing is done
    record ActsAt (list : List Event) : Type 0 where
      pub legal : IsLegal c s list
      pub after : AgreesAt t (suc t) (after_events c s list)

    nothing : ((i n : ℕ) → IsJob c i n → units_before run t i n < units i n → units_before run (suc t) i n < units i n) → ActsAt []
    nothing stays = record {
      legal = tt;
      after = record {
        date = agrees.date;
        ended_long = agrees.ended_long;
        places_long = agrees.places_long;
        places = agrees.places;
        done = λ i n job ended. (let h = agrees.done i n job ended in let rise = units_rise run i n t (suc t) (omega arith) in omega (arith, h, rise));
        left = λ i n job ended. stays i n job (agrees.left i n job ended);
      };
    }

    -- where one has, it does all its acts
    all_acts : (i n : ℕ) → run t ≡ Some (i, n) → units_before run (suc t) i n ≡ units i n → ActsAt (acts_of c i n)
    all_acts i n is last =
        let ready = edf.timed.ready t i n is in
        let first : get_or s.ended i 0 ≡ n = is_first i n ready in
        let task = ready.job.task in
        let end = one.last i n ready.job in
        let long : length (c.actions i n) ≡ suc end.0 = end.1 in
        let well = acts_well c i one n ready.job end.0 s first
        (let p = agrees.places i in omega (arith, p, long))
        (let l = agrees.places_long in omega (arith, l, task))
        (let l = agrees.ended_long in omega (arith, l, task))
        (may_act i n is) in
        let u : ExecState = after_events c s (replicate (suc end.0) (events.Act (record { 0 = i }))) in
        let after : Follows s u i (get_or s.ended i 0 + 1) 0 = well.after in
        let here = after.ended_here in
        let moved : ActsAt (replicate (suc end.0) (events.Act (record { 0 = i }))) = record {
          legal = well.legal;
          after = record {
            date = after.now ∙ agrees.date;
            ended_long = after.ended_long ∙ agrees.ended_long;
            places_long = after.places_long ∙ agrees.places_long;
            places = λ j. elim (cases_eq j i) [
              | inl same ↦ ap (λ (x : ℕ). get_or u.places x 0) same ∙ after.place_here
              | inr other ↦ after.place_there j other ∙ agrees.places j
            ];
            done = λ j k job ended. elim (cases_eq j i) [
              | inl same ↦ (let at : get_or u.ended j 0 ≡ get_or u.ended i 0 = ap (λ (x : ℕ). get_or u.ended x 0) same in
                  let both : get_or s.ended j 0 ≡ get_or s.ended i 0 = ap (λ (x : ℕ). get_or s.ended x 0) same in
                  elim (cases_lt k n) [
                    | inl earlier ↦ (let h = agrees.done j k job (omega (arith, earlier, both, first)) in let rise = units_rise run j k t (suc t) (omega arith) in omega (arith, h, rise))
                    | inr past ↦ (let now : k ≡ n = omega (arith, past, ended, at, here, first) in
                        let e : units j k ≡ units i n = ap (λ (x : ℕ). units x k) same ∙ ap (units i) now in
                        let d : units_before run (suc t) j k ≡ units_before run (suc t) i n = ap (λ (x : ℕ). units_before run (suc t) x k) same ∙ ap (units_before run (suc t) i) now in
                        omega (arith, e, d, last))
                  ])
              | inr other ↦ (let h = agrees.done j k job (omega (arith, ended, after.ended_there j other)) in
                  let rise = units_rise run j k t (suc t) (omega arith) in
                  omega (arith, h, rise))
            ];
            left = λ j k job ended. elim (cases_eq j i) [
              | inl same ↦ (let at : get_or u.ended j 0 ≡ get_or u.ended i 0 = ap (λ (x : ℕ). get_or u.ended x 0) same in
                  let both : get_or s.ended j 0 ≡ get_or s.ended i 0 = ap (λ (x : ℕ). get_or s.ended x 0) same in
                  let later : n < k = omega (arith, ended, at, here, first) in
                  let h = agrees.left j k job (omega (arith, later, both, first)) in
                  let e = unit_not run j k t i n is (λ _ number. omega (arith, number, later)) in
                  omega (arith, h, e))
              | inr other ↦ (let h = agrees.left j k job (omega (arith, ended, after.ended_there j other)) in
                  let e = unit_not run j k t i n is (λ same _. other same) in
                  omega (arith, h, e))
            ];
          };
        } in
        subst (λ (m : ℕ). ActsAt (replicate m (events.Act (record { 0 = i })))) (sym long) moved

    -- the tick does not end a job where it does not end the one that it goes to
    stays_open : (j k : ℕ) → run t ≡ Some (j, k) → units_before run (suc t) j k ≢ units j k → (i n : ℕ) → units_before run t i n < units i n →
        units_before run (suc t) i n < units i n
    stays_open j k is more i n some =
        elim (cases_eq (units_before run (suc t) i n) (units i n)) [
          | inr short ↦ omega (arith, never_more c units run edf.timed i n (suc t), short)
          | inl full ↦ elim (cases_eq i j) [
            | inr other ↦ (let e = unit_not run i n t j k is (λ same _. other same) in omega (arith, e, some))
            | inl task ↦ elim (cases_eq n k) [
              | inr other ↦ (let e = unit_not run i n t j k is (λ _ same. other same) in omega (arith, e, some))
              | inl number ↦ absurd (more
                  (subst (λ (x : ℕ). units_before run (suc t) j x ≡ units j x) number
                  (subst (λ (x : ℕ). units_before run (suc t) x n ≡ units x n) task full)))
            ]
          ]
        ]

    acts_at : (o : Option (ℕ × ℕ)) → run t ≡ o → ActsAt (acts_in c units run t o)
    acts_at None none = nothing (λ i n job some. (let e = unit_none run i n t none in omega (arith, e, some)))
    acts_at (Some job) is = elim (eqb_tells (units_before run (suc t) job.0 job.1) (units job.0 job.1)) [
      | inl last ↦ subst (λ (b : Bool). ActsAt (cond b (acts_of c job.0 job.1) [])) (sym last.0) (all_acts job.0 job.1 is last.1)
      | inr more ↦ subst (λ (b : Bool). ActsAt (cond b (acts_of c job.0 job.1) [])) (sym more.0) (nothing (λ i n _ some. stays_open job.0 job.1 is more.1 i n some))
    ]

  -- the events up to a tick
  record Reaches (t : ℕ) (list : List Event) : Type 0 where
    pub legal : IsLegal c (opening c) list
    pub after : AgreesAt t (suc t) (after_events c (opening c) list)

  reaches : (t : ℕ) → t < c.end → Reaches t (events_to c units run t)
  reaches zero within = (let acts = acts_at 0 (opening c) at_opening (run 0) refl in record { legal = acts.legal; after = acts.after })
  reaches (suc t) within =
      let before = reaches t (omega (arith, within)) in
      let list : List Event = events_to c units run t in
      let s : ExecState = after_events c (opening c) list in
      let acts = acts_at (suc t) (after_event c s events.Tick) (after_tick t s before.after) (run (suc t)) refl in
      let more : List Event = acts_in c units run (suc t) (run (suc t)) in
      record {
        legal = legal_of_two c (opening c) list (events.Tick ∷ more) before.legal (may_tick t s before.after (omega (arith, within)), acts.legal);
        after = subst (λ (x : ExecState). AgreesAt (suc t) (suc (suc t)) x) (sym (state_of_two c (opening c) list (events.Tick ∷ more))) acts.after;
      }

  -- after the last tick that goes to a job each has all its units
  still : (t : ℕ) → ((k : ℕ) → t < k → run k ≡ None) → (i n k : ℕ) → units_before run k i n ≤ units_before run (suc t) i n
  still t last i n zero = omega arith
  still t last i n (suc k) = elim (cases_lt t k) [
    | inr early ↦ units_rise run i n (suc k) (suc t) (omega (arith, early))
    | inl late ↦ (let rest = still t last i n k in let e = unit_none run i n k (last k late) in omega (arith, rest, e))
  ]

  abbrev pub AreLegal : List Event → Type 0
  AreLegal list = IsLegal c (opening c) list × IsComplete c (after_events c (opening c) list)

  some_events : (t : ℕ) → IsLastBusy run t → AreLegal (events_to c units run t)
  some_events t is =
      let within : t < c.end = elim (cases_lt t c.end) [ inl early ↦ early | inr late ↦ absurd (is.busy (edf.timed.ends t late)) ] in
      let reached = reaches t within in
      let s : ExecState = after_events c (opening c) (events_to c units run t) in (
        reached.legal,
        (λ i n task number. elim (cases_lt n (get_or s.ended i 0)) [
          | inl ended ↦ ended
          | inr open_yet ↦ absurd
              (let job : IsJob c i n = record { task = task; job = number } in
              omega (arith, reached.after.left i n job open_yet, met i n job, still t is.last i n (c.deadline i n)))
        ]),
      )

  never_busy : ((t : ℕ) → run t ≡ None) → (i n t : ℕ) → units_before run t i n ≡ 0
  never_busy none i n zero = refl
  never_busy none i n (suc t) = (let rest = never_busy none i n t in let e = unit_none run i n t (none t) in omega (arith, rest, e))

  pub events_legal : (list : List Event) → IsUnrolled c units run list → AreLegal list
  events_legal list (inr some) = subst AreLegal (sym some.2) (some_events some.0 some.1)
  events_legal list (inl never) = subst AreLegal (sym never.1) (
    tt,
    (λ i n task number. absurd
        (let job : IsJob c i n = record { task = task; job = number } in
        omega (arith, met i n job, (are i n job).0, never_busy never.0 i n (c.deadline i n)))),
  )

-- A run by earliest deadline first, made segment by segment.
use Rattle.prl_base.proofs.Standard.{◌≡◌, ◌+◌, ◌-◌, ◌<◌, ◌≤◌, ◌⊎◌, ℕ, zero, suc, List, set, Option, Some, None, inl, inr, refl, sym, ap, subst, ◌∙◌, arith, MatchOption, cases_lt, cases_eq}
use Rattle.prl_base.proofs.Standard.{get_or-set_at, get_or-set_other}
use Rattle.std.proofs.lemmas.List.{length-set}
use Rattle.prl_plan.specs.Vocabulary.{IsJob, HasPlanFacts, RunConstants}
use Rattle.prl_edf.specs.Vocabulary.{units_before, IsReady, IsPlainRun, IsFirstMiss, MeetsAllWindows, Rest, Ready, Choice, Extends, rest_of, IsFirstReady, NoneReady, IsChoice, IsRestOf, IsDoneTask}
use Rattle.prl_edf.specs.Vocabulary.{IsFresh, IsPlainTo, IsGoing}
use Rattle.prl_edf.proofs.Units.{some_or_none, units_rise, unit_not, unit_none, unit_more}

-- what an option is
which : (o : Option Rest) → (o ≡ None) ⊎ ((q : Rest) × (o ≡ Some q))
which None = inl refl
which (Some q) = inr (q, refl)

-- the parts of what a tick goes to
abbrev task_of : Option (ℕ × ℕ) → ℕ
task_of None = 0
task_of (Some job) = job.0

abbrev number_of : Option (ℕ × ℕ) → ℕ
number_of None = 0
number_of (Some job) = job.1

pub some_is_some : (o : Option (ℕ × ℕ)) (a b i n : ℕ) → o ≡ Some (a, b) → o ≡ Some (i, n) → (a ≡ i) × (b ≡ n)
some_is_some o a b i n x y = (ap task_of (sym x ∙ y), ap number_of (sym x ∙ y))

pub none_is_some : (o : Option (ℕ × ℕ)) (i n : ℕ) → o ≡ None → o ≡ Some (i, n) → ⊥
none_is_some o i n none some = cc

-- runs that agree before t
module _ (run next : ℕ → Option (ℕ × ℕ)) where
  pub same_units : (t : ℕ) → ((s : ℕ) → s < t → next s ≡ run s) → (i n : ℕ) → units_before next t i n ≡ units_before run t i n
  same_units zero same i n = refl
  same_units (suc t) same i n =
      let rest = same_units t (λ s h. same s (omega (arith, h))) i n in
      let here = same t (omega arith) in
      elim (some_or_none (run t)) [
        | inl none ↦ (let e = unit_none run i n t none in let d = unit_none next i n t (here ∙ none) in omega (arith, e, d, rest))
        | inr some ↦ go some.0 some.1 some.2 rest here
      ]
    where
      go : (j k : ℕ) → run t ≡ Some (j, k) → units_before next t i n ≡ units_before run t i n → next t ≡ run t → units_before next (suc t) i n ≡ units_before run (suc t) i n
      go j k is rest here = elim (cases_eq i j) [
        | inr other ↦ (let e = unit_not run i n t j k is (λ x _. other x) in let d = unit_not next i n t j k (here ∙ is) (λ x _. other x) in omega (arith, e, d, rest))
        | inl task ↦ elim (cases_eq n k) [
          | inr other ↦ (let e = unit_not run i n t j k is (λ _ x. other x) in let d = unit_not next i n t j k (here ∙ is) (λ _ x. other x) in omega (arith, e, d, rest))
          | inl number ↦
              (let at : run t ≡ Some (i, n) = is ∙ ap (λ (x : ℕ). Some (x, k)) (sym task) ∙ ap (λ (x : ℕ). Some (i, x)) (sym number) in
              let d = unit_more next i n t (here ∙ at) in
              omega (arith, unit_more run i n t at, d, rest))
        ]
      ]

  module _ (from to : ℕ) where
    -- the ticks from `from` on leave a job its units
    left_units : (i n : ℕ) → ((s : ℕ) → s < from → next s ≡ run s) → ((t : ℕ) → from ≤ t → t < to → units_before next (suc t) i n ≡ units_before next t i n) →
        (t : ℕ) → from ≤ t → t ≤ to → units_before next t i n ≡ units_before run from i n
    left_units i n before left zero h le = (let e : from ≡ 0 = omega (arith, h) in subst (λ (x : ℕ). units_before next 0 i n ≡ units_before run x i n) (sym e) refl)
    left_units i n before left (suc t) h le = elim (cases_lt t from) [
      | inl earlier ↦ (let e : suc t ≡ from = omega (arith, earlier, h) in subst (λ (x : ℕ). units_before next x i n ≡ units_before run from i n) (sym e) (same_units from before i n))
      | inr later ↦ left t later le ∙ left_units i n before left t later (omega (arith, le))
    ]

    -- they go to none
    pub idle_units : Extends run next from to None → (i n t : ℕ) → from ≤ t → t ≤ to → units_before next t i n ≡ units_before run from i n
    idle_units ext i n = left_units i n ext.before (λ t later le. unit_none next i n t (ext.here t later le))

    -- to job k of task j
    pub other_units : (j k : ℕ) → Extends run next from to (Some (j, k)) → (i n t : ℕ) → (i ≡ j → n ≡ k → ⊥) → from ≤ t → t ≤ to →
        units_before next t i n ≡ units_before run from i n
    other_units j k ext i n t other = left_units i n ext.before (λ s later le. unit_not next i n s j k (ext.here s later le) other) t

    pub its_units : (j k : ℕ) → Extends run next from to (Some (j, k)) → (t : ℕ) → from ≤ t → t ≤ to → units_before next t j k + from ≡ units_before run from j k + t
    its_units j k ext zero h le = (let e : from ≡ 0 = omega (arith, h) in subst (λ (x : ℕ). units_before next 0 j k + x ≡ units_before run x j k + 0) (sym e) refl)
    its_units j k ext (suc t) h le = elim (cases_lt t from) [
      | inl before ↦ (let e : suc t ≡ from = omega (arith, before, h) in
          let s = same_units from (λ s early. ext.before s early) j k in
          subst (λ (x : ℕ). units_before next x j k + from ≡ units_before run from j k + x) (sym e) (omega (arith, s)))
      | inr later ↦ (let rest = its_units j k ext t later (omega (arith, le)) in let e = unit_more next j k t (ext.here t later le) in omega (arith, rest, e))
    ]

module _ (c : RunConstants) (facts : HasPlanFacts c) (units : ℕ → ℕ → ℕ) where
  -- dates rise along the jobs of a task
  dates_rise : (i m n : ℕ) → IsJob c i n → m ≤ n → (c.release i m ≤ c.release i n) × (c.deadline i m ≤ c.deadline i n)
  dates_rise i m n job le = elim (cases_lt m n) [
    | inl less ↦
        (let earlier : IsJob c i m = record { task = job.task; job = (let h = job.job in omega (arith, h, less)) } in
        let apart = facts.apart i m n job less in
        (omega (arith, apart, facts.window i m earlier), omega (arith, apart, facts.window i n job)))
    | inr past ↦ (let e : m ≡ n = omega (arith, le, past) in
        (subst (λ (x : ℕ). c.release i x ≤ c.release i n) (sym e) (omega arith), subst (λ (x : ℕ). c.deadline i x ≤ c.deadline i n) (sym e) (omega arith)))
  ]

  -- what is kept serves as long as the units stay
  kept_same : (run next : ℕ → Option (ℕ × ℕ)) (now to i : ℕ) → ((n : ℕ) → units_before next to i n ≡ units_before run now i n) → (o : Option Rest) →
      MatchOption o (IsDoneTask c units run now i) (IsRestOf c units run now i) → MatchOption o (IsDoneTask c units next to i) (IsRestOf c units next to i)
  kept_same run next now to i same None done = λ n inside. same n ∙ done n inside
  kept_same run next now to i same (Some q) kept = record {
    inside = kept.inside;
    release = kept.release;
    deadline = kept.deadline;
    some = kept.some;
    units_left = (let e = same q.job in let d = kept.units_left in omega (arith, e, d));
    earlier = λ n less. same n ∙ kept.earlier n less;
    later = λ n more. same n ∙ kept.later n more;
  }

  -- readiness depends on the ticks before alone
  pub ready_same : (run next : ℕ → Option (ℕ × ℕ)) (t : ℕ) → ((i n : ℕ) → units_before next t i n ≡ units_before run t i n) → (i n : ℕ) → IsReady c units next t i n → IsReady c units run t i n
  ready_same run next t same i n ready = record { job = ready.job; released = ready.released; left = (let e = same i n in let h = ready.left in omega (arith, e, h)) }

  module _ (run : ℕ → Option (ℕ × ℕ)) (now : ℕ) (rests : List (Option Rest)) (going : IsGoing c units run now rests) where
    -- what acts, acts before now
    acts_before : (t i n : ℕ) → run t ≡ Some (i, n) → t < now
    acts_before t i n is = elim (cases_lt t now) [ inl less ↦ less | inr from ↦ absurd (none_is_some (run t) i n (going.plain.rest t from) is) ]

    done_task : (j : ℕ) → j < c.tasks → rest_of rests j ≡ None → IsDoneTask c units run now j
    done_task j task is = subst (λ (o : Option Rest). MatchOption o (IsDoneTask c units run now j) (IsRestOf c units run now j)) is (going.kept_rests.each j task)

    rest_task : (j : ℕ) → j < c.tasks → (q : Rest) → rest_of rests j ≡ Some q → IsRestOf c units run now j q
    rest_task j task q is = subst (λ (o : Option Rest). MatchOption o (IsDoneTask c units run now j) (IsRestOf c units run now j)) is (going.kept_rests.each j task)

    -- a job with units left stands at the first such job of its task or after it
    record StandsAt (j k : ℕ) : Type 0 where
      pub rest : Rest
      pub is : rest_of rests j ≡ Some rest
      pub kept : IsRestOf c units run now j rest
      pub release : rest.release ≤ c.release j k
      pub deadline : rest.deadline ≤ c.deadline j k

    stands : (j k : ℕ) → IsJob c j k → units_before run now j k < units j k → StandsAt j k
    stands j k job some = elim (which (rest_of rests j)) [
      | inl none ↦ absurd (let e = done_task j job.task none k job.job in omega (arith, e, some))
      | inr found ↦
          (let q : Rest = found.0 in
          let kept = rest_task j job.task q found.1 in
          let from : q.job ≤ k = elim (cases_lt k q.job) [
            | inl before ↦ absurd (let e = kept.earlier k before in omega (arith, e, some))
            | inr past ↦ past
          ] in
          let rise = dates_rise j q.job k job from in
          record { rest = q; is = found.1; kept = kept; release = omega (arith, kept.release, rise.0); deadline = omega (arith, kept.deadline, rise.1) })
    ]

    module _ (choice : Choice) (chosen : IsChoice rests now c.end c.tasks choice) where
      -- a job that is ready before the next release is of a task that is ready now
      stands_ready : (s : ℕ) → s < choice.next → (j k : ℕ) → c.release j k ≤ s → (at : StandsAt j k) → IsJob c j k → at.rest.release ≤ now
      stands_ready s before j k released at job = elim (cases_lt now at.rest.release) [
        | inr early ↦ early
        | inl late ↦ absurd (let h = chosen.next j at.rest job.task at.is late in let r = at.release in omega (arith, h, r, before, released))
      ]

      -- where no task is ready, the ticks up to the next release go to none
      module _ (none : NoneReady rests now c.tasks) where
        nothing_ready : (next : ℕ → Option (ℕ × ℕ)) → Extends run next now choice.next None → (s j k : ℕ) → now ≤ s → s < choice.next → IsReady c units next s j k → ⊥
        nothing_ready next ext s j k from before ready =
            let same = idle_units run next now choice.next ext j k s from (omega (arith, before)) in
            let at = stands j k ready.job (omega (arith, same, ready.left)) in
            omega (arith, stands_ready s before j k ready.released at ready.job, none j at.rest ready.job.task at.is)

        idle_run : Extends run run now choice.next None
        idle_run = record { before = λ t _. refl; here = λ t from _. going.plain.rest t from; after = λ t late. going.plain.rest t (omega (arith, late, going.within, chosen.within)) }

        pub idle_goes_on : now < choice.next → IsGoing c units run choice.next rests
        idle_goes_on more =
            let same = (λ (i n : ℕ). idle_units run run now choice.next idle_run i n choice.next (omega (arith, more)) (omega arith)) in
            let old = going.plain in
            record {
              kept_rests = record { tasks = going.kept_rests.tasks; each = λ i task. kept_same run run now choice.next i (same i) (rest_of rests i) (going.kept_rests.each i task) };
              plain = record {
                ready = λ t i n early is. old.ready t i n (acts_before t i n is) is;
                earliest = λ t i n j k early is ready. old.earliest t i n j k (acts_before t i n is) is ready;
                lowest = λ t i n j k early is ready tie. old.lowest t i n j k (acts_before t i n is) is ready tie;
                busy = λ t j k early is ready. elim (cases_lt t now) [ inl less ↦ old.busy t j k less is ready | inr from ↦ nothing_ready run idle_run t j k from early ready ];
                rest = λ t late. old.rest t (omega (arith, late, more));
              };
              within = chosen.within;
              kept = λ i n job some.
                  (let at = stands i n job (omega (arith, some, same i n)) in
                  let late = none i at.rest job.task at.is in
                  omega (arith, chosen.next i at.rest job.task at.is late, at.release, facts.window i n job));
              met = λ i n job all. going.met i n job (let e = same i n in omega (arith, all, e));
            }

        -- and where none is released any more, the run is whole
        all_done : choice.next ≡ c.end → (i n : ℕ) → IsJob c i n → units i n ≤ units_before run now i n
        all_done over i n job = elim (cases_lt (units_before run now i n) (units i n)) [
          | inr all ↦ all
          | inl some ↦ absurd
              (let at = stands i n job some in
              let late = none i at.rest job.task at.is in
              omega (arith, chosen.next i at.rest job.task at.is late, at.release, facts.window i n job, facts.within i n job, over))
        ]

        pub run_is_whole : choice.next ≡ c.end → IsPlainRun c units run × MeetsAllWindows c units run
        run_is_whole over =
            let old = going.plain in (
              record {
                edf = record {
                  timed = record {
                    ready = λ t i n is. old.ready t i n (acts_before t i n is) is;
                    ends = λ t late. old.rest t (let w = going.within in omega (arith, late, w));
                  };
                  earliest = λ t i n j k is ready. old.earliest t i n j k (acts_before t i n is) is ready;
                  busy = λ t j k early is ready. elim (cases_lt t now) [
                    | inl less ↦ old.busy t j k less is ready
                    | inr from ↦ (let all = all_done over j k ready.job in let left = ready.left in let rise = units_rise run j k now t from in omega (arith, all, left, rise))
                  ];
                };
                lowest = λ t i n j k is ready tie. old.lowest t i n j k (acts_before t i n is) is ready tie;
              },
              (λ i n job. going.met i n job (all_done over i n job)),
            )

      -- the first ready task goes on up to `to`
      module _ (ready : Ready) (first : IsFirstReady rests now c.tasks ready) where
        pub kept_first : IsRestOf c units run now ready.task.0 ready.rest
        kept_first = rest_task ready.task.0 first.below ready.rest first.is

        first_job : IsJob c ready.task.0 ready.rest.job
        first_job = record { task = first.below; job = kept_first.inside }

        pub before_next : now < ready.rest.deadline → now < choice.next
        before_next early = elim chosen.later [
          | inr later ↦ later
          | inl last ↦ (let d = kept_first.deadline in let e = facts.within ready.task.0 ready.rest.job first_job in omega (arith, d, e, last, early))
        ]

        module _ (to : ℕ) (more : now < to) (in_next : to ≤ choice.next) (in_window : to ≤ ready.rest.deadline) (no_more : to ≤ now + ready.rest.units) (next : ℕ → Option (ℕ × ℕ))
            (ext : Extends run next now to (Some (ready.task.0, ready.rest.job))) where
          others : (i n : ℕ) → (i ≡ ready.task.0 → n ≡ ready.rest.job → ⊥) → units_before next to i n ≡ units_before run now i n
          others i n other = other_units run next now to ready.task.0 ready.rest.job ext i n to other (omega (arith, more)) (omega arith)

          own : units_before next to ready.task.0 ready.rest.job + now ≡ units_before run now ready.task.0 ready.rest.job + to
          own = its_units run next now to ready.task.0 ready.rest.job ext to (omega (arith, more)) (omega arith)

          in_time : (j k : ℕ) → IsJob c j k → units_before run now j k < units j k → to ≤ c.deadline j k
          in_time j k job some =
              let at = stands j k job some in
              elim (cases_lt now at.rest.release) [
                | inr early ↦ (let h = first.earliest j at.rest job.task at.is early in omega (arith, h, at.deadline, in_window))
                | inl late ↦ (let h = chosen.next j at.rest job.task at.is late in let r = at.release in let w = facts.window j k job in omega (arith, h, r, w, in_next))
              ]

          early_same : (t : ℕ) → t ≤ now → (i n : ℕ) → units_before next t i n ≡ units_before run t i n
          early_same t h = same_units run next t (λ s early. ext.before s (omega (arith, early, h)))

          had : (j k : ℕ) → units_before run now j k ≤ units_before next to j k
          had j k = (let e = early_same now (omega arith) j k in let rise = units_rise next j k now to (omega (arith, more)) in omega (arith, e, rise))

          -- a job that is ready at a tick of the segment is of a task that was ready at its beginning
          record IsRival (j k : ℕ) : Type 0 where
            pub earliest : c.deadline ready.task.0 ready.rest.job ≤ c.deadline j k
            pub lowest : c.deadline ready.task.0 ready.rest.job ≡ c.deadline j k → ready.task.0 ≤ j

          rival : (t j k : ℕ) → now ≤ t → t < to → IsReady c units next t j k → IsRival j k
          rival t j k from early is =
              let e = early_same now (omega arith) j k in
              let at = stands j k is.job (omega (arith, is.left, e, units_rise next j k now t from)) in
              let released = stands_ready t (omega (arith, early, in_next)) j k is.released at is.job in
              let h = first.earliest j at.rest is.job.task at.is released in
              let d = at.deadline in
              let due = kept_first.deadline in
              record {
                earliest = omega (arith, h, d, due);
                lowest = λ tie. first.lowest j at.rest is.job.task at.is released (omega (arith, h, d, due, tie));
              }

          own_ready : (t : ℕ) → now ≤ t → t < to → IsReady c units next t ready.task.0 ready.rest.job
          own_ready t from early = record {
            job = first_job;
            released = (let r = kept_first.release in let h = first.released in omega (arith, r, h, from));
            left = (let e = its_units run next now to ready.task.0 ready.rest.job ext t from (omega (arith, early)) in let u = kept_first.units_left in omega (arith, e, u, early, no_more));
          }

          goes_plain : IsPlainTo c units next to
          goes_plain =
              let old = going.plain in
              record {
                ready = λ t i n early is. elim (cases_lt t now) [
                  | inl less ↦ ready_same next run t (λ j k. sym (early_same t (omega (arith, less)) j k)) i n (old.ready t i n less (sym (ext.before t less) ∙ is))
                  | inr from ↦ (let e = some_is_some (next t) ready.task.0 ready.rest.job i n (ext.here t from early) is in
                      subst (λ (x : ℕ). IsReady c units next t i x) e.1 (subst (λ (x : ℕ). IsReady c units next t x ready.rest.job) e.0 (own_ready t from early)))
                ];
                earliest = λ t i n j k early is was. elim (cases_lt t now) [
                  | inl less ↦ old.earliest t i n j k less (sym (ext.before t less) ∙ is) (ready_same run next t (early_same t (omega (arith, less))) j k was)
                  | inr from ↦ (let e = some_is_some (next t) ready.task.0 ready.rest.job i n (ext.here t from early) is in
                      subst (λ (x : ℕ). c.deadline i x ≤ c.deadline j k) e.1 (subst (λ (x : ℕ). c.deadline x ready.rest.job ≤ c.deadline j k) e.0 (rival t j k from early was).earliest))
                ];
                lowest = λ t i n j k early is was tie. elim (cases_lt t now) [
                  | inl less ↦ old.lowest t i n j k less (sym (ext.before t less) ∙ is) (ready_same run next t (early_same t (omega (arith, less))) j k was) tie
                  | inr from ↦ (let e = some_is_some (next t) ready.task.0 ready.rest.job i n (ext.here t from early) is in
                      let own : c.deadline ready.task.0 ready.rest.job ≡ c.deadline i n = ap (λ (x : ℕ). c.deadline x ready.rest.job) e.0 ∙ ap (c.deadline i) e.1 in
                      let low = (rival t j k from early was).lowest (own ∙ tie) in
                      omega (arith, low, e.0))
                ];
                busy = λ t j k early is was. elim (cases_lt t now) [
                  | inl less ↦ old.busy t j k less (sym (ext.before t less) ∙ is) (ready_same run next t (early_same t (omega (arith, less))) j k was)
                  | inr from ↦ none_is_some (next t) ready.task.0 ready.rest.job is (ext.here t from early)
                ];
                rest = ext.after;
              }

          pub goes_on : (left : Option Rest) → MatchOption left (IsDoneTask c units next to ready.task.0) (IsRestOf c units next to ready.task.0) →
              IsGoing c units next to (set rests ready.task.0 left)
          goes_on left kept = record {
            kept_rests = record {
              tasks = length-set rests ready.task.0 left ∙ going.kept_rests.tasks;
              each = λ j task. elim (cases_eq j ready.task.0) [
                | inl same ↦
                    (let here : rest_of (set rests ready.task.0 left) j ≡ left =
                    get_or-set_at rests ready.task.0 j left None same (let l = going.kept_rests.tasks in let b = first.below in omega (arith, l, b)) in
                    subst (λ (o : Option Rest). MatchOption o (IsDoneTask c units next to j) (IsRestOf c units next to j)) (sym here)
                    (subst (λ (x : ℕ). MatchOption left (IsDoneTask c units next to x) (IsRestOf c units next to x)) (sym same) kept))
                | inr other ↦
                    subst (λ (o : Option Rest). MatchOption o (IsDoneTask c units next to j) (IsRestOf c units next to j)) (sym (get_or-set_other rests ready.task.0 j left None other))
                    (kept_same run next now to j (λ n. others j n (λ x _. other x)) (rest_of rests j)
                    (going.kept_rests.each j task))
              ];
            };
            plain = goes_plain;
            within = (let w = chosen.within in omega (arith, w, in_next));
            kept = λ j k job some. in_time j k job (let h = had j k in omega (arith, h, some));
            met = λ j k job all. elim (cases_lt (units_before run now j k) (units j k)) [
              | inl some ↦ (let rise = units_rise next j k to (c.deadline j k) (in_time j k job some) in omega (arith, rise, all))
              | inr done ↦ elim (cases_lt now (c.deadline j k)) [
                | inl later ↦ (let e = early_same now (omega arith) j k in let rise = units_rise next j k now (c.deadline j k) (omega (arith, later)) in omega (arith, e, rise, done))
                | inr past ↦ (let e = early_same (c.deadline j k) past j k in let h = going.met j k job done in omega (arith, e, h))
              ]
            ];
          }

          -- what is left of the job that has gone on, where it is not done
          pub rest_shorter : (units_then : ℕ) → units_then + (to - now) ≡ ready.rest.units → 1 ≤ units_then → IsRestOf c units next to ready.task.0 (record ready.rest { units = units_then })
          rest_shorter units_then is some = record {
            inside = kept_first.inside;
            release = kept_first.release;
            deadline = kept_first.deadline;
            some = some;
            units_left = omega (arith, own, kept_first.units_left, is, more);
            earlier = λ n less. others ready.task.0 n (λ _ x. omega (arith, x, less)) ∙ kept_first.earlier n less;
            later = λ n later. others ready.task.0 n (λ _ x. omega (arith, x, later)) ∙ kept_first.later n later;
          }

          -- and of its task, where it is
          its_done : to ≡ now + ready.rest.units → units_before next to ready.task.0 ready.rest.job ≡ units ready.task.0 ready.rest.job
          its_done is = omega (arith, own, kept_first.units_left, is)

          up_to_it : to ≡ now + ready.rest.units → (n : ℕ) → n ≤ ready.rest.job → units_before next to ready.task.0 n ≡ units ready.task.0 n
          up_to_it is n le = elim (cases_lt n ready.rest.job) [
            | inl less ↦ others ready.task.0 n (λ _ x. omega (arith, x, less)) ∙ kept_first.earlier n less
            | inr past ↦ (let e : ready.rest.job ≡ n = omega (arith, past, le) in subst (λ (x : ℕ). units_before next to ready.task.0 x ≡ units ready.task.0 x) e (its_done is))
          ]

          pub rest_next : to ≡ now + ready.rest.units → (left : Option Rest) →
              MatchOption left (c.jobs ready.task.0 ≤ ready.rest.job + 1) (IsFresh c units ready.task.0 (ready.rest.job + 1)) →
              MatchOption left (IsDoneTask c units next to ready.task.0) (IsRestOf c units next to ready.task.0)
          rest_next is None over = λ n inside. up_to_it is n (omega (arith, over, inside))
          rest_next is (Some q) fresh = (let at = fresh.job in record {
            inside = (let h = fresh.inside in omega (arith, at, h));
            release = fresh.release;
            deadline = fresh.deadline;
            some = fresh.some;
            units_left = omega (arith, others ready.task.0 q.job (λ _ x. omega (arith, x, at)), kept_first.later q.job (omega (arith, at)), fresh.units_all);
            earlier = λ n less. up_to_it is n (omega (arith, less, at));
            later = λ n later. others ready.task.0 n (λ _ x. omega (arith, x, later, at)) ∙ kept_first.later n (omega (arith, later, at));
          })

        -- a job that is due now, at the latest, is the first that each plain run misses
        module _ (late : ready.rest.deadline ≤ now) (other : ℕ → Option (ℕ × ℕ)) (whole : IsPlainRun c units other) (agrees : (t : ℕ) → t < now → other t ≡ run t) where
          before_same : (t : ℕ) → t ≤ now → (i n : ℕ) → units_before other t i n ≡ units_before run t i n
          before_same t h = same_units run other t (λ s early. agrees s (omega (arith, early, h)))

          own_left : units_before run now ready.task.0 ready.rest.job < units ready.task.0 ready.rest.job
          own_left = (let u = kept_first.units_left in let s = kept_first.some in omega (arith, u, s))

          due_now : c.deadline ready.task.0 ready.rest.job ≡ now
          due_now = (let d = kept_first.deadline in let k = going.kept ready.task.0 ready.rest.job first_job own_left in omega (arith, d, k, late))

          -- a job that misses its window by now has units left now
          still_left : (j k : ℕ) → IsJob c j k → units_before other (c.deadline j k) j k < units j k → c.deadline j k ≤ now → units_before run now j k < units j k
          still_left j k job misses due = elim (cases_lt (units_before run now j k) (units j k)) [
            | inl some ↦ some
            | inr done ↦ absurd (let h = going.met j k job done in let e = before_same (c.deadline j k) due j k in omega (arith, h, e, misses))
          ]

          pub is_first_miss : IsFirstMiss c units other ready.task.0 ready.rest.job
          is_first_miss = record {
            job = first_job;
            misses = subst (λ (t : ℕ). units_before other t ready.task.0 ready.rest.job < units ready.task.0 ready.rest.job) (sym due_now)
                (let e = before_same now (omega arith) ready.task.0 ready.rest.job in omega (arith, e, own_left));
            earliest = λ j k job misses. elim (cases_lt (c.deadline j k) now) [
              | inr past ↦ omega (arith, past, due_now)
              | inl early ↦ absurd (let some = still_left j k job misses (omega (arith, early)) in let h = going.kept j k job some in omega (arith, h, early))
            ];
            lowest = λ j k job misses tie.
                (let some = still_left j k job misses (omega (arith, tie, due_now)) in
                let at = stands j k job some in
                let released : at.rest.release ≤ now = omega (arith, at.release, facts.window j k job, tie, due_now) in
                first.lowest j at.rest job.task at.is released (omega (arith, first.earliest j at.rest job.task at.is released, at.deadline, kept_first.deadline, tie)));
          }

-- One thread does the list of a table.
use Rattle.prl_base.proofs.Standard.{◌≡◌, ◌≢◌, ◌+◌, ◌-◌, ◌<◌, ◌≤◌, ◌++◌, ◌^◌, ℕ, suc, Bool, true, false, List, [], ◌∷◌, length, get_or, refl, sym, ◌∙◌, ap, subst, arith, inl, inr, Option, Some, None}
use Rattle.prl_base.proofs.Standard.{cond, set, slice_get, replicate, cases_eq, cases_lt, leb_tells, get_or-set_at, get_or-set_other, get_or-replicate, slice_get-get_or, slice_get_within}
use Rattle.prl_plan.specs.Vocabulary.{IsJob, HasPlanFacts, constants_of, PlanView, KeepsGated, RunConstants, ExecState, opening, after_event, after_events}
use Rattle.prl_plan.specs.declared.events.Event.{Event}
use Rattle.prl_plan.specs.declared.horizons.Horizon.{Horizon}
use Rattle.prl_plan.specs.declared.events.Event.TheVariants as events
use Rattle.prl_rule.specs.Vocabulary.{run_of, reached, LookTold, looked, ticked}
use Rattle.prl_rule.specs.declared.views.ClockPart.{ClockPart}
use Rattle.prl_rule.specs.declared.views.Constants.{Constants}
use Rattle.prl_rule.specs.declared.views.View.{View}
use Rattle.prl_seats.specs.JobSeats.{JobSeatView, IsStage}
use Rattle.prl_seats.specs.declared.jobs.Stage.{Stage}
use Rattle.prl_seats.specs.declared.jobs.Stage.TheVariants as stages
use Rattle.prl_board.specs.Vocabulary.{LoneView, IsClockCall, IsTicked, IsWhole, first_clock}
use Rattle.prl_board.specs.declared.clocks.Ticked.{Ticked}
use Rattle.prl_board.specs.declared.clocks.Ticked.TheVariants as ticks
use Rattle.prl_exec.specs.Standing.{HasSeen, HasSeenDue, IsPolled, RunLaws, StandsIn, act_of}
use Rattle.prl_board.proofs.Lists.{seat_there}
use Rattle.prl_exec.proofs.Rounds.{looked_at, ticked_on}
use Rattle.prl_track.proofs.Places.{slice_get_set_same, slice_get_set_other}
use Rattle.prl_tables.specs.Vocabulary.{CheckedView, last_unit, Placing, HaveActed}
use Rattle.prl_tables.proofs.Ends.{has_ends}
use Rattle.prl_tables.proofs.Unrolling as unrolling
use Rattle.prl_table.specs.code.Driving.{acts_at, next_act, AreFirst, IsAhead, IsBoardOf, IsDriven, IsJobDone, IsNextJob}

-- the state after one event more
abbrev pub OneMore : RunConstants → Type 0
OneMore c = (s : ExecState) (first second : List Event) → after_events c s (first ++ second) ≡ after_events c (after_events c s first) second

-- what a noted tick tells
pub noted_acts : (c : RunConstants) (at : Placing) (i n t : ℕ) → next_act c at i n ≡ Some t → (n < c.jobs i) × (at i n ≡ t)
noted_acts c at i n t is = elim (leb_tells (suc n) (c.jobs i)) [
  | inl below ↦ (below.1, (let e : Some (at i n) ≡ Some t = sym (ap (λ (b : Bool). cond b (Some (at i n)) None) below.0) ∙ is in cc e))
  | inr past ↦ absurd (let e : ◌≡◌ {A = Option ℕ} None (Some t) = sym (ap (λ (b : Bool). cond b (Some (at i n)) None) past.0) ∙ is in cc e)
]

-- and one that is another
pub noted_other : (c : RunConstants) (at : Placing) (i n t : ℕ) → (next_act c at i n ≡ Some t → ⊥) → n < c.jobs i → at i n ≢ t
noted_other c at i n t other below = λ same. elim (leb_tells (suc n) (c.jobs i)) [
  | inl yes_it ↦ other (ap (λ (b : Bool). cond b (Some (at i n)) None) yes_it.0 ∙ ap Some same)
  | inr not_it ↦ (let m = not_it.1 in omega (arith, m, below))
]

-- nothing has changed for a task of which as many jobs have ended
ahead_kept : (c : RunConstants) (at : Placing) (part : ClockPart) (noted : List (Option ℕ)) (s r : ExecState) (j : ℕ) → get_or r.ended j 0 ≡ get_or s.ended j 0 →
    IsAhead c at part noted s j → IsAhead c at part noted r j
ahead_kept c at part noted s r j same ahead = record {
  seen = ahead.seen ∙ sym same;
  next = ahead.next ∙ ap (λ (n : ℕ). Some (next_act c at j n)) (sym same);
}

same_part : (a b : ClockPart) → Some a ≡ Some b → a ≡ b
same_part a b e = cc

same_noted : (a b : Option ℕ) → ◌≡◌ {A = Option (Option ℕ)} (Some a) (Some b) → a ≡ b
same_noted a b e = cc

polled : (c : RunConstants) (i : ℕ) (l : LoneView) (r : ClockPart) (list : List Event) → KeepsGated c (reached c list) (act_of i) → (b : Bool) → IsPolled c i l r list b →
    StandsIn c l r (list ++ act_of i ∷ [])
polled c i l r list keeps true answer = answer
polled c i l r list keeps false answer = absurd (answer.1 keeps)

module _ (k : Constants) (table : CheckedView) (is : IsBoardOf k table) (facts : HasPlanFacts (run_of k)) (state : OneMore (run_of k)) where
  -- within job n of task i, which began in state s
  pub record IsDoing (l : LoneView) (noted : List (Option ℕ)) (t i n place : ℕ) : Type 0 where
    pub start : ExecState
    pub acted : HaveActed (run_of k) (acts_at k table) t i 0 start
    pub first : get_or start.ended i 0 ≡ n
    pub part : ClockPart
    pub list : List Event
    pub stands : StandsIn (run_of k) l part list
    pub within : unrolling.Within (run_of k) facts (has_ends (run_of k) is.ends) (acts_at k table) is.placing i n place start (reached (run_of k) list)
    pub below : place < length ((run_of k).actions i n)
    pub ahead : (j : ℕ) → j < (run_of k).tasks → IsAhead (run_of k) (acts_at k table) part noted start j

  seat_at : (l : LoneView) (i : ℕ) → i < length l.seats → (s : JobSeatView) × (slice_get l.seats i ≡ Some s)
  seat_at l i inside = seat_there l.seats i inside

  earlier : (t i n : ℕ) (s : ExecState) → HaveActed (run_of k) (acts_at k table) t i 0 s → acts_at k table i n ≡ t →
      (j m : ℕ) → IsJob (run_of k) j m → acts_at k table j m < acts_at k table i n → m < get_or s.ended j 0
  earlier t i n s acted here j m its before = acted.done j m its (inl (omega (arith, before, here)))

  pub begun : (l : LoneView) (noted : List (Option ℕ)) (t i n : ℕ) → i < length l.seats → IsDriven k table l noted t i → IsNextJob k table l t i n → IsDoing l noted t i n 0
  begun l noted t i n inside driven next =
      let seat = seat_at l i inside in
      let job = (driven.stands.each i seat.0 seat.1).job in
      let some = (has_ends (run_of k) is.ends).some i n next.job in
      record {
        start = reached (run_of k) driven.list;
        acted = driven.acted;
        first = sym job ∙ next.next seat.0 seat.1;
        part = driven.part;
        list = driven.list;
        stands = driven.stands;
        within = record { sound = driven.acted.sound; now = refl; ended = refl; here = driven.acted.idle i; others = λ j differs. refl };
        below = some;
        ahead = driven.ahead;
      }

  module _ (l m : LoneView) (noted : List (Option ℕ)) (t i n place : ℕ) (job : IsJob (run_of k) i n) (here : acts_at k table i n ≡ t) (doing : IsDoing l noted t i n place) (b : Bool)
      (told : (r : ClockPart) (list : List Event) → StandsIn (run_of k) l r list → IsPolled (run_of k) i m r list b) where
    keeps : KeepsGated (run_of k) (reached (run_of k) doing.list) (act_of i)
    keeps = unrolling.allowed (run_of k) facts (has_ends (run_of k) is.ends) (acts_at k table) is.placing i n job doing.start doing.first (doing.acted.now ∙ sym here)
        (earlier t i n doing.start doing.acted here) place (reached (run_of k) doing.list) doing.within

    after : StandsIn (run_of k) m doing.part (doing.list ++ act_of i ∷ [])
    after = polled (run_of k) i m doing.part doing.list keeps b (told doing.part doing.list doing.stands)

    led : reached (run_of k) (doing.list ++ act_of i ∷ []) ≡ after_event (run_of k) (reached (run_of k) doing.list) (act_of i)
    led = state (opening (run_of k)) doing.list (act_of i ∷ [])

    -- the job goes on
    pub went_on : place + 1 < length ((run_of k).actions i n) → IsDoing m noted t i n (place + 1)
    went_on more = record {
      start = doing.start;
      acted = doing.acted;
      first = doing.first;
      part = doing.part;
      list = doing.list ++ act_of i ∷ [];
      stands = after;
      within = subst (unrolling.Within (run_of k) facts (has_ends (run_of k) is.ends) (acts_at k table) is.placing i n (place + 1) doing.start) (sym led)
          (unrolling.step (run_of k) facts (has_ends (run_of k) is.ends) (acts_at k table) is.placing i n job doing.start doing.first (doing.acted.now ∙ sym here)
          (earlier t i n doing.start doing.acted here) place (reached (run_of k) doing.list) doing.within more);
      below = more;
      ahead = doing.ahead;
    }

    ended : place + 1 ≡ length ((run_of k).actions i n) →
        unrolling.Ended (run_of k) facts (has_ends (run_of k) is.ends) (acts_at k table) is.placing i n doing.start (reached (run_of k) (doing.list ++ act_of i ∷ []))
    ended at_end = subst (unrolling.Ended (run_of k) facts (has_ends (run_of k) is.ends) (acts_at k table) is.placing i n doing.start) (sym led)
        (unrolling.last (run_of k) facts (has_ends (run_of k) is.ends) (acts_at k table) is.placing i n job doing.start doing.first (doing.acted.now ∙ sym here)
        (earlier t i n doing.start doing.acted here) place (reached (run_of k) doing.list) doing.within at_end)

    -- or it has ended
    pub has_ended : place + 1 ≡ length ((run_of k).actions i n) → IsJobDone k table m noted t i
    has_ended at_end = record {
      part = doing.part;
      list = doing.list ++ act_of i ∷ [];
      stands = after;
      acted = subst (λ (x : ℕ). HaveActed (run_of k) (acts_at k table) t x 0 (reached (run_of k) (doing.list ++ act_of i ∷ []))) (let e : suc i ≡ i + 1 = omega arith in e)
          (unrolling.task_done (run_of k) facts (has_ends (run_of k) is.ends) (acts_at k table) is.placing t i n doing.start (reached (run_of k) (doing.list ++ act_of i ∷ [])) doing.acted job
          here doing.first (ended at_end));
      others = λ j task other.
          ahead_kept (run_of k) (acts_at k table) doing.part noted doing.start (reached (run_of k) (doing.list ++ act_of i ∷ [])) j ((ended at_end).others_ended j other)
          (doing.ahead j task);
    }

    -- the seat tells which
    module _ (inside : i < length m.seats) (shown : ℕ) (is_shown : (s : JobSeatView) → slice_get m.seats i ≡ Some s → shown ≡ s.job) where
      shown_is : shown ≡ get_or (reached (run_of k) (doing.list ++ act_of i ∷ [])).ended i 0
      shown_is = (let seat = seat_at m i inside in is_shown seat.0 seat.1 ∙ (after.each i seat.0 seat.1).job)

      still : place + 1 < length ((run_of k).actions i n) → shown ≡ n
      unfolding went_on
      still more =
          (let w = (went_on more).within in
          shown_is ∙ ap (λ (xs : List ℕ). get_or xs i 0) w.ended ∙ doing.first)

      pub done_now : shown ≢ n → IsJobDone k table m noted t i
      done_now other = elim (cases_lt (place + 1) (length ((run_of k).actions i n))) [
        | inl more ↦ absurd (other (still more))
        | inr not_more ↦ has_ended (let b = doing.below in omega (arith, b, not_more))
      ]

      pub goes_on : shown ≡ n → IsDoing m noted t i n (place + 1)
      goes_on same = elim (cases_lt (place + 1) (length ((run_of k).actions i n))) [
        | inl more ↦ went_on more
        | inr not_more ↦ absurd
            (let at_end : place + 1 ≡ length ((run_of k).actions i n) = (let b = doing.below in omega (arith, b, not_more)) in
            let e = (ended at_end).ended in
            let s = shown_is in omega (arith, e, s, same))
      ]

  -- no job has 2^32 - 1 actions and is not at its end
  pub bounded : (l : LoneView) (noted : List (Option ℕ)) (t i n place : ℕ) → IsJob (run_of k) i n → IsDoing l noted t i n place → 2 ^ 32 - 1 ≤ place → ⊥
  bounded l noted t i n place job doing high = (let s = facts.short i n job in let b = doing.below in omega (arith, s, b, high))

  -- a task whose next job does not act now
  pub skipped : (l : LoneView) (noted : List (Option ℕ)) (t i : ℕ) → i < length l.seats → IsDriven k table l noted t i → (first : Option ℕ) → slice_get noted i ≡ Some first →
      (first ≡ Some t → ⊥) → IsDriven k table l noted t (i + 1)
  skipped l noted t i inside driven first at other =
      let tasks = driven.stands.tasks in
      let noted_is : first ≡ next_act (run_of k) (acts_at k table) i (get_or (reached (run_of k) driven.list).ended i 0) =
      same_noted first (next_act (run_of k) (acts_at k table) i (get_or (reached (run_of k) driven.list).ended i 0)) (sym at ∙ (driven.ahead i (omega (arith, inside, tasks))).next) in
      record {
        part = driven.part;
        list = driven.list;
        stands = driven.stands;
        acted = subst (λ (x : ℕ). HaveActed (run_of k) (acts_at k table) t x 0 (reached (run_of k) driven.list)) (let e : suc i ≡ i + 1 = omega arith in e)
            (unrolling.skip_task (run_of k) facts (has_ends (run_of k) is.ends) (acts_at k table) is.placing t i (reached (run_of k) driven.list) driven.acted
            (noted_other (run_of k) (acts_at k table) i (get_or (reached (run_of k) driven.list).ended i 0) t (λ e. other (noted_is ∙ e))));
        ahead = driven.ahead;
      }

  -- its first unfinished job does not act now
  pub not_first_now : (l : LoneView) (noted : List (Option ℕ)) (t i : ℕ) → i < length l.seats → (driven : IsDriven k table l noted t i) → (first : Option ℕ) →
      slice_get noted i ≡ Some first → (first ≡ Some t → ⊥) → get_or (reached (run_of k) driven.list).ended i 0 < (run_of k).jobs i →
      acts_at k table i (get_or (reached (run_of k) driven.list).ended i 0) ≢ t
  not_first_now l noted t i inside driven first at other =
      let tasks = driven.stands.tasks in
      let noted_is : first ≡ next_act (run_of k) (acts_at k table) i (get_or (reached (run_of k) driven.list).ended i 0) =
      same_noted first (next_act (run_of k) (acts_at k table) i (get_or (reached (run_of k) driven.list).ended i 0)) (sym at ∙ (driven.ahead i (omega (arith, inside, tasks))).next) in
      noted_other (run_of k) (acts_at k table) i (get_or (reached (run_of k) driven.list).ended i 0) t (λ e. other (noted_is ∙ e))

  -- one whose next job acts now
  pub acts_now : (l : LoneView) (noted : List (Option ℕ)) (t i n : ℕ) → i < length l.seats → IsDriven k table l noted t i → (first : Option ℕ) → slice_get noted i ≡ Some first →
      first ≡ Some t → ((s : JobSeatView) → slice_get l.seats i ≡ Some s → n ≡ s.job) → IsNextJob k table l t i n
  acts_now l noted t i n inside driven first at now shown =
      let tasks = driven.stands.tasks in
      let seat = seat_at l i inside in
      let is_n : n ≡ get_or (reached (run_of k) driven.list).ended i 0 = shown seat.0 seat.1 ∙ (driven.stands.each i seat.0 seat.1).job in
      let ahead = (driven.ahead i (omega (arith, inside, tasks))).next in
      let acts : next_act (run_of k) (acts_at k table) i n ≡ Some t =
      same_noted (next_act (run_of k) (acts_at k table) i n) (Some t)
      (ap (λ (m : ℕ). Some (next_act (run_of k) (acts_at k table) i m)) is_n ∙ sym ahead ∙ at ∙ ap Some now) in
      let told = noted_acts (run_of k) (acts_at k table) i n t acts in
      record {
        job = record { task = omega (arith, inside, tasks); job = told.0 };
        acts = told.1;
        next = λ s has. sym (shown s has);
      }

  -- after a look at the task whose job has ended
  pub noted_now : (l m : LoneView) (noted : List (Option ℕ)) (t i n : ℕ) → i < length l.seats → i < length noted → IsJobDone k table l noted t i → IsClockCall l m →
      ((r : ClockPart) → l.view.clock ≡ Some r → LookTold k i r l.view n m.view) → ((s : JobSeatView) → slice_get l.seats i ≡ Some s → n ≡ s.job) →
      IsDriven k table m (set noted i (next_act (run_of k) (acts_at k table) i n)) t (i + 1)
  noted_now l m noted t i n inside in_noted done call told exact =
      let tasks = done.stands.tasks in
      let wide = done.stands.wide in
      let seat = seat_at l i inside in
      let is_n : n ≡ get_or (reached (run_of k) done.list).ended i 0 = exact seat.0 seat.1 ∙ (done.stands.each i seat.0 seat.1).job in
      let look = told done.part done.stands.clock in
      let seen : HasSeen l done.part i =
      (λ j s below has. (done.others j (omega (arith, inside, tasks, below)) (omega (arith, below))).seen ∙ sym (done.stands.each j s has).job) in
      let after = looked_at k l m i n done.part done.list (omega (arith, inside, tasks)) done.stands seen call look exact in
      let same : after.0 ≡ looked i n done.part = same_part after.0 (looked i n done.part) (sym after.1.clock ∙ ap (λ (v : View). v.clock) look.view) in
      record {
        part = after.0;
        list = done.list;
        stands = after.1;
        acted = done.acted;
        ahead = λ j task. subst (λ (p : ClockPart). IsAhead (run_of k) (acts_at k table) p (set noted i (next_act (run_of k) (acts_at k table) i n)) (reached (run_of k) done.list) j) (sym same)
            (elim (cases_eq j i) [
              | inl here ↦ record {
                seen = get_or-set_at done.part.looks i j n 0 here (omega (arith, inside, tasks, wide)) ∙ is_n
                    ∙ ap (λ (x : ℕ). get_or (reached (run_of k) done.list).ended x 0) (sym here);
                next = ap (slice_get (set noted i (next_act (run_of k) (acts_at k table) i n))) here
                    ∙ slice_get_set_same noted i (next_act (run_of k) (acts_at k table) i n) in_noted
                    ∙ ap (λ (x : ℕ). Some (next_act (run_of k) (acts_at k table) i x)) is_n
                    ∙ ap (λ (x : ℕ). Some (next_act (run_of k) (acts_at k table) x (get_or (reached (run_of k) done.list).ended x 0))) (sym here);
              }
              | inr other ↦ record {
                seen = get_or-set_other done.part.looks i j n 0 other ∙ (done.others j task other).seen;
                next = slice_get_set_other noted i j (next_act (run_of k) (acts_at k table) i n) other ∙ (done.others j task other).next;
              }
            ]);
      }

  -- the tick
  module _ (laws : RunLaws (run_of k)) (l : LoneView) (noted : List (Option ℕ)) (t : ℕ) (before : t < (run_of k).end) (driven : IsDriven k table l noted t (run_of k).tasks) where
    tick_leads : unrolling.Leads (run_of k) (reached (run_of k) driven.list) (events.Tick ∷ []) (λ s. HaveActed (run_of k) (acts_at k table) (suc t) 0 0 s)
    tick_leads = unrolling.ticks (run_of k) facts (has_ends (run_of k) is.ends) (acts_at k table) is.placing t before (reached (run_of k) driven.list) driven.acted

    has_seen : HasSeenDue k l driven.part (run_of k).tasks
    has_seen = λ j s below has. inl ((driven.ahead j below).seen ∙ sym (driven.stands.each j s has).job)

    -- a tick leaves the looks as they are
    same_looks : (m : LoneView) (q : ClockPart) (answer : Ticked) → m.view.clock ≡ Some q → IsTicked k driven.part l.view m.view answer → q.looks ≡ driven.part.looks
    same_looks m q (ticks.Now now) clock told =
        ap (λ (p : ClockPart). p.looks) (same_part q (ticked driven.part) (sym clock ∙ ap (λ (v : View). v.clock) told.3))
    same_looks m q (ticks.Behind task job) clock told =
        ap (λ (p : ClockPart). p.looks) (same_part q driven.part (sym clock ∙ ap (λ (v : View). v.clock) told.3 ∙ driven.stands.clock))
    same_looks m q ticks.End clock told =
        ap (λ (p : ClockPart). p.looks) (same_part q driven.part (sym clock ∙ ap (λ (v : View). v.clock) told.1 ∙ driven.stands.clock))

    led_on : reached (run_of k) (driven.list ++ events.Tick ∷ []) ≡ after_event (run_of k) (reached (run_of k) driven.list) events.Tick
    led_on = state (opening (run_of k)) driven.list (events.Tick ∷ [])

    pub gone_on : (m : LoneView) (answer : Ticked) → IsClockCall l m → ((r : ClockPart) → l.view.clock ≡ Some r → IsTicked k r l.view m.view answer) → IsDriven k table m noted (t + 1) 0
    gone_on m answer call answers =
        let told = answers driven.part driven.stands.clock in
        let did = ticked_on k laws l m driven.part driven.list answer driven.stands has_seen call tick_leads.0.0 told in
        record {
          part = did.0;
          list = driven.list ++ events.Tick ∷ [];
          stands = did.1;
          acted = subst (λ (x : ℕ). HaveActed (run_of k) (acts_at k table) x 0 0 (reached (run_of k) (driven.list ++ events.Tick ∷ []))) (let e : suc t ≡ t + 1 = omega arith in e)
              (subst (HaveActed (run_of k) (acts_at k table) (suc t) 0 0) (sym led_on) tick_leads.1);
          ahead = λ j task.
              let was = driven.ahead j task in
              let ended : get_or (reached (run_of k) (driven.list ++ events.Tick ∷ [])).ended j 0 ≡ get_or (reached (run_of k) driven.list).ended j 0 =
              ap (λ (x : ExecState). get_or x.ended j 0) led_on in
              ahead_kept (run_of k) (acts_at k table) did.0 noted (reached (run_of k) driven.list) (reached (run_of k) (driven.list ++ events.Tick ∷ [])) j ended
              (record { seen = ap (λ (looks : List ℕ). get_or looks j 0) (same_looks m did.0 answer did.1.clock told) ∙ was.seen; next = was.next });
        }

  stage_over : (i job place : ℕ) (is_open : Bool) (stage : Stage) → IsStage (run_of k) i job place is_open stage → (job < (run_of k).jobs i → ⊥) → stage ≡ stages.Over
  stage_over i job place is_open stages.Over shown past = refl
  stage_over i job place is_open stages.Idle shown past = absurd (past shown.1)
  stage_over i job place is_open (stages.At action) shown past = absurd (past shown.1)

  -- at the end all jobs have ended
  pub all_over : (l : LoneView) (noted : List (Option ℕ)) → IsWhole k l → IsDriven k table l noted (run_of k).end 0 → (i : ℕ) (s : JobSeatView) → slice_get l.seats i ≡ Some s → s.stage ≡ stages.Over
  all_over l noted whole driven i s at =
      let follows = (whole.each i s at).1 in
      stage_over i s.job s.place _ s.stage follows.shown (λ below.
      (let w = slice_get_within l.seats i s at in
      let tasks = driven.stands.tasks in
      let its : IsJob (run_of k) i s.job = record { task = omega (arith, w, tasks); job = below } in
      let due = is.placing.due i s.job its in
      let within = facts.within i s.job its in
      let ended = driven.acted.done i s.job its (inl (omega (arith, due, within))) in
      let job = (driven.stands.each i s at).job in
      omega (arith, ended, job)))

-- by the plan and the horizon of the board
pub next_of_board : (k : Constants) (table : CheckedView) (plan : PlanView) (h : Horizon) → plan ≡ k.plan → h ≡ k.horizon → (i n : ℕ) →
    next_act (constants_of plan h) (last_unit plan.graph table.entries) i n ≡ next_act (run_of k) (acts_at k table) i n
next_of_board k table plan h same_plan same_horizon i n =
    ap (λ (g : Horizon). next_act (constants_of plan g) (last_unit plan.graph table.entries) i n) same_horizon
    ∙ ap (λ (p : PlanView). next_act (constants_of p k.horizon) (last_unit p.graph table.entries) i n) same_plan

-- at the opening
pub opened : (k : Constants) (table : CheckedView) (is : IsBoardOf k table) (facts : HasPlanFacts (run_of k)) (l : LoneView) (noted : List (Option ℕ)) →
    AreFirst (run_of k) (acts_at k table) noted → StandsIn (run_of k) l (first_clock (run_of k)) [] → IsDriven k table l noted 0 0
opened k table is facts l noted first stands = record {
  part = first_clock (run_of k);
  list = [];
  stands = stands;
  acted = unrolling.stands_first (run_of k) facts (has_ends (run_of k) is.ends) (acts_at k table) is.placing;
  ahead = λ j task.
      let none : get_or (replicate (run_of k).tasks 0) j 0 ≡ 0 = get_or-replicate (run_of k).tasks j 0 0 task in
      let wide = first.tasks in
      let there : slice_get noted j ≡ Some (get_or noted j None) = slice_get-get_or noted j None (omega (arith, wide, task)) in
      record { seen = refl; next = there ∙ ap Some (first.each j (get_or noted j None) there) ∙ ap (λ (n : ℕ). Some (next_act (run_of k) (acts_at k table) j n)) (sym none) };
}

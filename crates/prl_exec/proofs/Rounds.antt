-- How one thread stands after a round: looks, ticks, and what may come next.
use Rattle.prl_base.proofs.Standard.{◌≡◌, ◌+◌, ◌<◌, ◌≤◌, ◌++◌, ℕ, List, [], ◌∷◌, length, length-set, refl, sym, ◌∙◌, ap, subst, arith, inl, inr, Some, Bool, false, slice_get, slice_index, cases_eq}
use Rattle.prl_base.proofs.Standard.{get_or-set_at, get_or-set_other, get_or-replicate, length-replicate, slice_get_within}
use Rattle.prl_plan.specs.Vocabulary.{IsComplete, IsUnfinished, KeepsGated, RunConstants, ExecState, opening}
use Rattle.prl_plan.specs.declared.events.Action.{Action}
use Rattle.prl_plan.specs.declared.events.Event.{Event}
use Rattle.prl_plan.specs.declared.events.Action.TheVariants as actions
use Rattle.prl_plan.specs.declared.events.Event.TheVariants as events
use Rattle.prl_rule.specs.Vocabulary.{run_of, reached, looked, ticked, LookTold}
use Rattle.prl_rule.specs.declared.views.ClockPart.{ClockPart}
use Rattle.prl_rule.specs.declared.views.Constants.{Constants}
use Rattle.prl_rule.specs.declared.views.View.{View}
use Rattle.prl_seats.specs.Vocabulary.{IsStage, JobSeatView, BoardView}
use Rattle.prl_seats.specs.declared.jobs.Stage.{Stage}
use Rattle.prl_seats.specs.declared.jobs.Stage.TheVariants as stages
use Rattle.prl_board.specs.Vocabulary.{IsClosed, IsLastState, IsClockCall, IsTicked, IsWhole, LoneView, StandAs, AreFirstSeats, first_clock, place_of}
use Rattle.prl_board.specs.ClockSeats.{IsUnseen}
use Rattle.prl_board.specs.declared.clocks.Ticked.{Ticked}
use Rattle.prl_board.specs.declared.seats.Place.{Place}
use Rattle.prl_board.specs.declared.clocks.Ticked.TheVariants as ticks
use Rattle.prl_board.specs.declared.seats.Place.TheVariants as places
use Rattle.prl_exec.specs.Vocabulary.{HasSeen, HasSeenDue, RunLaws, StandsIn, act_of, IsLeftOver}
use Rattle.prl_exec.proofs.Standing.{appended}
use Rattle.prl_board.proofs.Lists.{seat_there}

-- a task that stands elsewhere is left
pub left_over : (l : LoneView) (i : ℕ) (place : Place) → i < length l.seats → ((s : JobSeatView) → slice_get l.seats i ≡ Some s → place ≡ place_of s.stage) →
    (place ≡ places.Over → ⊥) → IsLeftOver l
left_over l i place inside at ne =
    let there = seat_there l.seats i inside in (i, there.0, there.1, (λ over. ne (at there.0 there.1 ∙ ap place_of over)))

over_stage : (stage : Stage) → places.Over ≡ place_of stage → stage ≡ stages.Over
over_stage stages.Over is = refl
over_stage stages.Idle is = absurd (cc is)
over_stage (stages.At (actions.ReadConst port value)) is = absurd (cc is)
over_stage (stages.At (actions.Read port e m slot)) is = absurd (cc is)
over_stage (stages.At (actions.Write e m slot)) is = absurd (cc is)
over_stage (stages.At actions.End) is = absurd (cc is)

pub one_more_over : (seats : List JobSeatView) (i : ℕ) → ((j : ℕ) (s : JobSeatView) → j < i → slice_get seats j ≡ Some s → s.stage ≡ stages.Over) →
    ((s : JobSeatView) → slice_get seats i ≡ Some s → places.Over ≡ place_of s.stage) → (j : ℕ) (s : JobSeatView) → j < i + 1 → slice_get seats j ≡ Some s → s.stage ≡ stages.Over
one_more_over seats i before here j s below has = elim (cases_eq j i) [
  | inl same ↦ over_stage s.stage (here s (ap (slice_get seats) (sym same) ∙ has))
  | inr other ↦ before j s (omega (arith, below, other)) has
]

module _ (k : Constants) where
  abbrev c : RunConstants
  c = run_of k

  -- a look leaves the tasks
  stands_looked : (l m : LoneView) (i n : ℕ) (q : ClockPart) (list : List Event) → StandsIn c l q list → IsClockCall l m → LookTold k i q l.view n m.view → StandsIn c m (looked i n q) list
  stands_looked l m i n q list stands call told = record {
    tasks = ap length call.seats ∙ stands.tasks;
    clock = ap (λ (v : View). v.clock) told.view;
    wide = length-set q.looks i n ∙ stands.wide;
    now = stands.now;
    free = stands.free;
    sound = stands.sound;
    each = λ j s has. stands.each j s (sym (ap (λ (xs : List JobSeatView). slice_get xs j) call.seats) ∙ has);
  }

  -- a look at task i
  pub looked_at : (l m : LoneView) (i n : ℕ) (q : ClockPart) (list : List Event) → i < c.tasks → StandsIn c l q list → HasSeen l q i → IsClockCall l m → LookTold k i q l.view n m.view →
      ((s : JobSeatView) → slice_get l.seats i ≡ Some s → n ≡ s.job) → (p : ClockPart) × StandsIn c m p list × HasSeen m p (i + 1)
  looked_at l m i n q list inside stands seen call told exact =
      let wide = stands.wide in (
        looked i n q,
        stands_looked l m i n q list stands call told,
        (λ j s below has.
            let was : slice_get l.seats j ≡ Some s = sym (ap (λ (xs : List JobSeatView). slice_get xs j) call.seats) ∙ has in
            elim (cases_eq j i) [
              | inl same ↦ get_or-set_at q.looks i j n 0 same (omega (arith, wide, inside)) ∙ exact s (ap (slice_get l.seats) (sym same) ∙ was)
              | inr other ↦ get_or-set_other q.looks i j n 0 other ∙ seen j s (omega (arith, below, other)) was
            ]),
      )

  -- a look at task i where it may have been left behind
  pub looked_due : (l m : LoneView) (i n : ℕ) (q : ClockPart) (list : List Event) → i < c.tasks → StandsIn c l q list → HasSeenDue k l q i → IsClockCall l m → LookTold k i q l.view n m.view →
      ((s : JobSeatView) → slice_get l.seats i ≡ Some s → n ≡ s.job) → (p : ClockPart) × StandsIn c m p list × HasSeenDue k m p (i + 1)
  looked_due l m i n q list inside stands seen call told exact =
      let wide = stands.wide in (
        looked i n q,
        stands_looked l m i n q list stands call told,
        (λ j s below has.
            let was : slice_get l.seats j ≡ Some s = sym (ap (λ (xs : List JobSeatView). slice_get xs j) call.seats) ∙ has in
            elim (cases_eq j i) [
              | inl same ↦ inl (get_or-set_at q.looks i j n 0 same (omega (arith, wide, inside)) ∙ exact s (ap (slice_get l.seats) (sym same) ∙ was))
              | inr other ↦
                  (let same_look = get_or-set_other q.looks i j n 0 other in
                  elim (seen j s (omega (arith, below, other)) was) [
                    | inl is ↦ inl (same_look ∙ is)
                    | inr none ↦ inr (λ w u. none w (record { job = u.job; due = u.due; unseen = (let z = u.unseen in omega (arith, same_look, z)) }))
                  ])
            ]),
      )

  -- where no job of task i that is due is left to be seen
  pub none_at : (l : LoneView) (r : ClockPart) (i : ℕ) → HasSeenDue k l r i → ((n : ℕ) → IsUnseen k r i n → ⊥) → HasSeenDue k l r (i + 1)
  none_at l r i seen none j s below has = elim (cases_eq j i) [
    | inl here ↦ inr (subst (λ (x : ℕ). (n : ℕ) → IsUnseen k r x n → ⊥) (sym here) none)
    | inr other ↦ seen j s (omega (arith, below, other)) has
  ]

  -- a tick that may come
  pub ticked_on : (laws : RunLaws c) (l m : LoneView) (q : ClockPart) (list : List Event) (answer : Ticked) → StandsIn c l q list → HasSeenDue k l q c.tasks → IsClockCall l m →
      KeepsGated c (reached c list) events.Tick → IsTicked k q l.view m.view answer → (p : ClockPart) × StandsIn c m p (list ++ events.Tick ∷ [])
  ticked_on laws l m q list (ticks.Now now) stands seen call may answer =
      let one = appended c laws list events.Tick stands.free stands.sound may in
      let led = one.state in
      let now_is = stands.now in
      let same : (reached c (list ++ events.Tick ∷ [])).now ≡ (reached c list).now + 1 = ap (λ (x : ExecState). x.now) led in (
        ticked q,
        record {
          tasks = ap length call.seats ∙ stands.tasks;
          clock = ap (λ (v : View). v.clock) answer.3;
          wide = stands.wide;
          now = (let z : q.now + 1 ≡ (reached c (list ++ events.Tick ∷ [])).now = omega (arith, now_is, same) in z);
          free = one.free;
          sound = one.sound;
          each = λ j s has.
              let f = stands.each j s (sym (ap (λ (xs : List JobSeatView). slice_get xs j) call.seats) ∙ has) in record {
                job = f.job ∙ sym (ap (λ (x : ExecState). slice_index x.ended j) led);
                place = f.place ∙ sym (ap (λ (x : ExecState). slice_index x.places j) led);
                released = λ action at. (let r = f.released action at in omega (arith, r, same));
              };
        },
      )
  ticked_on laws l m q list (ticks.Behind task job) stands seen call may answer =
      let behind = answer.2.job in
      let inside = behind.job.task in
      let tasks = stands.tasks in
      let there = seat_there l.seats task.0 (omega (arith, inside, tasks)) in
      elim (seen task.0 there.0 inside there.1) [
        | inl look ↦
            (let is = (stands.each task.0 there.0 there.1).job in
            let unseen = behind.unseen in
            let left : IsUnfinished c (reached c list) task.0 job =
            record { task = inside; job = behind.job.job; unfinished = (let z : slice_index (reached c list).ended task.0 ≤ job = omega (arith, look, is, unseen) in z) } in
            let late = may.ended task.0 job left in
            let due = behind.due in
            let now_is = stands.now in
            absurd (omega (arith, late, due, now_is)))
        | inr none ↦ absurd (none job behind)
      ]
  ticked_on laws l m q list ticks.End stands seen call may answer =
      let within = may.within in let now_is = stands.now in let end = answer.0 in absurd (omega (arith, within, now_is, end))

  stage_left : (i n place : ℕ) (is_open : Bool) (stage : Stage) → IsStage c i n place is_open stage → (stage ≡ stages.Over → ⊥) → n < c.jobs i
  stage_left i n place is_open stages.Over is left = absurd (left refl)
  stage_left i n place is_open stages.Idle is left = is.1
  stage_left i n place is_open (stages.At action) is left = is.1

  -- where a job is left and no act may come, the tick may
  pub tick_may_come : (laws : RunLaws c) (l m : LoneView) (r : ClockPart) (list : List Event) → IsWhole k l → IsLeftOver l → StandsIn c l r list →
      ((i : ℕ) → i < c.tasks → KeepsGated c (reached c list) (act_of i) → ⊥) → KeepsGated c (reached c list) events.Tick
  tick_may_come laws l m r list whole left stands none =
      let i = left.0 in let s = left.1 in let has = left.2 in
      let follows = (whole.each i s has).1 in
      let job = stage_left i s.job s.place _ s.stage follows.shown left.3 in
      let is = (stands.each i s has).job in
      let w = slice_get_within l.seats i s has in
      let tasks = stands.tasks in
      let unfinished : IsUnfinished c (reached c list) i s.job =
      record { task = omega (arith, w, tasks); job = job; unfinished = (let z : slice_index (reached c list).ended i ≤ s.job = omega (arith, is) in z) } in
      elim (laws.goes_on (reached c list) stands.sound i s.job unfinished) [
        | inl act ↦ absurd (none act.0 act.1.job.task act.2)
        | inr tick ↦ tick.1
      ]

  -- at the opening
  pub opening_stands : (laws : RunLaws c) (b : BoardView) (seats : List JobSeatView) (l : LoneView) → b.known ≡ k → AreFirstSeats b seats → StandAs seats l.seats →
      l.view.clock ≡ Some (first_clock c) →
      StandsIn c l (first_clock c) []
  opening_stands laws b seats l same first stand clock = record {
    tasks = stand.tasks ∙ (first.tasks ∙ ap (λ (x : Constants). (run_of x).tasks) same);
    clock = clock;
    wide = length-replicate c.tasks 0;
    now = refl;
    free = tt;
    sound = laws.opens;
    each = λ i t has.
        let w = slice_get_within l.seats i t has in
        let n = stand.tasks in
        let all : length l.seats ≡ c.tasks = stand.tasks ∙ (first.tasks ∙ ap (λ (x : Constants). (run_of x).tasks) same) in
        let was = seat_there seats i (omega (arith, w, n)) in
        let s = was.0 in
        let is = (first.each i s was.1).1 in
        let then = stand.each i s was.1 in
        let one : then.0 ≡ t = (let e : Some then.0 ≡ Some t = sym then.1 ∙ has in cc e) in
        let job : t.job ≡ 0 = sym (ap (λ (x : JobSeatView). x.job) one) ∙ (then.3.job ∙ is.job) in
        let place : t.place ≡ 0 = sym (ap (λ (x : JobSeatView). x.place) one) ∙ (then.3.place ∙ is.place) in
        let stage : t.stage ≡ s.stage = sym (ap (λ (x : JobSeatView). x.stage) one) ∙ then.3.stage in
        let zero_ended : slice_index (opening c).ended i ≡ 0 = get_or-replicate c.tasks i 0 0 (omega (arith, w, all)) in
        let zero_place : slice_index (opening c).places i ≡ 0 = get_or-replicate c.tasks i 0 0 (omega (arith, w, all)) in
        record {
          job = job ∙ sym zero_ended;
          place = place ∙ sym zero_place;
          released = λ action at. shut_first (run_of b.known) i s.stage action is.stage (sym stage ∙ at);
        };
  }
    where
      shut_first : (d : RunConstants) (i : ℕ) (stage : Stage) (action : Action) → IsStage d i 0 0 false stage → stage ≡ stages.At action → {A : Type 0} → A
      shut_first d i stages.Over action is at = absurd (cc at)
      shut_first d i stages.Idle action is at = absurd (cc at)
      shut_first d i (stages.At next) action is at = absurd (let e = is.0 in cc e)

  -- where all seats are over, every horizon job has ended
  pub all_ended : (words : List ℕ) (seats after : List JobSeatView) → ((i : ℕ) (s : JobSeatView) → slice_get seats i ≡ Some s → s.stage ≡ stages.Over) → StandAs seats after → IsClosed k words after →
      (s : ExecState) → IsLastState k words after s → IsComplete c s
  all_ended words seats after over stand closed s last j n task job =
      let tasks = closed.tasks in
      let there = seat_there after j (omega (arith, tasks, task)) in
      let t = there.0 in
      let w = slice_get_within after j t there.1 in
      let wide = stand.tasks in
      let was = seat_there seats j (omega (arith, w, wide)) in
      let then = stand.each j was.0 was.1 in
      let one : then.0 ≡ t = (let e : Some then.0 ≡ Some t = sym then.1 ∙ there.1 in cc e) in
      let stage : t.stage ≡ stages.Over = sym (ap (λ (x : JobSeatView). x.stage) one) ∙ (then.3.stage ∙ over j was.0 was.1) in
      let its = (closed.each j t there.1).2 in
      let shown : IsStage c j t.job t.place its.0 stages.Over = subst (IsStage c j t.job t.place its.0) stage its.1 in
      let all = shown.1 in
      let count = (last.each j t there.1).0 in
      (let z : n < slice_index s.ended j = omega (arith, all, count, job) in z)

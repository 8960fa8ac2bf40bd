-- Each event that a free list allows keeps the tags.
use Rattle.prl_base.proofs.Standard.{◌≡◌, ◌+◌, ◌-◌, ◌<◌, ◌≤◌, ◌⊎◌, ℕ, List, [], ◌∷◌, length, get_or, set, replicate, inl, inr, refl, sym, ◌∙◌, ap, subst, arith, cases_eq, cases_lt, cases_order}
use Rattle.prl_base.proofs.Standard.{get_or_past, length-replicate, get_or-replicate, get_or-set_other, get_or-set_at}
use Rattle.std.proofs.lemmas.List.{length-set}
use Rattle.prl_base.specs.declared.numbers.EdgeNo.{EdgeNo}
use Rattle.prl_base.specs.declared.values.Value.{Value}
use Rattle.prl_plan.specs.Vocabulary.{SlotNo, Action, Event, RunConstants, ExecState, opening, action_at, next_action, moved, after_action, after_event, after_events, low, high, IsHigh, low_of}
use Rattle.prl_plan.specs.Vocabulary.{HasJob, ActsReleased, KeepsGated, KeepsFree, IsGated, IsFree, IsJob, WritesAt, HasPlanFacts, IsDone, IsAhead, IsOrigin, IsTagged}
use Rattle.prl_plan.specs.declared.events.Action.TheVariants as actions
use Rattle.prl_plan.specs.declared.events.Event.TheVariants as events
use Rattle.prl_plan.proofs.Places.{get_set}

-- a write is no other action
pub write_not_finish : (e : EdgeNo) (m : ℕ) (cell : SlotNo) → actions.Write e m cell ≡ actions.End → ⊥
write_not_finish e m cell h = cc

constant_not_write : (port : ℕ) (value : Value) (e : EdgeNo) (m : ℕ) (cell : SlotNo) → actions.ReadConst port value ≡ actions.Write e m cell → ⊥
constant_not_write port value e m cell h = cc

read_not_write : (port : ℕ) (e : EdgeNo) (m : ℕ) (cell : SlotNo) (e' : EdgeNo) (m' : ℕ) (cell' : SlotNo) → actions.Read port e m cell ≡ actions.Write e' m' cell' → ⊥
read_not_write port e m cell e' m' cell' h = cc

-- equal writes are to one cell
same_cell : (e : EdgeNo) (m cell : ℕ) (e' : EdgeNo) (m' cell' : ℕ) → actions.Write e m (record { 0 = cell }) ≡ actions.Write e' m' (record { 0 = cell' }) → cell ≡ cell'
same_cell e m cell e' m' cell' h =
    let here : SlotNo = record { 0 = cell } in
    let there : SlotNo = record { 0 = cell' } in
    let same : here ≡ there = cc in
    ap (λ (x : SlotNo). x.0) same

-- what a gated event allows, a free one does
pub gated_free : (c : RunConstants) (s : ExecState) (event : Event) → KeepsGated c s event → KeepsFree c s event
gated_free c s events.Tick keeps = keeps.within
gated_free c s (events.Act task) keeps = keeps

pub IsGated_free : (c : RunConstants) (list : List Event) (s : ExecState) → IsGated c s list → IsFree c s list
IsGated_free c [] s gated = tt
IsGated_free c (event ∷ list) s gated = (gated_free c s event gated.0, IsGated_free c list (after_event c s event) gated.1)

module _ (c : RunConstants) (facts : HasPlanFacts c) where
  -- where what is done stays done, a tag that stays has its origin
  origin_stays : (s t : ExecState) (slot : ℕ) → ((j n place : ℕ) → IsDone s j n place → IsDone t j n place) → get_or t.tags slot 0 ≡ get_or s.tags slot 0 →
      (get_or s.tags slot 0 ≡ 0) ⊎ IsOrigin c s slot → (get_or t.tags slot 0 ≡ 0) ⊎ IsOrigin c t slot
  origin_stays s t slot stays tag (inl none) = inl (tag ∙ none)
  origin_stays s t slot stays tag (inr from) = inr (record {
    task = from.task;
    job = from.job;
    place = from.place;
    instance = from.instance;
    writes = from.writes;
    done = stays from.task from.job from.place from.done;
    holds = tag ∙ from.holds;
  })

  -- a tick moves the clock alone, past no deadline of an unfinished job
  tagged_tick : (s : ExecState) → IsTagged c s → IsTagged c (record s { now = s.now + 1 })
  tagged_tick s tagged = record {
    ended = tagged.ended;
    places = tagged.places;
    tags = tagged.tags;
    counted = tagged.counted;
    written = tagged.written;
    ahead = tagged.ahead;
    origin = λ slot. origin_stays s (record s { now = s.now + 1 }) slot (λ j n place done. done) refl (tagged.origin slot);
  }

  -- done after a move of task i: done before it, or what the move did
  pub done_moved : (s : ExecState) (i : ℕ) → i < length s.places → (j n place : ℕ) → IsDone (moved s i) j n place →
      IsDone s j n place ⊎ ((j ≡ i) × (n ≡ get_or s.ended i 0) × (place ≡ get_or s.places i 0))
  done_moved s i h j n place (inl below) = inl (inl below)
  done_moved s i h j n place (inr here) =
      elim (get_set s.places i (get_or s.places i 0 + 1) j h) [
        | inl same ↦
            (let now_at : place < get_or s.places i 0 + 1 = omega (arith, here.1, same.1) in
            elim (cases_lt place (get_or s.places i 0)) [
              | inl before ↦ inl (inr (here.0, omega (arith, ap (λ x. get_or s.places x 0) same.0, before)))
              | inr not_before ↦ inr (same.0, omega (arith, ap (λ x. get_or s.ended x 0) same.0, here.0), omega (arith, now_at, not_before))
            ])
        | inr other ↦ inl (inr (here.0, omega (arith, here.1, other.1)))
      ]

  -- ahead after a move of task i: ahead before it
  ahead_moved : (s : ExecState) (i : ℕ) → i < length s.places → (j n place : ℕ) → IsAhead (moved s i) j n place → IsAhead s j n place
  ahead_moved s i h j n place (inl later) = inl later
  ahead_moved s i h j n place (inr here) =
      elim (get_set s.places i (get_or s.places i 0 + 1) j h) [
        | inl same ↦ inr (here.0, omega (arith, ap (λ x. get_or s.places x 0) same.0, here.1, same.1))
        | inr other ↦ inr (here.0, omega (arith, here.1, other.1))
      ]

  -- what is done stays done
  pub done_stays : (s : ExecState) (i : ℕ) → i < length s.places → (j n place : ℕ) → IsDone s j n place → IsDone (moved s i) j n place
  done_stays s i h j n place (inl below) = inl below
  done_stays s i h j n place (inr here) =
      inr (
        here.0,
        elim (get_set s.places i (get_or s.places i 0 + 1) j h) [
          | inl same ↦ omega (arith, ap (λ x. get_or s.places x 0) same.0, here.1, same.1)
          | inr other ↦ omega (arith, here.1, other.1)
        ],
      )

  -- a place moves past an action that writes nothing
  tagged_moved : (s : ExecState) → IsTagged c s → (i : ℕ) → i < c.tasks →
      ((e : EdgeNo) (m cell : ℕ) → next_action c s i ≡ actions.Write e m (record { 0 = cell }) → ⊥) → IsTagged c (moved s i)
  tagged_moved s tagged i task no_write =
      let inside : i < length s.places = omega (arith, tagged.places) in
      record {
        ended = tagged.ended;
        places = length-set s.places i (get_or s.places i 0 + 1) ∙ tagged.places;
        tags = tagged.tags;
        counted = tagged.counted;
        written = λ j n place m cell writes done.
            elim (done_moved s i inside j n place done) [
              | inl before ↦ tagged.written j n place m cell writes before
              | inr here ↦ absurd (no_write (writes.action.0) m cell
                  (sym (ap (λ x. action_at c x (get_or s.ended i 0) (get_or s.places i 0)) here.0)
                  ∙ sym (ap (λ x. action_at c j x (get_or s.places i 0)) here.1)
                  ∙ sym (ap (λ x. action_at c j n x) here.2)
                  ∙ writes.action.1))
            ];
        ahead = λ j n place m cell writes ahead.
            tagged.ahead j n place m cell writes (ahead_moved s i inside j n place ahead);
        origin = λ slot. origin_stays s (moved s i) slot (done_stays s i inside) refl (tagged.origin slot);
      }

  origin_written : (s : ExecState) (i cell m slot : ℕ) → i < length s.places → cell < length s.tags →
      WritesAt c i (get_or s.ended i 0) (get_or s.places i 0) m cell → (get_or s.tags slot 0 ≡ 0) ⊎ IsOrigin c s slot →
      (get_or (set s.tags cell (m + 1)) slot 0 ≡ 0) ⊎ IsOrigin c (record (moved s i) { tags = set s.tags cell (m + 1) }) slot
  origin_written s i cell m slot inside in_tags writes before =
      elim (get_set s.tags cell (m + 1) slot in_tags) [
        | inl same ↦ inr (record {
          task = i;
          job = get_or s.ended i 0;
          place = get_or s.places i 0;
          instance = m;
          writes = subst (λ x. WritesAt c i (get_or s.ended i 0) (get_or s.places i 0) m x) (sym same.0) writes;
          done = inr (refl, (let e : get_or (set s.places i (get_or s.places i 0 + 1)) i 0 ≡ get_or s.places i 0 + 1 = get_or-set_at s.places i i (get_or s.places i 0 + 1) 0 refl inside in omega (arith, e)));
          holds = same.1;
        })
        | inr other ↦ origin_stays s (record (moved s i) { tags = set s.tags cell (m + 1) }) slot (done_stays s i inside) other.1 before
      ]

  -- who writes to the cell that task i writes to
  record IsOwn (s : ExecState) (i cell j k place l : ℕ) : Type 0 where
    pub here : WritesAt c j k place l cell
    pub one : j ≡ i
    pub own : l ≡ k
    pub at : get_or s.ended j 0 ≡ get_or s.ended i 0

  one_owner : (s : ExecState) (i n m cell : ℕ) → WritesAt c i n (get_or s.places i 0) m cell → (j k place l other : ℕ) → WritesAt c j k place l other → other ≡ cell → IsOwn s i cell j k place l
  one_owner s i n m cell now j k place l other writes same =
      let here = subst (λ x. WritesAt c j k place l x) same writes in
      let one = facts.writer j k place l i n (get_or s.places i 0) m cell here now in
      record { here = here; one = one; own = facts.own j k place l cell here; at = ap (λ x. get_or s.ended x 0) one }

  -- a job writes its instance to a cell
  tagged_write : (s : ExecState) → IsTagged c s → (i : ℕ) (e : EdgeNo) (m cell : ℕ) → HasJob c s i → ActsReleased c s i →
      next_action c s i ≡ actions.Write e m (record { 0 = cell }) → IsTagged c (record (moved s i) { tags = set s.tags cell (m + 1) })
  tagged_write s tagged i e m cell has released is =
      let n : ℕ = get_or s.ended i 0 in
      let job : IsJob c i n = record { task = has.task; job = has.job } in
      let now_written : WritesAt c i n (get_or s.places i 0) m cell = record { job = job; action = (e, is) } in
      let own : m ≡ get_or s.ended i 0 = facts.own i n (get_or s.places i 0) m cell now_written in
      let in_tags : cell < length s.tags = omega (arith, tagged.tags, facts.write_cell i n (get_or s.places i 0) m cell now_written) in
      let inside : i < length s.places = omega (arith, tagged.places, has.task) in
      record {
        ended = tagged.ended;
        places = length-set s.places i (get_or s.places i 0 + 1) ∙ tagged.places;
        tags = length-set s.tags cell (m + 1) ∙ tagged.tags;
        counted = tagged.counted;
        written = λ j k place l other writes done.
            elim (get_set s.tags cell (m + 1) other in_tags) [
              | inl same ↦
                  (let its = one_owner s i n m cell now_written j k place l other writes same.0 in
                  elim done [
                    | inl below ↦ omega (arith, same.1, its.own, its.at, own, below)
                    | inr present ↦ omega (arith, same.1, its.own, its.at, own, present.0)
                  ])
              | inr differs ↦
                  elim (done_moved s i inside j k place done) [
                    | inl before ↦ (let h : l + 1 ≤ get_or s.tags other 0 = tagged.written j k place l other writes before in omega (arith, differs.1, h))
                    | inr present ↦ absurd (differs.0 (same_cell (writes.action.0) l other e m cell
                        (sym (writes.action.1) ∙ ap (λ x. action_at c j k x) present.2 ∙ ap (λ x. action_at c j x (get_or s.places i 0)) present.1
                        ∙ ap (λ x. action_at c x (get_or s.ended i 0) (get_or s.places i 0)) present.0 ∙ is)))
                  ]
            ];
        ahead = λ j k place l other writes ahead.
            elim (get_set s.tags cell (m + 1) other in_tags) [
              | inl same ↦
                  (let its = one_owner s i n m cell now_written j k place l other writes same.0 in
                  let one = its.one in
                  elim ahead [
                    | inl later ↦ omega (arith, same.1, its.own, its.at, own, later)
                    | inr present ↦
                        (let there : WritesAt c i n place l cell =
                        subst (λ x. WritesAt c i x place l cell) (present.0 ∙ its.at) (subst (λ x. WritesAt c x k place l cell) one its.here) in
                        let where_now : place ≡ get_or s.places i 0 = facts.once i n place l (get_or s.places i 0) m cell there now_written in
                        let moved_on : get_or (set s.places i (get_or s.places i 0 + 1)) j 0 ≡ get_or s.places i 0 + 1 = get_or-set_at s.places i j (get_or s.places i 0 + 1) 0 one inside in
                        absurd (let p : get_or (set s.places i (get_or s.places i 0 + 1)) j 0 ≤ place = present.1 in omega (arith, p, moved_on, where_now)))
                  ])
              | inr differs ↦
                  (let h : get_or s.tags other 0 ≤ l = tagged.ahead j k place l other writes (ahead_moved s i inside j k place ahead) in
                  omega (arith, differs.1, h))
            ];
        origin = λ slot. origin_written s i cell m slot inside in_tags now_written (tagged.origin slot);
      }

  -- where each task stands after the end of a job of task i
  finished : (s : ExecState) (i : ℕ) → i < length s.ended → i < length s.places → (j : ℕ) →
      ((j ≡ i) × (get_or (set s.ended i (get_or s.ended i 0 + 1)) j 0 ≡ get_or s.ended j 0 + 1) × (get_or (set s.places i 0) j 0 ≡ 0))
      ⊎ ((get_or (set s.ended i (get_or s.ended i 0 + 1)) j 0 ≡ get_or s.ended j 0) × (get_or (set s.places i 0) j 0 ≡ get_or s.places j 0))
  finished s i inside inside_places j = elim (cases_eq j i) [
    | inl same ↦ inl (
      same,
      get_or-set_at s.ended i j (get_or s.ended i 0 + 1) 0 same inside ∙ ap (λ x. get_or s.ended x 0 + 1) (sym same),
      get_or-set_at s.places i j 0 0 same inside_places,
    )
    | inr other ↦ inr (get_or-set_other s.ended i j (get_or s.ended i 0 + 1) 0 other, get_or-set_other s.places i j 0 0 other)
  ]

  -- the end of a job of task i does this end and nothing else
  pub ends_once : (s : ExecState) (i : ℕ) → HasJob c s i → next_action c s i ≡ actions.End → i < length s.ended → i < length s.places → (j n place : ℕ) →
      IsDone (record s { ended = set s.ended i (get_or s.ended i 0 + 1); places = set s.places i 0 }) j n place →
      IsDone s j n place ⊎ ((j ≡ i) × (n ≡ get_or s.ended i 0) × (action_at c j n place ≡ actions.End))
  ends_once s i has is inside inside_places j n place done =
      elim (finished s i inside inside_places j) [
        | inl own ↦
            (let at : get_or s.ended j 0 ≡ get_or s.ended i 0 = ap (λ x. get_or s.ended x 0) own.0 in
            let at_place : get_or s.places j 0 ≡ get_or s.places i 0 = ap (λ x. get_or s.places x 0) own.0 in
            elim done [
              | inl below ↦
                  (elim (cases_lt n (get_or s.ended i 0)) [
                    | inl earlier ↦ inl (inl (omega (arith, earlier, at)))
                    | inr not_earlier ↦
                        (let now : n ≡ get_or s.ended i 0 = omega (arith, below, own.1, at, not_earlier) in
                        let its : action_at c j n place ≡ action_at c i (get_or s.ended i 0) place =
                        ap (λ x. action_at c x n place) own.0 ∙ ap (λ x. action_at c i x place) now in
                        elim (cases_order place (get_or s.places i 0)) [
                          | inl here ↦ inr (own.0, now, its ∙ ap (λ x. action_at c i (get_or s.ended i 0) x) here ∙ is)
                          | inr apart ↦
                              (elim apart [
                                | inl before ↦ inl (inr ((omega (arith, now, at)), (omega (arith, before, at_place))))
                                | inr past ↦ inr (own.0, now, its ∙ facts.last i (get_or s.ended i 0) (get_or s.places i 0) place (record { task = has.task; job = has.job }) is past)
                              ])
                        ])
                  ])
              | inr present ↦ absurd (let p : place < get_or (set s.places i 0) j 0 = present.1 in omega (arith, p, own.2))
            ])
        | inr other ↦
            elim done [
              | inl below ↦ inl (inl (omega (arith, below, other.0)))
              | inr present ↦ inl (inr ((omega (arith, present.0, other.0)), (omega (arith, present.1, other.1))))
            ]
      ]

  -- a write that is done after the end of a job was done before it
  done_finished : (s : ExecState) (i : ℕ) → HasJob c s i → next_action c s i ≡ actions.End → i < length s.ended → i < length s.places →
      (j k place m cell : ℕ) → WritesAt c j k place m cell →
      IsDone (record s { ended = set s.ended i (get_or s.ended i 0 + 1); places = set s.places i 0 }) j k place → IsDone s j k place
  done_finished s i has is inside inside_places j k place m cell writes done =
      elim (ends_once s i has is inside inside_places j k place done) [
        | inl before ↦ before
        | inr end ↦ absurd (write_not_finish (writes.action.0) m (record { 0 = cell }) (sym writes.action.1 ∙ end.2))
      ]

  -- ahead after the end of a job of task i: ahead before it
  ahead_finished : (s : ExecState) (i : ℕ) → i < length s.ended → i < length s.places → (j k place : ℕ) →
      IsAhead (record s { ended = set s.ended i (get_or s.ended i 0 + 1); places = set s.places i 0 }) j k place → IsAhead s j k place
  ahead_finished s i inside inside_places j k place ahead =
      elim (finished s i inside inside_places j) [
        | inl own ↦ inl (elim ahead [ inl later ↦ omega (arith, later, own.1) | inr present ↦ omega (arith, present.0, own.1) ])
        | inr other ↦ rw (other.0, other.1) at ahead
      ]

  done_stays_finished : (s : ExecState) (i : ℕ) → i < length s.ended → i < length s.places → (j n place : ℕ) → IsDone s j n place →
      IsDone (record s { ended = set s.ended i (get_or s.ended i 0 + 1); places = set s.places i 0 }) j n place
  done_stays_finished s i inside inside_places j n place done =
      elim (finished s i inside inside_places j) [
        | inl own ↦ inl (elim done [ inl below ↦ omega (arith, below, own.1) | inr here ↦ omega (arith, here.0, own.1) ])
        | inr other ↦ rw (other.0, other.1) done
      ]

  -- a job ends
  tagged_finish : (s : ExecState) → IsTagged c s → (i : ℕ) → HasJob c s i → next_action c s i ≡ actions.End →
      IsTagged c (record s { ended = set s.ended i (get_or s.ended i 0 + 1); places = set s.places i 0 })
  tagged_finish s tagged i has is =
      let n : ℕ = get_or s.ended i 0 in
      let inside : i < length s.ended = omega (arith, tagged.ended, has.task) in
      let inside_places : i < length s.places = omega (arith, tagged.places, has.task) in
      record {
        ended = length-set s.ended i (n + 1) ∙ tagged.ended;
        places = length-set s.places i 0 ∙ tagged.places;
        tags = tagged.tags;
        counted = λ j task.
            elim (get_set s.ended i (n + 1) j inside) [
              | inl same ↦ (let jobs : c.jobs j ≡ c.jobs i = ap (λ x. c.jobs x) same.0 in let below : n < c.jobs i = has.job in omega (arith, same.1, jobs, below))
              | inr other ↦ (let h : get_or s.ended j 0 ≤ c.jobs j = tagged.counted j task in omega (arith, other.1, h))
            ];
        written = λ j k place m cell writes done. tagged.written j k place m cell writes (done_finished s i has is inside inside_places j k place m cell writes done);
        ahead = λ j k place m cell writes ahead. tagged.ahead j k place m cell writes (ahead_finished s i inside inside_places j k place ahead);
        origin = λ slot. origin_stays s (record s { ended = set s.ended i (n + 1); places = set s.places i 0 }) slot (done_stays_finished s i inside inside_places) refl (tagged.origin slot);
      }

  -- an act does its next action
  tagged_action : (s : ExecState) → IsTagged c s → (i : ℕ) → HasJob c s i → ActsReleased c s i → (action : Action) →
      next_action c s i ≡ action → IsTagged c (after_action s i action)
  tagged_action s tagged i has released (actions.ReadConst port value) is = tagged_moved s tagged i has.task (λ x y z h. constant_not_write port value x y (record { 0 = z }) (sym is ∙ h))
  tagged_action s tagged i has released (actions.Read port e m cell) is = tagged_moved s tagged i has.task (λ x y z h. read_not_write port e m cell x y (record { 0 = z }) (sym is ∙ h))
  tagged_action s tagged i has released (actions.Write e m cell) is = tagged_write s tagged i e m cell.0 has released is
  tagged_action s tagged i has released actions.End is = tagged_finish s tagged i has is

  -- an event that a gated list allows keeps a tagged state
  pub tagged_event : (s : ExecState) → IsTagged c s → (event : Event) → KeepsFree c s event → IsTagged c (after_event c s event)
  tagged_event s tagged events.Tick keeps = tagged_tick s tagged
  tagged_event s tagged (events.Act task) keeps = tagged_action s tagged task.0 keeps.0 keeps.1 (next_action c s task.0) refl

  -- the opening state is sound
  pub tagged_opening : IsTagged c (opening c)
  tagged_opening = record {
    ended = length-replicate c.tasks 0;
    places = length-replicate c.tasks 0;
    tags = length-replicate c.slots 0;
    counted = λ i task. (let z : ◌≡◌ {A = ℕ} (get_or (replicate c.tasks 0) i 0) 0 = get_or-replicate c.tasks i 0 0 task in omega (arith, z));
    written = λ i n place m cell writes done.
        (let e : ◌≡◌ {A = ℕ} (get_or (replicate c.tasks 0) i 0) 0 = get_or-replicate c.tasks i 0 0 writes.job.task in
        elim done [
          | inl below ↦ absurd (omega (arith, below, e))
          | inr here ↦ absurd (omega (arith, here.1, e))
        ]);
    ahead = λ i n place m cell writes ahead. (let z : ◌≡◌ {A = ℕ} (get_or (replicate c.slots 0) cell 0) 0 = get_or-replicate c.slots cell 0 0 (facts.write_cell i n place m cell writes) in omega (arith, z));
    origin = λ slot. inl (empty slot);
  }
    where
      empty : (slot : ℕ) → ◌≡◌ {A = ℕ} (get_or (replicate c.slots 0) slot 0) 0
      empty slot = elim (cases_lt slot c.slots) [
        | inl inside ↦ get_or-replicate c.slots slot 0 0 inside
        | inr beyond ↦ get_or_past (replicate {A = ℕ} c.slots 0) slot 0 (let zeros : List ℕ = replicate c.slots 0 in let l : length zeros ≡ c.slots = length-replicate c.slots 0 in omega (arith, l, beyond))
      ]

  -- the high half of a cell holds no later instance than the low half
  pub high_not_later : (s : ExecState) → IsTagged c s → (cell : ℕ) → get_or s.tags (high cell) 0 ≤ get_or s.tags (low cell) 0
  high_not_later s tagged cell =
      elim (tagged.origin (high cell)) [
        | inl none ↦ omega (arith, none)
        | inr from ↦
            (let is : IsHigh (action_at c from.task from.job from.place) = subst (λ (a : Action). IsHigh a) (sym from.writes.action.1) (cell, refl) in
            let pair = facts.paired from.task from.job from.place from.writes.job is in
            let first : WritesAt c from.task from.job pair.0 from.instance (low cell) = record {
              job = from.writes.job;
              action = (
                from.writes.action.0,
                pair.2 ∙ ap (λ (a : Action). low_of a) from.writes.action.1
                    ∙ ap (λ (x : ℕ). actions.Write from.writes.action.0 from.instance (record { 0 = x })) (let z : high cell - 1 ≡ low cell = omega arith in z),
              );
            } in
            let done : IsDone s from.task from.job pair.0 =
            (elim from.done [
              | inl below ↦ inl below
              | inr here ↦ inr (here.0, omega (arith, here.1, pair.1))
            ]) in
            omega (arith, tagged.written from.task from.job pair.0 from.instance (low cell) first done, from.holds))
      ]

  -- so it is for lists
  pub IsFree_tagged : (s : ExecState) → IsTagged c s → (list : List Event) → IsFree c s list → IsTagged c (after_events c s list)
  IsFree_tagged s tagged [] free = tagged
  IsFree_tagged s tagged (event ∷ list) free = IsFree_tagged (after_event c s event) (tagged_event s tagged event free.0) list free.1

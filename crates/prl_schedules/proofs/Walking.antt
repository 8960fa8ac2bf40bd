-- Events one after another, and walks along them.
use Rattle.prl_base.proofs.Standard.{◌≡◌, ◌≢◌, ◌+◌, ◌<◌, ◌≤◌, ◌^◌, ◌⊎◌, ℕ, zero, suc, List, [], ◌∷◌, length, get_or, set, take, None, Some, refl, sym, ◌∙◌, ap, subst, arith, inl, inr, slice_get}
use Rattle.prl_base.proofs.Standard.{slice_index, cases_lt, get_or_past, get_or_read}
use Rattle.prl_base.specs.declared.numbers.TaskNo.{TaskNo}
use Rattle.prl_plan.specs.Vocabulary.{HasPlanFacts, IsHorizon, constants_of, IsPlan, PlanView, actions_of, FirstBroken, HasJob, IsLegal, KeepsLegal, first_unfinished, ExecState, RunConstants}
use Rattle.prl_plan.specs.Vocabulary.{action_at, after_action, after_event, after_events, moved, next_action, opening, IsSound}
use Rattle.prl_plan.specs.declared.events.Action.{Action}
use Rattle.prl_plan.specs.declared.events.Event.{Event}
use Rattle.prl_plan.specs.declared.events.Rule.{Rule}
use Rattle.prl_plan.specs.declared.horizons.Horizon.{Horizon}
use Rattle.prl_plan.specs.declared.events.Action.TheVariants as actions
use Rattle.prl_plan.specs.declared.events.Event.TheVariants as events
use Rattle.prl_plan.proofs.StateLaws.{gated_event_keeps_sound, legal_event_is_gated, opening_is_sound}
use Rattle.prl_schedules.specs.Vocabulary.{Cause, Walk, IsBrokenAt, IsCause, IsFinding, state_at, AreForbidden, IsCauseThere, IsForbidden, IsOfSize, IsReached, IsWalk, Shows, Steps, any_run, state_after}

-- what events make of a state does not depend on the horizon
pub same_from : (plan : PlanView) (h : Horizon) (s : ExecState) (list : List Event) → after_events (constants_of plan h) s list ≡ after_events (any_run plan) s list
same_from plan h s [] = refl
same_from plan h s (events.Tick ∷ list) = same_from plan h (record s { now = s.now + 1 }) list
same_from plan h s (events.Act task ∷ list) = same_from plan h (after_event (any_run plan) s (events.Act task)) list

pub same_state : (plan : PlanView) (h : Horizon) (list : List Event) →
    after_events (constants_of plan h) (opening (constants_of plan h)) list ≡ state_after plan list
same_state plan h list = same_from plan h (opening (any_run plan)) list

module _ (c : RunConstants) where
  -- one event more
  pub after_one_more : (s : ExecState) (xs : List Event) (k : ℕ) (x : Event) → slice_get xs k ≡ Some x →
      after_events c s (take (suc k) xs) ≡ after_event c (after_events c s (take k xs)) x
  after_one_more s [] k x here = absurd cc
  after_one_more s (y ∷ ys) zero x here = (let same : y ≡ x = cc in ap (after_event c s) same)
  after_one_more s (y ∷ ys) (suc k) x here = after_one_more (after_event c s y) ys k x here

  -- each event of a legal list keeps the rules
  pub keeps_at : (s : ExecState) (xs : List Event) (k : ℕ) (x : Event) → IsLegal c s xs → slice_get xs k ≡ Some x →
      KeepsLegal c (after_events c s (take k xs)) x
  keeps_at s [] k x legal here = absurd cc
  keeps_at s (y ∷ ys) zero x legal here = (let same : y ≡ x = cc in subst (KeepsLegal c s) same legal.0)
  keeps_at s (y ∷ ys) (suc k) x legal here = keeps_at (after_event c s y) ys k x legal.1 here

  -- no act moves the clock
  clock_stays : (s : ExecState) (i : ℕ) (action : Action) → (after_action s i action).now ≡ s.now
  clock_stays s i (actions.ReadConst port value) = refl
  clock_stays s i (actions.Read port edge m slot) = refl
  clock_stays s i (actions.Write edge m slot) = refl
  clock_stays s i actions.End = refl

  -- a legal list stays within the end
  pub stays_within : (s : ExecState) (xs : List Event) → s.now ≤ c.end → IsLegal c s xs → (after_events c s xs).now ≤ c.end
  stays_within s [] within legal = within
  stays_within s (events.Tick ∷ xs) within legal = stays_within (record s { now = s.now + 1 }) xs legal.0.within legal.1
  stays_within s (events.Act task ∷ xs) within legal =
      stays_within (after_event c s (events.Act task)) xs
      (let same = clock_stays s task.0 (next_action c s task.0) in omega (arith, same, within)) legal.1

-- a legal list leads to a sound state
pub legal_is_sound : (c : RunConstants) → HasPlanFacts c → (s : ExecState) (xs : List Event) → IsSound c s → IsLegal c s xs → IsSound c (after_events c s xs)
legal_is_sound c facts s [] sound legal = sound
legal_is_sound c facts s (x ∷ xs) sound legal =
    legal_is_sound c facts (after_event c s x) xs
    (gated_event_keeps_sound c facts s sound x (legal_event_is_gated c facts s sound x legal.0)) legal.1

-- an action that does not end the job moves its place, one that does ends it
pub moves : (plan : PlanView) (task : TaskNo) (action : Action) (walk walk' : Walk) → action ≢ actions.End →
    action ≡ action_at (any_run plan) task.0 (slice_index walk.ended.items task.0) (slice_index walk.places.items task.0) →
    walk'.tick ≡ walk.tick → walk'.ended.items ≡ walk.ended.items →
    walk'.places.items ≡ set walk.places.items task.0 (slice_index walk.places.items task.0 + 1) → Steps plan (events.Act task) walk walk'
moves plan task action walk walk' not_end is tick ended places s shows =
    let next : next_action (any_run plan) s task.0 ≡ action =
    ap (λ (xs : List ℕ). action_at (any_run plan) task.0 (slice_index xs task.0) (slice_index s.places task.0)) shows.ended
    ∙ ap (λ (xs : List ℕ). action_at (any_run plan) task.0 (slice_index walk.ended.items task.0) (slice_index xs task.0)) shows.places ∙ sym is in
    subst (λ (a : Action). Shows (after_action s task.0 a) walk') (sym next) (by_action action not_end)
  where
    by_moved : Shows (moved s task.0) walk'
    by_moved = record {
      tick = shows.tick ∙ sym tick;
      ended = shows.ended ∙ sym ended;
      places = ap (λ (xs : List ℕ). set xs task.0 (slice_index xs task.0 + 1)) shows.places ∙ sym places;
    }

    by_write : (slot m : ℕ) → Shows (record (moved s task.0) { tags = set s.tags slot (m + 1) }) walk'
    by_write slot m = record { tick = by_moved.tick; ended = by_moved.ended; places = by_moved.places }

    by_action : (a : Action) → a ≢ actions.End → Shows (after_action s task.0 a) walk'
    by_action (actions.ReadConst port value) other = by_moved
    by_action (actions.Read port edge m slot) other = by_moved
    by_action (actions.Write edge m slot) other = by_write slot.0 m
    by_action actions.End other = absurd (other refl)

pub ends : (plan : PlanView) (task : TaskNo) (walk walk' : Walk) →
    action_at (any_run plan) task.0 (slice_index walk.ended.items task.0) (slice_index walk.places.items task.0) ≡ actions.End →
    walk'.tick ≡ walk.tick → walk'.ended.items ≡ set walk.ended.items task.0 (slice_index walk.ended.items task.0 + 1) →
    walk'.places.items ≡ set walk.places.items task.0 0 → Steps plan (events.Act task) walk walk'
ends plan task walk walk' is tick ended places s shows =
    let next : next_action (any_run plan) s task.0 ≡ actions.End =
    ap (λ (xs : List ℕ). action_at (any_run plan) task.0 (slice_index xs task.0) (slice_index s.places task.0)) shows.ended
    ∙ ap (λ (xs : List ℕ). action_at (any_run plan) task.0 (slice_index walk.ended.items task.0) (slice_index xs task.0)) shows.places ∙ is in
    subst (λ (a : Action). Shows (after_action s task.0 a) walk') (sym next) (record {
      tick = shows.tick ∙ sym tick;
      ended = ap (λ (xs : List ℕ). set xs task.0 (slice_index xs task.0 + 1)) shows.ended ∙ sym ended;
      places = ap (λ (xs : List ℕ). set xs task.0 0) shows.places ∙ sym places;
    })

-- where an action other than the end stands, there are so many actions
pub is_action : (list : List Action) (place : ℕ) (action : Action) → action ≢ actions.End → action ≡ get_or list place actions.End → place < length list
is_action list place action other is = elim (cases_lt place (length list)) [
  | inl below ↦ below
  | inr past ↦ absurd (other (is ∙ get_or_past list place actions.End past))
]

-- the action at a place of the next job
pub action_is : (plan : PlanView) (task : TaskNo) (walk : Walk) (action : Action) (job place : ℕ) → task.0 < length walk.ended.items → task.0 < length walk.places.items →
    job ≡ get_or walk.ended.items task.0 job → place ≡ get_or walk.places.items task.0 place →
    action ≡ get_or (actions_of plan task.0 job) place actions.End →
    action ≡ action_at (any_run plan) task.0 (slice_index walk.ended.items task.0) (slice_index walk.places.items task.0)
action_is plan task walk action job place ended places is_job is_place is =
    is ∙ ap (λ (n : ℕ). get_or (actions_of plan task.0 n) place actions.End) (get_or_read walk.ended.items task.0 job ended is_job 0)
    ∙ ap (λ (k : ℕ). get_or (actions_of plan task.0 (slice_index walk.ended.items task.0)) k actions.End)
    (get_or_read walk.places.items task.0 place places is_place 0)

-- no horizon has a job of so many actions
pub too_many : (plan : PlanView) (task : TaskNo) (action : Action) (walk : Walk) → action ≢ actions.End →
    action ≡ action_at (any_run plan) task.0 (slice_index walk.ended.items task.0) (slice_index walk.places.items task.0) →
    slice_index walk.places.items task.0 + 1 ≡ 2 ^ 32 →
    ((plan : PlanView) (horizon : Horizon) → IsPlan plan → IsHorizon plan horizon → HasPlanFacts (constants_of plan horizon)) → IsPlan plan →
    IsForbidden plan (events.Act task) walk
too_many plan task action walk other is full law is_plan h is_horizon s shows keeps =
    let facts = law plan h is_plan is_horizon in
    let has = keeps.0 in
    let n = ap (λ (xs : List ℕ). slice_index xs task.0) shows.ended in
    let job = has.job in
    let short = facts.short task.0 (slice_index walk.ended.items task.0) (record { task = has.task; job = omega (arith, job, n) }) in
    let below = is_action (actions_of plan task.0 (slice_index walk.ended.items task.0)) (slice_index walk.places.items task.0) action other is in
    omega (arith, short, below, full)

-- one event more along a walk
pub walks_on : (plan : PlanView) (list : List Event) (k : ℕ) (event : Event) (walk walk' : Walk) → slice_get list k ≡ Some event →
    IsWalk plan (take k list) walk → Steps plan event walk walk' → IsOfSize plan walk' → walk'.tick ≤ walk.tick + 1 → k < length list →
    length (take k list) ≡ k → length (take (suc k) list) ≡ suc k → IsWalk plan (take (suc k) list) walk'
walks_on plan list k event walk walk' here is steps size few inside len len' = record {
  shows = subst (λ (s : ExecState). Shows s walk') (sym (after_one_more (any_run plan) (opening (any_run plan)) list k event here))
      (steps (state_after plan (take k list)) is.shows);
  size = size;
  few = (let f = is.few in omega (arith, f, few, len, len'));
}

-- where a walk is after a legal list
pub reached_at : (plan : PlanView) (h : Horizon) → HasPlanFacts (constants_of plan h) → (list : List Event) (walk : Walk) → IsWalk plan list walk →
    IsLegal (constants_of plan h) (opening (constants_of plan h)) list →
    IsReached (constants_of plan h) (after_events (constants_of plan h) (opening (constants_of plan h)) list) walk
reached_at plan h facts list walk is legal = record {
  shows = subst (λ (s : ExecState). Shows s walk) (sym (same_state plan h list)) is.shows;
  sound = legal_is_sound (constants_of plan h) facts (opening (constants_of plan h)) list (opening_is_sound (constants_of plan h) facts) legal;
  within = stays_within (constants_of plan h) (opening (constants_of plan h)) list (omega arith) legal;
}

-- a list with an event that no horizon allows is allowed in none
pub list_forbidden : (plan : PlanView) (list : List Event) (k : ℕ) (event : Event) (walk : Walk) → slice_get list k ≡ Some event →
    IsWalk plan (take k list) walk → IsForbidden plan event walk → AreForbidden plan list
list_forbidden plan list k event walk here is never h is_horizon legal =
    never h is_horizon (after_events (constants_of plan h) (opening (constants_of plan h)) (take k list))
    (subst (λ (s : ExecState). Shows s walk) (sym (same_state plan h (take k list))) is.shows)
    (keeps_at (constants_of plan h) (opening (constants_of plan h)) list k event legal here)

-- the law that the jobs of every plan keep facts
abbrev pub KeepFacts : Type 0
KeepFacts = (plan : PlanView) (horizon : Horizon) → IsPlan plan → IsHorizon plan horizon → HasPlanFacts (constants_of plan horizon)

module _ (plan : PlanView) (law : KeepFacts) (is : IsPlan plan) (list : List Event) (index : ℕ) (rule : Rule) (walk : Walk) (event : Event)
    (here : slice_get list index ≡ Some event) (is_walk : IsWalk plan (take index list) walk) where
  same_event : (h : Horizon) (at : IsBrokenAt (constants_of plan h) list index rule) → at.event ≡ event
  same_event h at = (let there = at.here in cc)

  reached_here : (h : Horizon) → IsHorizon plan h → (at : IsBrokenAt (constants_of plan h) list index rule) →
      IsReached (constants_of plan h) (state_at (constants_of plan h) list index) walk
  reached_here h is_horizon at = reached_at plan h (law plan h is is_horizon) (take index list) walk is_walk at.legal

  -- nothing is found where the event breaks the rule in no horizon
  pub none_found : IsCauseThere plan walk event rule None → IsFinding plan list index rule None
  none_found none h is_horizon at =
      none h is_horizon (state_at (constants_of plan h) list index) (reached_here h is_horizon at)
      (subst (λ (e : Event). FirstBroken (constants_of plan h) (state_at (constants_of plan h) list index) e rule) (same_event h at) at.first)

  pub found_is : (cause : Cause) → IsCauseThere plan walk event rule (Some cause) →
      IsFinding plan list index rule (Some (record { tick = walk.tick; cause = cause }))
  found_is cause told h is_horizon at =
      let reached = reached_here h is_horizon at in (
        sym reached.shows.tick,
        subst (λ (e : Event). IsCause (constants_of plan h) (state_at (constants_of plan h) list index) e rule cause) (sym (same_event h at))
            (told h is_horizon (state_at (constants_of plan h) list index) reached
            (subst (λ (e : Event). FirstBroken (constants_of plan h) (state_at (constants_of plan h) list index) e rule) (same_event h at) at.first)),
      )

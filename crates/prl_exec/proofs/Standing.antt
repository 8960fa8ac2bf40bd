-- How a run stands after one more event.
use Rattle.prl_base.proofs.Standard.{◌≡◌, ◌≢◌, ◌+◌, ◌<◌, ◌≤◌, ◌++◌, ℕ, List, [], ◌∷◌, length, get_or, set, refl, sym, ◌∙◌, ap, subst, arith, inl, inr, Some, slice_get, cases_eq, get_or-set_at}
use Rattle.prl_base.proofs.Standard.{get_or-set_other, slice_get_within}
use Rattle.prl_plan.specs.Vocabulary.{FindsTag, HasJob, IsFree, KeepsGated, RunConstants, ExecState, opening, action_at, next_action, after_action, after_event, IsSound}
use Rattle.prl_plan.specs.declared.events.Action.{Action}
use Rattle.prl_plan.specs.declared.events.Event.{Event}
use Rattle.prl_plan.specs.declared.events.Action.TheVariants as actions
use Rattle.prl_rule.specs.Rule.{reached}
use Rattle.prl_rule.specs.declared.views.ClockPart.{ClockPart}
use Rattle.prl_seats.specs.declared.jobs.Stage.TheVariants as stages
use Rattle.prl_seats.specs.JobSeats.{JobSeatView}
use Rattle.prl_board.specs.Lones.{LoneView}
use Rattle.prl_exec.specs.Standing.{RunLaws, StandsAt, StandsIn, act_of}

-- what an action makes of the seat that does it
pub record IsDoneBy (action : Action) (s t : JobSeatView) : Type 0 where
  pub goes : (action ≡ actions.End → ⊥) → (t.job ≡ s.job) × (t.place ≡ s.place + 1)
  pub ends : action ≡ actions.End → (t.job ≡ s.job + 1) × (t.place ≡ 0)

-- of the tasks, task i's seat stands otherwise than before at most
pub record IsElse (i : ℕ) (l m : LoneView) (s t : JobSeatView) : Type 0 where
  pub was : slice_get l.seats i ≡ Some s
  pub is : slice_get m.seats i ≡ Some t
  pub tasks : length m.seats ≡ length l.seats
  pub others : (j : ℕ) → (j ≡ i → ⊥) → slice_get m.seats j ≡ slice_get l.seats j
  pub clock : m.view.clock ≡ l.view.clock

module _ (c : RunConstants) (laws : RunLaws c) where
  -- one event more
  pub record Appended (list : List Event) (event : Event) : Type 0 where
    pub state : reached c (list ++ event ∷ []) ≡ after_event c (reached c list) event
    pub free : IsFree c (opening c) (list ++ event ∷ [])
    pub sound : IsSound c (reached c (list ++ event ∷ []))

  pub appended : (list : List Event) (event : Event) → IsFree c (opening c) list → IsSound c (reached c list) → KeepsGated c (reached c list) event → Appended list event
  appended list event free sound keeps =
      let state : reached c (list ++ event ∷ []) ≡ after_event c (reached c list) event = laws.state (opening c) list (event ∷ []) in
      record {
        state = state;
        free = (laws.free (opening c) list (event ∷ [])).1 (free, (laws.loose (reached c list) event keeps, tt));
        sound = subst (IsSound c) (sym state) (laws.keeps (reached c list) sound event keeps);
      }

  -- what an action leaves of `now` and of the other tasks
  now_stays : (s : ExecState) (i : ℕ) (action : Action) → (after_action s i action).now ≡ s.now
  now_stays s i (actions.ReadConst port value) = refl
  now_stays s i (actions.Read port e m slot) = refl
  now_stays s i (actions.Write e m slot) = refl
  now_stays s i actions.End = refl

  pub else_stays : (s : ExecState) (i j : ℕ) (action : Action) → j ≢ i →
      (get_or (after_action s i action).ended j 0 ≡ get_or s.ended j 0) × (get_or (after_action s i action).places j 0 ≡ get_or s.places j 0)
  else_stays s i j (actions.ReadConst port value) ne = (refl, get_or-set_other s.places i j (get_or s.places i 0 + 1) 0 ne)
  else_stays s i j (actions.Read port e m slot) ne = (refl, get_or-set_other s.places i j (get_or s.places i 0 + 1) 0 ne)
  else_stays s i j (actions.Write e m slot) ne = (refl, get_or-set_other s.places i j (get_or s.places i 0 + 1) 0 ne)
  else_stays s i j actions.End ne = (get_or-set_other s.ended i j (get_or s.ended i 0 + 1) 0 ne, get_or-set_other s.places i j 0 0 ne)

  -- where the task stands that did the action
  module _ (s : ExecState) (i : ℕ) (ended : i < length s.ended) (places : i < length s.places) (before after : JobSeatView)
      (job : before.job ≡ get_or s.ended i 0) (place : before.place ≡ get_or s.places i 0) where
    goes_there : (action : Action) → (action ≡ actions.End → ⊥) → (t : ExecState) → t.ended ≡ s.ended → t.places ≡ set s.places i (get_or s.places i 0 + 1) →
        IsDoneBy action before after → (after.job ≡ get_or t.ended i 0) × (after.place ≡ get_or t.places i 0)
    goes_there action none t same moved done =
        let d = done.goes none in (
          d.0 ∙ (job ∙ sym (ap (λ (xs : List ℕ). get_or xs i 0) same)),
          d.1 ∙ (ap (λ (k : ℕ). k + 1) place ∙ sym (ap (λ (xs : List ℕ). get_or xs i 0) moved ∙ get_or-set_at s.places i i (get_or s.places i 0 + 1) 0 refl places)),
        )

    stands_there : (action : Action) → IsDoneBy action before after →
        (after.job ≡ get_or (after_action s i action).ended i 0) × (after.place ≡ get_or (after_action s i action).places i 0)
    stands_there (actions.ReadConst port value) done = goes_there (actions.ReadConst port value) (λ e. cc) (after_action s i (actions.ReadConst port value)) refl refl done
    stands_there (actions.Read port e m slot) done = goes_there (actions.Read port e m slot) (λ f. cc) (after_action s i (actions.Read port e m slot)) refl refl done
    stands_there (actions.Write e m slot) done = goes_there (actions.Write e m slot) (λ f. cc) (after_action s i (actions.Write e m slot)) refl refl done
    stands_there actions.End done =
        let d = done.ends refl in (
          d.0 ∙ (ap (λ (k : ℕ). k + 1) job ∙ sym (get_or-set_at s.ended i i (get_or s.ended i 0 + 1) 0 refl ended)),
          d.1 ∙ sym (get_or-set_at s.places i i 0 0 refl places),
        )

  module _ (l m : LoneView) (r : ClockPart) (list : List Event) (i : ℕ) (s t : JobSeatView) (stands : StandsIn c l r list) (other : IsElse i l m s t) where
    inside : i < c.tasks
    inside = (let w = slice_get_within l.seats i s other.was in let n = stands.tasks in omega (arith, w, n))

    its_job : s.job < c.jobs i → HasJob c (reached c list) i
    its_job below =
        let e = (stands.each i s other.was).job in
        record {
          task = inside;
          job = (let z : get_or (reached c list).ended i 0 < c.jobs i = omega (arith, below, e) in z);
          unfinished = (let z : get_or (reached c list).ended i 0 ≤ get_or (reached c list).ended i 0 = omega arith in z);
        }

    -- the next action of the task is the one at which it stands
    its_action : (action : Action) → action_at c i s.job s.place ≡ action → next_action c (reached c list) i ≡ action
    its_action action at =
        let e = stands.each i s other.was in
        sym (ap (λ (n : ℕ). action_at c i n s.place) e.job ∙ ap (action_at c i (get_or (reached c list).ended i 0)) e.place) ∙ at

    -- the act may come where it finds its tag
    pub may_act : (action : Action) → s.stage ≡ stages.At action → action_at c i s.job s.place ≡ action → s.job < c.jobs i → FindsTag (reached c list) action →
        KeepsGated c (reached c list) (act_of i)
    may_act action stage at below finds =
        let e = stands.each i s other.was in (
          its_job below,
          (let rel = e.released action stage in let f = ap (c.release i) e.job in let z : c.release i (get_or (reached c list).ended i 0) ≤ (reached c list).now = omega (arith, rel, f) in z),
          subst (FindsTag (reached c list)) (sym (its_action action at)) finds,
        )

    -- after the act
    pub acted : (action : Action) → s.stage ≡ stages.At action → action_at c i s.job s.place ≡ action → s.job < c.jobs i → FindsTag (reached c list) action →
        IsDoneBy action s t → ((next : Action) → t.stage ≡ stages.At next → t.job ≡ s.job) → StandsIn c m r (list ++ act_of i ∷ [])
    acted action stage at below finds done same_job =
        let one = appended list (act_of i) stands.free stands.sound (may_act action stage at below finds) in
        let now_in : ExecState = reached c list in
        let then_in : ExecState = reached c (list ++ act_of i ∷ []) in
        let led : then_in ≡ after_action now_in i action = one.state ∙ ap (after_action now_in i) (its_action action at) in
        let e = stands.each i s other.was in
        let n = stands.tasks in let w = inside in
        let ended = stands.sound.tagged.ended in let places = stands.sound.tagged.places in
        let there = stands_there now_in i (omega (arith, ended, w)) (omega (arith, places, w)) s t e.job e.place action done in
        let same_now : then_in.now ≡ now_in.now = ap (λ (x : ExecState). x.now) led ∙ now_stays now_in i action in
        record {
          tasks = other.tasks ∙ stands.tasks;
          clock = other.clock ∙ stands.clock;
          wide = stands.wide;
          now = stands.now ∙ sym same_now;
          free = one.free;
          sound = one.sound;
          each = λ j u has. elim (cases_eq j i) [
            | inl here ↦
                (let same : t ≡ u = (let h : Some t ≡ Some u = sym other.is ∙ (ap (slice_get m.seats) (sym here) ∙ has) in cc h) in
                let P : ℕ × JobSeatView → Type 0 = λ z. StandsAt c then_in z.0 z.1 in
                subst P (λ h. (sym here h, same h)) (record {
                  job = there.0 ∙ sym (ap (λ (x : ExecState). get_or x.ended i 0) led);
                  place = there.1 ∙ sym (ap (λ (x : ExecState). get_or x.places i 0) led);
                  released = λ next is.
                      (let rel = e.released action stage in let f = ap (c.release i) (same_job next is) in omega (arith, rel, f, same_now));
                }))
            | inr apart ↦
                (let was : slice_get l.seats j ≡ Some u = sym (other.others j apart) ∙ has in
                let f = stands.each j u was in
                let stays = else_stays now_in i j action apart in
                record {
                  job = f.job ∙ sym (ap (λ (x : ExecState). get_or x.ended j 0) led ∙ stays.0);
                  place = f.place ∙ sym (ap (λ (x : ExecState). get_or x.places j 0) led ∙ stays.1);
                  released = λ next is. (let rel = f.released next is in omega (arith, rel, same_now));
                })
          ];
        }

    -- where the job and the place stay, an open job being released, the task stands as before
    pub stayed : t.job ≡ s.job → t.place ≡ s.place → ((next : Action) → t.stage ≡ stages.At next → c.release i s.job ≤ r.now) → StandsIn c m r list
    stayed job place opens = record {
      tasks = other.tasks ∙ stands.tasks;
      clock = other.clock ∙ stands.clock;
      wide = stands.wide;
      now = stands.now;
      free = stands.free;
      sound = stands.sound;
      each = λ j u has. elim (cases_eq j i) [
        | inl here ↦
            (let same : t ≡ u = (let h : Some t ≡ Some u = sym other.is ∙ (ap (slice_get m.seats) (sym here) ∙ has) in cc h) in
            let e = stands.each i s other.was in
            let P : ℕ × JobSeatView → Type 0 = λ z. StandsAt c (reached c list) z.0 z.1 in
            subst P (λ h. (sym here h, same h)) (record {
              job = job ∙ e.job;
              place = place ∙ e.place;
              released = λ next is. (let rel = opens next is in let f = ap (c.release i) job in let n = stands.now in omega (arith, rel, f, n));
            }))
        | inr apart ↦ stands.each j u (sym (other.others j apart) ∙ has)
      ];
    }

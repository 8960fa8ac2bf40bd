-- What the calls of one thread leave of how it stands.
use Rattle.prl_base.proofs.Standard.{◌≡◌, ◌+◌, ◌<◌, ◌≤◌, ◌++◌, ℕ, Bool, true, false, List, [], ◌∷◌, length, refl, sym, ◌∙◌, ap, subst, arith, Some, slice_get, slice_index, slice_get_within}
use Rattle.prl_base.specs.declared.numbers.EdgeNo.{EdgeNo}
use Rattle.prl_plan.specs.Vocabulary.{FindsTag, KeepsGated, RunConstants, action_at, next_action}
use Rattle.prl_plan.specs.declared.events.Action.{Action}
use Rattle.prl_plan.specs.declared.events.Event.{Event}
use Rattle.prl_plan.specs.declared.events.SlotNo.{SlotNo}
use Rattle.prl_plan.specs.declared.events.Action.TheVariants as actions
use Rattle.prl_rule.specs.Vocabulary.{run_of, reached}
use Rattle.prl_rule.specs.declared.views.ClockPart.{ClockPart}
use Rattle.prl_rule.specs.declared.views.Constants.{Constants}
use Rattle.prl_seats.specs.declared.jobs.Release.TheVariants as releases
use Rattle.prl_seats.specs.JobSeats.{AnswersRelease, Ends, GoesOn, IsStage, JobSeatView}
use Rattle.prl_seats.specs.declared.jobs.Stage.{Stage}
use Rattle.prl_seats.specs.declared.jobs.Stage.TheVariants as stages
use Rattle.prl_board.specs.Vocabulary.{IsPlacedAt, IsReleasedBy, IsTaskCall, IsWhole, LoneView, lent_to, tag_found, AnswersHalf, AnswersRead, AnswersWrite, MayFinish, MayRead, MayWrite, place_of}
use Rattle.prl_board.specs.declared.seats.Got.{Got}
use Rattle.prl_board.specs.declared.seats.Place.{Place}
use Rattle.prl_board.specs.declared.seats.Wrote.{Wrote}
use Rattle.prl_board.specs.declared.seats.Got.TheVariants as gots
use Rattle.prl_board.specs.declared.seats.Place.TheVariants as places
use Rattle.prl_board.specs.Lones as lones
use Rattle.prl_exec.specs.Vocabulary.{RunLaws, StandsIn, act_of, IsIdle, IsPolled}
use Rattle.prl_exec.proofs.Standing.{IsElse, acted, stayed}
use Rattle.prl_board.proofs.Lists.{seat_there}
use Rattle.prl_exec.proofs.Finding.{found_there}

-- whether a read went on
abbrev pub went : Got → Bool
went gots.Half = true
went (gots.Value value) = true
went (gots.NotYet cell wanted found) = false
went (gots.Overrun cell wanted found) = false

-- the seat is there, and stands so
pub placed : (may : Place → Type 0) (place : Place) (l : LoneView) (i : ℕ) → i < length l.seats → may place →
    ((s : JobSeatView) → slice_get l.seats i ≡ Some s → place ≡ place_of s.stage) → IsPlacedAt may l i
placed may place l i inside is at =
    let there = seat_there l.seats i inside in (there.0, there.1, subst may (at there.0 there.1) is)

module _ (k : Constants) (laws : RunLaws (run_of k)) where
  abbrev c : RunConstants
  c = run_of k

  module _ (i : ℕ) (l m : LoneView) (s t : JobSeatView) (other : IsElse i l m s t) (r : ClockPart) (list : List Event) (stands : StandsIn c l r list) (is_open : Bool) where
    -- a job that goes on
    went_on : (action : Action) → (action ≡ actions.End → ⊥) → s.stage ≡ stages.At action → IsStage c i s.job s.place is_open (stages.At action) → FindsTag (reached c list) action →
        GoesOn k (lent_to l s) (lent_to m t) → StandsIn c m r (list ++ act_of i ∷ [])
    went_on action none stage shown finds goes =
        acted c laws l m r list i s t stands other action stage shown.2 shown.1 finds
        (record { goes = λ _. (goes.job, goes.place); ends = λ is. absurd (none is) }) (λ next at. goes.job)

    -- the next action is the one at which the job stands
    next_is : (action : Action) → action_at c i s.job s.place ≡ action → next_action c (reached c list) i ≡ action
    next_is action at =
        let e = stands.each i s other.was in
        sym (ap (λ (n : ℕ). action_at c i n s.place) e.job ∙ ap (action_at c i (slice_index (reached c list).ended i)) e.place) ∙ at

    -- a read that found another tag
    missed : (port : ℕ) (e : EdgeNo) (n : ℕ) (slot : SlotNo) (found : ℕ) → s.stage ≡ stages.At (actions.Read port e n slot) →
        action_at c i s.job s.place ≡ actions.Read port e n slot → slice_index (reached c list).tags slot.0 ≡ found → (found ≡ n + 1 → ⊥) →
        t.job ≡ s.job → t.place ≡ s.place → StandsIn c m r list × (KeepsGated c (reached c list) (act_of i) → ⊥)
    missed port e n slot found stage at tag ne job place = (
      stayed c laws l m r list i s t stands other job place
          (λ next is. let rel = (stands.each i s other.was).released (actions.Read port e n slot) stage in let now = stands.now in omega (arith, rel, now)),
      (λ keeps. ne (sym tag ∙ subst (FindsTag (reached c list)) (next_is (actions.Read port e n slot) at) keeps.2)),
    )

    read_half : (port : ℕ) (e : EdgeNo) (n : ℕ) (slot : SlotNo) (word : ℕ) (got : Got) → s.stage ≡ stages.At (actions.Read port e n slot) →
        IsStage c i s.job s.place is_open (stages.At (actions.Read port e n slot)) → AnswersHalf k n slot (lent_to l s) (lent_to m t) word got →
        slice_index (reached c list).tags slot.0 ≡ tag_found n got → IsPolled c i m r list (went got)
    read_half port e n slot word gots.Half stage shown answer tag =
        went_on (actions.Read port e n slot) (λ f. cc) stage shown tag answer.2
    read_half port e n slot word (gots.Value value) stage shown answer tag =
        went_on (actions.Read port e n slot) (λ f. cc) stage shown tag answer.3
    read_half port e n slot word (gots.NotYet cell wanted found) stage shown answer tag =
        missed port e n slot found stage shown.2 tag (λ f. let w = answer.0.wants in let b = answer.1 in omega (arith, f, w, b)) answer.0.stays.job answer.0.stays.place
    read_half port e n slot word (gots.Overrun cell wanted found) stage shown answer tag =
        missed port e n slot found stage shown.2 tag (λ f. let w = answer.0.wants in let b = answer.1 in omega (arith, f, w, b)) answer.0.stays.job answer.0.stays.place

    reads : (stage : Stage) (got : Got) → s.stage ≡ stage → MayRead (place_of stage) → IsStage c i s.job s.place is_open stage → i < c.tasks →
        AnswersRead k (lent_to l s) (lent_to m t) got stage → lones.FindsTag c l.seats s.stage got → IsPolled c i m r list (went got)
    reads stages.Over got is may shown inside answer finds = absurd may
    reads stages.Idle got is may shown inside answer finds = absurd may
    reads (stages.At (actions.ReadConst port value)) got is may shown inside answer finds =
        subst (λ (g : Got). IsPolled c i m r list (went g)) (sym answer.0) (went_on (actions.ReadConst port value) (λ f. cc) is shown tt answer.2)
    reads (stages.At (actions.Read port e n slot)) got is may shown inside answer finds =
        read_half port e n slot answer.word got is shown answer.answer (found_there c laws l r list i s port e n slot got stands inside shown.1 is shown.2 finds)
    reads (stages.At (actions.Write e n slot)) got is may shown inside answer finds = absurd may
    reads (stages.At actions.End) got is may shown inside answer finds = absurd may

    writes : (stage : Stage) (wrote : Wrote) → s.stage ≡ stage → MayWrite (place_of stage) → IsStage c i s.job s.place is_open stage →
        AnswersWrite k (lent_to l s) (lent_to m t) wrote stage → StandsIn c m r (list ++ act_of i ∷ [])
    writes stages.Over wrote is may shown answer = absurd may
    writes stages.Idle wrote is may shown answer = absurd may
    writes (stages.At (actions.ReadConst port value)) wrote is may shown answer = absurd may
    writes (stages.At (actions.Read port e n slot)) wrote is may shown answer = absurd may
    writes (stages.At (actions.Write e n slot)) wrote is may shown answer = went_on (actions.Write e n slot) (λ f. cc) is shown tt answer.2
    writes (stages.At actions.End) wrote is may shown answer = absurd may

    -- a task of which no job is open has no next action
    no_action : (j : ℕ) (stage : Stage) (next : Action) → IsStage c i j 0 false stage → stage ≡ stages.At next → {A : Type 0} → A
    no_action j stages.Over next closed is = absurd (cc is)
    no_action j stages.Idle next closed is = absurd (cc is)
    no_action j (stages.At action) next closed is = absurd (let e : false ≡ true = closed.0 in cc e)

    finishes : (stage : Stage) → s.stage ≡ stage → MayFinish (place_of stage) → IsStage c i s.job s.place is_open stage →
        t.job ≡ s.job + 1 → t.place ≡ 0 → IsStage c i (s.job + 1) 0 false t.stage → StandsIn c m r (list ++ act_of i ∷ [])
    finishes stages.Over is may shown job place after = absurd may
    finishes stages.Idle is may shown job place after = absurd may
    finishes (stages.At (actions.ReadConst port value)) is may shown job place after = absurd may
    finishes (stages.At (actions.Read port e n slot)) is may shown job place after = absurd may
    finishes (stages.At (actions.Write e n slot)) is may shown job place after = absurd may
    finishes (stages.At actions.End) is may shown job place after =
        acted c laws l m r list i s t stands other actions.End is shown.2 shown.1 tt
        (record { goes = λ none. absurd (none refl); ends = λ _. (job, place) }) (λ next at. no_action (s.job + 1) t.stage next after at)

  -- task i's seat, by a call of the task
  elsewhere : (i : ℕ) (l m : LoneView) (answers : JobSeatView → JobSeatView → Type 0) (call : IsTaskCall i l m answers) (s : JobSeatView) (has : slice_get l.seats i ≡ Some s) →
      IsElse i l m s (call.answer s has).0
  elsewhere i l m answers call s has = record {
    was = has;
    is = (call.answer s has).1;
    tasks = call.tasks;
    others = call.others;
    clock = call.clock;
  }

  within : (l : LoneView) (r : ClockPart) (list : List Event) (i : ℕ) (s : JobSeatView) → StandsIn c l r list → slice_get l.seats i ≡ Some s → i < c.tasks
  within l r list i s stands has = (let w = slice_get_within l.seats i s has in let n = stands.tasks in omega (arith, w, n))

  pub read_polled : (i : ℕ) (l m : LoneView) (got : Got) → IsWhole k l → IsPlacedAt MayRead l i → IsTaskCall i l m (λ s t. AnswersRead k s t got s.stage) →
      ((s : JobSeatView) → slice_get l.seats i ≡ Some s → lones.FindsTag c l.seats s.stage got) → (r : ClockPart) (list : List Event) → StandsIn c l r list →
      IsPolled c i m r list (went got)
  read_polled i l m got whole at call exact r list stands =
      let s = at.0 in let has = at.1 in let answer = call.answer s has in
      let follows = (whole.each i s has).1 in
      reads i l m s answer.0 (elsewhere i l m (λ s t. AnswersRead k s t got s.stage) call s has) r list stands _ s.stage got refl at.2 follows.shown (within l r list i s stands has)
      answer.3 (exact s has)

  pub write_polled : (i : ℕ) (l m : LoneView) (wrote : Wrote) → IsWhole k l → IsPlacedAt MayWrite l i → IsTaskCall i l m (λ s t. AnswersWrite k s t wrote s.stage) →
      (r : ClockPart) (list : List Event) → StandsIn c l r list → StandsIn c m r (list ++ act_of i ∷ [])
  write_polled i l m wrote whole at call r list stands =
      let s = at.0 in let has = at.1 in let answer = call.answer s has in
      let follows = (whole.each i s has).1 in
      writes i l m s answer.0 (elsewhere i l m (λ s t. AnswersWrite k s t wrote s.stage) call s has) r list stands _ s.stage wrote refl at.2 follows.shown answer.3

  pub finish_polled : (i : ℕ) (l m : LoneView) → IsWhole k l → IsPlacedAt MayFinish l i → IsTaskCall i l m (λ s t. Ends k s t) →
      (r : ClockPart) (list : List Event) → StandsIn c l r list → StandsIn c m r (list ++ act_of i ∷ [])
  finish_polled i l m whole at call r list stands =
      let s = at.0 in let has = at.1 in let answer = call.answer s has in
      let follows = (whole.each i s has).1 in
      let task = (whole.each i s has).0 in
      let ends = answer.3 in
      finishes i l m s answer.0 (elsewhere i l m (λ s t. Ends k s t) call s has) r list stands _ s.stage refl at.2 follows.shown ends.job ends.place
      (subst (λ (n : ℕ). IsStage c n (s.job + 1) 0 false answer.0.stage) (ap (λ x. x.0) task) ends.stage)

  -- after a release that opened the job
  pub open_stands : (i : ℕ) (l m : LoneView) (job : ℕ) → IsWhole k l → IsPlacedAt IsIdle l i →
      IsTaskCall i l m (λ s t. AnswersRelease k s t (releases.Open job) × (t.place ≡ s.place)) →
      ((s : JobSeatView) (r : ClockPart) → slice_get l.seats i ≡ Some s → l.view.clock ≡ Some r → IsReleasedBy k s r.now (releases.Open job)) →
      (r : ClockPart) (list : List Event) → StandsIn c l r list → StandsIn c m r list
  open_stands i l m job whole at call exact r list stands =
      let s = at.0 in let has = at.1 in let answer = call.answer s has in
      let task = (whole.each i s has).0 in
      let rel = exact s r has stands.clock in
      stayed c laws l m r list i s answer.0 stands (elsewhere i l m (λ s t. AnswersRelease k s t (releases.Open job) × (t.place ≡ s.place)) call s has)
      answer.3.0.3 answer.3.1
      (λ next is. let a = rel.2 in let e : c.release s.task.0 job ≡ c.release i s.job = ap (λ x. c.release x.0 job) task ∙ ap (c.release i) rel.1 in omega (arith, a, e))

  -- after one that did not
  pub early_polled : (i : ℕ) (l m : LoneView) (now later : ℕ) → IsWhole k l → IsPlacedAt IsIdle l i →
      IsTaskCall i l m (λ s t. AnswersRelease k s t (releases.Early now later) × (t.place ≡ s.place)) →
      ((s : JobSeatView) (r : ClockPart) → slice_get l.seats i ≡ Some s → l.view.clock ≡ Some r → IsReleasedBy k s r.now (releases.Early now later)) →
      (r : ClockPart) (list : List Event) → StandsIn c l r list → IsPolled c i m r list false
  early_polled i l m now later whole at call exact r list stands =
      let s = at.0 in let has = at.1 in let answer = call.answer s has in
      let task = (whole.each i s has).0 in
      let rel = exact s r has stands.clock in (
        stayed c laws l m r list i s answer.0 stands (elsewhere i l m (λ s t. AnswersRelease k s t (releases.Early now later) × (t.place ≡ s.place)) call s has)
            answer.3.0.4 answer.3.1
            (λ next is. absurd (let e : stages.Idle ≡ stages.At next = sym answer.3.0.5 ∙ is in cc e)),
        (λ keeps.
            let e = (stands.each i s has).job in let n = stands.now in
            let a : c.release i (slice_index (reached c list).ended i) ≤ (reached c list).now = keeps.1 in
            let f : c.release s.task.0 s.job ≡ c.release i (slice_index (reached c list).ended i) = ap (λ x. c.release x.0 s.job) task ∙ ap (c.release i) e in
            let told = rel.1 in let at_is = rel.2 in let below = rel.3 in
            omega (arith, a, f, told, at_is, below, n)),
      )

  idle_left : (i n place : ℕ) (is_open : Bool) (stage : Stage) → IsIdle (place_of stage) → IsStage c i n place is_open stage → n < c.jobs i
  idle_left i n place is_open stages.Over idle shown = absurd idle
  idle_left i n place is_open stages.Idle idle shown = shown.1
  idle_left i n place is_open (stages.At (actions.ReadConst port value)) idle shown = absurd idle
  idle_left i n place is_open (stages.At (actions.Read port e m slot)) idle shown = absurd idle
  idle_left i n place is_open (stages.At (actions.Write e m slot)) idle shown = absurd idle
  idle_left i n place is_open (stages.At actions.End) idle shown = absurd idle

  -- where the next job has not begun, a release finds one
  pub one_is_left : (i : ℕ) (l : LoneView) → IsWhole k l → IsPlacedAt IsIdle l i →
      ((s : JobSeatView) (r : ClockPart) → slice_get l.seats i ≡ Some s → l.view.clock ≡ Some r → IsReleasedBy k s r.now releases.Over) →
      (r : ClockPart) → l.view.clock ≡ Some r → {A : Type 0} → A
  one_is_left i l whole at exact r clock =
      let s = at.0 in let has = at.1 in
      let task = (whole.each i s has).0 in
      let follows = (whole.each i s has).1 in
      let left = idle_left i s.job s.place _ s.stage at.2 follows.shown in
      let none = exact s r has clock in
      let e : c.jobs s.task.0 ≡ c.jobs i = ap (λ x. c.jobs x.0) task in
      absurd (omega (arith, left, none, e))

module _ (k : Constants) where
  abbrev d : RunConstants
  d = run_of k

  -- a task of which no horizon job is left
  pub none_polled : (i : ℕ) (l : LoneView) → IsWhole k l → i < length l.seats → ((s : JobSeatView) → slice_get l.seats i ≡ Some s → d.jobs i ≤ s.job) →
      (r : ClockPart) (list : List Event) → StandsIn d l r list → IsPolled d i l r list false
  none_polled i l whole inside past r list stands = (
    stands,
    (λ keeps.
        let there = seat_there l.seats i inside in
        let e = (stands.each i there.0 there.1).job in
        let p = past there.0 there.1 in
        let a = keeps.0.job in
        omega (arith, e, p, a)),
  )

  past_jobs : (i n place : ℕ) (is_open : Bool) (stage : Stage) → places.Over ≡ place_of stage → IsStage d i n place is_open stage → d.jobs i ≤ n
  past_jobs i n place is_open stages.Over is shown = shown.1
  past_jobs i n place is_open stages.Idle is shown = absurd (cc is)
  past_jobs i n place is_open (stages.At (actions.ReadConst port value)) is shown = absurd (cc is)
  past_jobs i n place is_open (stages.At (actions.Read port e m slot)) is shown = absurd (cc is)
  past_jobs i n place is_open (stages.At (actions.Write e m slot)) is shown = absurd (cc is)
  past_jobs i n place is_open (stages.At actions.End) is shown = absurd (cc is)

  pub over_polled : (i : ℕ) (l : LoneView) → IsWhole k l → i < length l.seats → ((s : JobSeatView) → slice_get l.seats i ≡ Some s → places.Over ≡ place_of s.stage) →
      (r : ClockPart) (list : List Event) → StandsIn d l r list → IsPolled d i l r list false
  over_polled i l whole inside over =
      none_polled i l whole inside (λ s has. let follows = (whole.each i s has).1 in past_jobs i s.job s.place _ s.stage (over s has) follows.shown)

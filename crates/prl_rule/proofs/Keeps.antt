-- What each kind of step has to show: a step that is no event, and one that is an act.
use Rattle.std.proofs.Common.{◌≡◌, ℕ, ◌+◌, ◌<◌, ◌≤◌, ◌≢◌, List, [], ◌∷◌, ◌++◌, length, get_or, set, refl, sym, ap, ◌∙◌, subst, ⊎_elim, arith, get_or-set_other, get_or-set_same, Bool, true, false, Some}
use mathlib.Core.Option.{some}
use lib.ListN.{get_elem?}
use Rattle.atomic_table.proofs.Lists.{at_set}
use Rattle.prl_plan.specs.Vocabulary.{RunConstants, ExecState, opening, action_at, next_action, after_action, after_event, HasJob, ActsReleased, FindsTag, KeepsGated, KeepsFree, IsTagged}
use Rattle.prl_plan.specs.declared.events.Action.{Action}
use Rattle.prl_plan.specs.declared.events.Event.{Event}
use Rattle.prl_plan.specs.declared.events.Event.TheVariants as events
use Rattle.prl_rule.specs.Vocabulary.{Constants, Standing, KeptHalf, HeldValues, TaskPart, ClockPart, View, RunValues, Witness, Shows, AgreesStanding, AgreesHalf, AgreesValues, AgreesTask}
use Rattle.prl_rule.specs.Vocabulary.{AgreesClock, AgreesView, AgreesWith, reached, with_part, stand_moved, PlanLaws}
use Rattle.prl_rule.specs.declared.views.Gate.TheVariants as gates

-- a state is s or later, and no task but i stands elsewhere in it
pub record IsLater (i : ℕ) (s later : ExecState) : Type 0 where
  pub now : s.now ≤ later.now
  pub ended : (j : ℕ) → j ≢ i → get_or s.ended j 0 ≡ get_or later.ended j 0
  pub places : (j : ℕ) → j ≢ i → get_or s.places j 0 ≡ get_or later.places j 0
  pub counted : (j : ℕ) → get_or s.ended j 0 ≤ get_or later.ended j 0
  pub tags : (h : ℕ) → get_or s.tags h 0 ≤ get_or later.tags h 0

module _ (k : Constants) (c : RunConstants) (v : RunValues) where
  -- a step that is no event: a view changes, and with it words and what is known of the stop word
  pub keeps_state : (w w' : Witness) (es : List Event) (words words' : List ℕ) (views : List View) (id : ℕ) (u : View) → AgreesWith k c v w es words views →
      (k.gate ≡ gates.Gated → (j : ℕ) → w'.raised j ≡ false) → Shows c v w'.raised (reached c es) words' → AgreesView k c v w' (reached c es) id u →
      ((j : ℕ) (x : View) → j ≢ id → AgreesView k c v w (reached c es) j x → AgreesView k c v w' (reached c es) j x) →
      AgreesWith k c v w' es words' (set views id u)
  keeps_state w w' es words words' views id u a calm shows mine others = record {
    facts = a.facts;
    values = a.values;
    free = a.free;
    gated = a.gated;
    calm = calm;
    shows = shows;
    each_view = λ j x at. ⊎_elim
        (λ t. let P : ℕ × View → Type 0 = λ z. AgreesView k c v w' (reached c es) z.0 z.1 in subst P (λ i. (sym t.0 i, t.1 i)) mine)
        (λ t. others j x t.0 (a.each_view j x t.1))
        (at_set views id j u x at);
  }

  -- an event happens, at which a view changes
  pub keeps_event : PlanLaws → (w : Witness) (es : List Event) (e : Event) (s' : ExecState) (words words' : List ℕ) (views : List View) (id : ℕ) (u : View) → AgreesWith k c v w es words views →
      KeepsFree c (reached c es) e → (k.gate ≡ gates.Gated → KeepsGated c (reached c es) e) →
      after_event c (reached c es) e ≡ s' → Shows c v w.raised s' words' → AgreesView k c v w s' id u →
      ((j : ℕ) (x : View) → j ≢ id → AgreesView k c v w (reached c es) j x → AgreesView k c v w s' j x) →
      AgreesWith k c v w (es ++ e ∷ []) words' (set views id u)
  keeps_event laws w es e s' words words' views id u a free gated is shows mine others =
      let back : s' ≡ reached c (es ++ e ∷ []) = sym (laws.state c (opening c) es (e ∷ []) ∙ is) in
      record {
        facts = a.facts;
        values = a.values;
        free = (laws.free c (opening c) es (e ∷ [])).1 (a.free, (free, tt));
        calm = a.calm;
        gated = λ gate. (laws.gated c (opening c) es (e ∷ [])).1 (a.gated gate, (gated gate, tt));
        shows = subst (λ (s : ExecState). Shows c v w.raised s words') back shows;
        each_view = λ j x at. ⊎_elim
            (λ t. let Q : ExecState × (ℕ × View) → Type 0 = λ z. AgreesView k c v w z.0 z.1.0 z.1.1 in subst Q (λ i. (back i, (sym t.0 i, t.1 i))) mine)
            (λ t. subst (λ (s : ExecState). AgreesView k c v w s j x) back (others j x t.0 (a.each_view j x t.1)))
            (at_set views id j u x at);
      }

  -- the view with another part of a task that it has
  pub view_with : (w w' : Witness) (s s' : ExecState) (id i : ℕ) (u : View) (p q : TaskPart) → AgreesView k c v w s id u → get_elem? u.tasks i ≡ some (Some p) →
      ((j : ℕ) → w'.owner j ≡ w.owner j) → w'.clock_owner ≡ w.clock_owner →
      ((j : ℕ) (r : TaskPart) → j ≢ i → AgreesTask c v w.raised s j r → AgreesTask c v w'.raised s' j r) →
      ((r : ClockPart) → AgreesClock c w.raised s r → AgreesClock c w'.raised s' r) →
      AgreesTask c v w'.raised s' i q → AgreesView k c v w' s' id (with_part i q u)
  view_with w w' s s' id i u p q a at owners clock_owner same same_clock good = record {
    known = a.known;
    task = λ j r there. ⊎_elim
        (λ t. let mine = a.task i p at in let same_part : q ≡ r = cc (t.1) in
        let P : ℕ × TaskPart → Type 0 = λ z. (w'.owner z.0 ≡ id) × (u.constants ≡ Some k) × AgreesTask c v w'.raised s' z.0 z.1 in
        subst P (λ h. (sym t.0 h, same_part h)) (owners i ∙ mine.0, mine.1, good))
        (λ t. let mine = a.task j r t.1 in (owners j ∙ mine.0, mine.1, same j r t.0 mine.2))
        (at_set u.tasks i j (Some q) (Some r) there);
    clock = λ r there. let mine = a.clock r there in (clock_owner ∙ mine.0, mine.1, same_clock r mine.2);
  }

  -- what an event of one task leaves of another task's part
  pub task_later : (raised : ℕ → Bool) (s later : ExecState) (i j : ℕ) (p : TaskPart) → IsLater i s later → j ≢ i → AgreesTask c v raised s j p → AgreesTask c v raised later j p
  task_later raised s later i j p l ne a = record {
    stand = record {
      task = a.stand.task;
      ended = a.stand.ended ∙ l.ended j ne;
      place = a.stand.place ∙ l.places j ne;
      shut = a.stand.shut;
      job = a.stand.job;
      released = a.stand.released;
      opened = a.stand.opened;
      seen = (let h = a.stand.seen in let g = l.now in omega (arith, h, g));
    };
    kept = record { tag = (let h = a.kept.tag in let g = l.tags p.kept.slot in omega (arith, h, g)); half_read = a.kept.half_read };
    values = a.values;
    stop = a.stop;
  }

  pub clock_later : (raised : ℕ → Bool) (s later : ExecState) (i : ℕ) (r : ClockPart) → IsLater i s later → s.now ≡ later.now → AgreesClock c raised s r → AgreesClock c raised later r
  clock_later raised s later i r l same a = record {
    now = a.now ∙ same;
    wide = a.wide;
    looks = λ j t. (let h = a.looks j t in let g = l.counted j in omega (arith, h, g));
    told = a.told;
  }

  -- what it leaves of another view, which has no part of task i, and no part of the clock where `now` changes
  pub other_view : (w : Witness) (s later : ExecState) (i j : ℕ) (x : View) → IsLater i s later → ((n : ℕ) → n < c.tasks → w.owner n ≡ j → n ≢ i) →
      (w.clock_owner ≡ j → s.now ≡ later.now) → AgreesView k c v w s j x → AgreesView k c v w later j x
  other_view w s later i j x l others same a = record {
    known = a.known;
    task = λ n r there. let mine = a.task n r there in (mine.0, mine.1, task_later w.raised s later i n r l (others n mine.2.stand.task mine.0) mine.2);
    clock = λ r there. let mine = a.clock r there in (mine.0, mine.1, clock_later w.raised s later i r l (same mine.0) mine.2);
  }

  -- an open part's next action, which the state has too
  pub record Next (s : ExecState) (i : ℕ) (x : Action) : Type 0 where
    pub has : HasJob c s i
    pub released : ActsReleased c s i
    pub is : next_action c s i ≡ x

  pub next_of : (s : ExecState) (i : ℕ) (at : Standing) (x : Action) → AgreesStanding c s i at → at.is_open ≡ true → action_at c i at.ended at.place ≡ x → Next s i x
  next_of s i at x a opened e =
      let h = a.released opened in let g = a.seen in
      let r : c.release i at.ended ≤ s.now = omega (arith, h, g) in
      record {
        has = record { task = a.task; job = subst (λ (m : ℕ). m < c.jobs i) a.ended (a.job opened); unfinished = (let z : get_or s.ended i 0 ≤ get_or s.ended i 0 = omega arith in z) };
        released = subst (λ (m : ℕ). c.release i m ≤ s.now) a.ended r;
        is = sym (λ h. action_at c i (a.ended h) (a.place h)) ∙ e;
      }

  -- the state after a move of task i, with these tags
  abbrev pub after_move : ExecState → ℕ → List ℕ → ExecState
  after_move s i tags = record { now = s.now; ended = s.ended; places = set s.places i (get_or s.places i 0 + 1); tags = tags }

  pub move_is_later : (s : ExecState) (i : ℕ) (tags : List ℕ) → ((h : ℕ) → get_or s.tags h 0 ≤ get_or tags h 0) → IsLater i s (after_move s i tags)
  move_is_later s i tags grows = record {
    now = omega arith;
    ended = λ j ne. refl;
    places = λ j ne. sym (get_or-set_other s.places i j (get_or s.places i 0 + 1) 0 ne);
    counted = λ j. omega arith;
    tags = grows;
  }

  -- An act that moves a task's place to the next action.
  pub moves_keep : PlanLaws → (w : Witness) (es : List Event) (words words' : List ℕ) (views : List View) (id i : ℕ) (u : View) (p : TaskPart) (kept : KeptHalf) (held : HeldValues) (loads : ℕ) (x : Action) (tags : List ℕ) →
      AgreesWith k c v w es words views → get_elem? views id ≡ some u → get_elem? u.tasks i ≡ some (Some p) → p.stand.is_open ≡ true → action_at c i p.stand.ended p.stand.place ≡ x →
      after_action (reached c es) i x ≡ after_move (reached c es) i tags → FindsTag (reached c es) x → ((h : ℕ) → get_or (reached c es).tags h 0 ≤ get_or tags h 0) →
      Shows c v w.raised (after_move (reached c es) i tags) words' → p.stop.raised ≡ false →
      AgreesHalf c v (after_move (reached c es) i tags) i (stand_moved p.stand) kept → AgreesValues c v i (stand_moved p.stand) held →
      AgreesWith k c v w (es ++ events.Act (record { 0 = i }) ∷ []) words'
      (set views id (with_part i (record { stand = stand_moved p.stand; kept = kept; values = held; stop = p.stop; loads = loads }) u))
  moves_keep laws w es words words' views id i u p kept held loads x tags a at has opened is acts finds grows shows calm half held_agree =
      let mine = a.each_view id u at in
      let there = mine.task i p has in
      let part : AgreesTask c v w.raised (reached c es) i p = there.2 in
      let next : Next (reached c es) i x = next_of (reached c es) i p.stand x part.stand opened is in
      let tagged : IsTagged c (reached c es) = laws.tagged c a.facts es a.free in
      let long : i < length (reached c es).places = (let t : i < c.tasks = part.stand.task in let l : length (reached c es).places ≡ c.tasks = tagged.places in omega (arith, t, l)) in
      let may : KeepsFree c (reached c es) (events.Act (record { 0 = i })) = (next.has, next.released, subst (λ (y : Action). FindsTag (reached c es) y) (sym next.is) finds) in
      let later : IsLater i (reached c es) (after_move (reached c es) i tags) = move_is_later (reached c es) i tags grows in
      keeps_event laws w es (events.Act (record { 0 = i })) (after_move (reached c es) i tags) words words' views id
      (with_part i (record { stand = stand_moved p.stand; kept = kept; values = held; stop = p.stop; loads = loads }) u) a
      may (λ gate. may)
      (ap (λ (y : Action). after_action (reached c es) i y) next.is ∙ acts)
      shows
      (view_with w w (reached c es) (after_move (reached c es) i tags) id i u p (record { stand = stand_moved p.stand; kept = kept; values = held; stop = p.stop; loads = loads }) mine has (λ j. refl) refl
      (λ j r ne y. task_later w.raised (reached c es) (after_move (reached c es) i tags) i j r later ne y)
      (λ r y. clock_later w.raised (reached c es) (after_move (reached c es) i tags) i r later refl y)
      (record {
        stand = record {
          task = part.stand.task;
          ended = part.stand.ended;
          place = ap (λ (z : ℕ). z + 1) part.stand.place ∙ sym (get_or-set_same (reached c es).places i (get_or (reached c es).places i 0 + 1) 0 long);
          shut = λ e. let z : true ≡ false = sym opened ∙ e in absurd (cc z);
          job = part.stand.job;
          released = part.stand.released;
          opened = part.stand.opened;
          seen = part.stand.seen;
        };
        kept = half;
        values = held_agree;
        stop = record { same = part.stop.same; overrun = λ e. let z : false ≡ true = sym calm ∙ e in absurd (cc z); told = part.stop.told };
      }))
      (λ j x ne y. other_view w (reached c es) (after_move (reached c es) i tags) i j x later (λ n t own e. ne (sym own ∙ (ap w.owner e ∙ there.0))) (λ e. refl) y)

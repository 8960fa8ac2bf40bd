-- The clock's steps: a tick under either gate, and a look at a done word.
use Rattle.std.proofs.Common.{◌≡◌, ℕ, ◌+◌, ◌<◌, ◌≤◌, List, [], ◌∷◌, ◌++◌, length, get_or, set, refl, sym, ap, ◌∙◌, subst, inl, inr, arith, length-set, get_or-set_other, get_or-set_same, Bool, Some}
use Rattle.std.proofs.lemmas.Bool.{cases_lt}
use mathlib.Core.Option.{some}
use mathlib.Core.Logic.{dite}
use native.Mathlib.Decide.{ℕ_discrete}
use lib.ListN.{get_elem?}
use Rattle.prl_plan.specs.Vocabulary.{RunConstants, ExecState, IsJob}
use Rattle.prl_plan.specs.declared.events.Event.{Event}
use Rattle.prl_plan.specs.declared.events.Event.TheVariants as events
use Rattle.prl_rule.specs.Vocabulary.{Constants, TaskPart, ClockPart, View, RunValues, now_word, done_word, slot_word, stop_word, Witness, Shows, AgreesTask, AgreesClock, AgreesView, IsStop}
use Rattle.prl_rule.specs.Vocabulary.{AgreesWith, reached, with_clock, ticked, looked, PlanLaws}
use Rattle.prl_rule.specs.declared.views.Gate.TheVariants as gates
use Rattle.prl_rule.proofs.Keeps.{IsLater, keeps_state, keeps_event, task_later, other_view}

module _ (k : Constants) (c : RunConstants) (v : RunValues) where
  -- the view with another part of the clock
  pub clock_with : (w w' : Witness) (s s' : ExecState) (id : ℕ) (u : View) (r q : ClockPart) → AgreesView k c v w s id u → u.clock ≡ Some r →
      ((j : ℕ) → w'.owner j ≡ w.owner j) → w'.clock_owner ≡ w.clock_owner →
      ((j : ℕ) (p : TaskPart) → AgreesTask c v w.raised s j p → AgreesTask c v w'.raised s' j p) →
      AgreesClock c w'.raised s' q → AgreesView k c v w' s' id (with_clock q u)
  clock_with w w' s s' id u r q a has owners clock_owner same good = record {
    known = a.known;
    task = λ j p there. let mine = a.task j p there in (owners j ∙ mine.0, mine.1, same j p mine.2);
    clock = λ z there. let mine = a.clock r has in let one : q ≡ z = cc there in
        let P : ClockPart → Type 0 = λ y. (w'.clock_owner ≡ id) × (u.constants ≡ Some k) × AgreesClock c w'.raised s' y in
        subst P one (clock_owner ∙ mine.0, mine.1, good);
  }

  abbrev next_now : ExecState → ExecState
  next_now s = record { now = s.now + 1; ended = s.ended; places = s.places; tags = s.tags }

  tick_is_later : (s : ExecState) (i : ℕ) → IsLater i s (next_now s)
  tick_is_later s i = record { now = omega arith; ended = λ j ne. refl; places = λ j ne. refl; counted = λ j. omega arith; tags = λ h. omega arith }

  tick_shows : (raised : ℕ → Bool) (s : ExecState) (words : List ℕ) (n : ℕ) → n ≡ s.now → Shows c v raised s words → Shows c v raised (next_now s) (set words now_word (n + 1))
  tick_shows raised s words n same a = record {
    wide = length-set words now_word (n + 1) ∙ a.wide;
    now = get_or-set_same words now_word (n + 1) 0 (let wide = a.wide in omega (arith, wide)) ∙ ap (λ (z : ℕ). z + 1) same;
    done = λ i h. get_or-set_other words now_word (done_word i) (n + 1) 0 (λ e. absurd (omega (arith, e))) ∙ a.done i h;
    slot = λ i h. get_or-set_other words now_word (slot_word c i) (n + 1) 0 (λ e. absurd (omega (arith, e))) ∙ a.slot i h;
    fits = a.fits;
    stop = subst (λ (z : ℕ). IsStop c.tasks raised z) (sym (get_or-set_other words now_word (stop_word c) (n + 1) 0 (λ e. absurd (omega (arith, e))))) a.stop;
  }

  pub tick_keeps : PlanLaws → (w : Witness) (es : List Event) (words : List ℕ) (views : List View) (id : ℕ) (u : View) (r : ClockPart) → AgreesWith k c v w es words views →
      get_elem? views id ≡ some u → u.clock ≡ Some r → r.now < c.end →
      (k.gate ≡ gates.Gated → (i n : ℕ) → IsJob c i n → c.deadline i n ≤ r.now + 1 → n < get_or r.looks i 0) →
      AgreesWith k c v w (es ++ events.Tick ∷ []) (set words now_word (r.now + 1)) (set views id (with_clock (ticked r) u))
  tick_keeps laws w es words views id u r a at has before ended =
      let mine = a.each_view id u at in
      let there = mine.clock r has in
      let clock : AgreesClock c w.raised (reached c es) r = there.2 in
      let same : r.now ≡ (reached c es).now = clock.now in
      keeps_event k c v laws w es events.Tick (next_now (reached c es)) words (set words now_word (r.now + 1)) views id (with_clock (ticked r) u) a
      (omega (arith, before, same))
      (λ gate. record {
        within = omega (arith, before, same);
        ended = λ i n left.
            elim (cases_lt ((reached c es).now + 1) (c.deadline i n)) [
              | inl early ↦ early
              | inr due ↦ absurd
                  (let seen = ended gate i n (record { task = left.task; job = left.job }) (omega (arith, due, same)) in
                  let look = clock.looks i left.task in let f = left.unfinished in omega (arith, seen, look, f))
            ];
      })
      refl
      (tick_shows w.raised (reached c es) words r.now same a.shows)
      (clock_with w w (reached c es) (next_now (reached c es)) id u r (ticked r) mine has (λ j. refl) refl
      (λ j p x. task_later k c v w.raised (reached c es) (next_now (reached c es)) (j + 1) j p (tick_is_later (reached c es) (j + 1)) (λ e. absurd (omega (arith, e))) x)
      (record { now = ap (λ (z : ℕ). z + 1) same; wide = clock.wide; looks = clock.looks; told = clock.told }))
      (λ j x ne y. other_view k c v w (reached c es) (next_now (reached c es)) c.tasks j x (tick_is_later (reached c es) c.tasks) (λ n t own e. absurd (omega (arith, t, e)))
      (λ own. absurd (ne (sym own ∙ there.0))) y)

  -- a load of a done word is no event; what is kept is no more than what is loaded
  pub look_keeps : (w : Witness) (es : List Event) (words : List ℕ) (views : List View) (id i : ℕ) (u : View) (r : ClockPart) → AgreesWith k c v w es words views →
      get_elem? views id ≡ some u → u.clock ≡ Some r → i < c.tasks →
      AgreesWith k c v w es words (set views id (with_clock (looked i (get_or words (done_word i) 0) r) u))
  look_keeps w es words views id i u r a at has task =
      let mine = a.each_view id u at in
      let clock : AgreesClock c w.raised (reached c es) r = (mine.clock r has).2 in
      let wide : length r.looks ≡ c.tasks = clock.wide in
      keeps_state k c v w w es words words views id (with_clock (looked i (get_or words (done_word i) 0) r) u) a a.calm a.shows
      (clock_with w w (reached c es) (reached c es) id u r (looked i (get_or words (done_word i) 0) r) mine has (λ j. refl) refl (λ j p x. x)
      (record {
        now = clock.now;
        wide = length-set r.looks i (get_or words (done_word i) 0) ∙ wide;
        looks = λ j t. dite (ℕ_discrete j i)
            (λ e. let here : get_or (set r.looks i (get_or words (done_word i) 0)) i 0 ≡ get_or words (done_word i) 0 = get_or-set_same r.looks i (get_or words (done_word i) 0) 0 (omega (arith, wide, task)) in
            subst (λ (z : ℕ). get_or (set r.looks i (get_or words (done_word i) 0)) z 0 ≤ get_or (reached c es).ended z 0) (sym e) (omega (arith, here, a.shows.done i task)))
            (λ ne. let is = get_or-set_other r.looks i j (get_or words (done_word i) 0) 0 ne in let old = clock.looks j t in omega (arith, is, old));
        told = clock.told;
      }))
      (λ j x q y. y)

  -- where the view has the task's part too, the look is the number of its ended jobs
  pub look_finds_own : (w : Witness) (es : List Event) (words : List ℕ) (views : List View) (id i : ℕ) (u : View) (p : TaskPart) → AgreesWith k c v w es words views →
      get_elem? views id ≡ some u → get_elem? u.tasks i ≡ some (Some p) → get_or words (done_word i) 0 ≡ p.stand.ended
  look_finds_own w es words views id i u p a at has =
      let part : AgreesTask c v w.raised (reached c es) i p = ((a.each_view id u at).task i p has).2 in
      a.shows.done i part.stand.task ∙ sym part.stand.ended

  -- where the view has the clock's part, the loaded `now` is that part's
  pub now_is_own : (w : Witness) (es : List Event) (words : List ℕ) (views : List View) (id : ℕ) (u : View) (r : ClockPart) → AgreesWith k c v w es words views →
      get_elem? views id ≡ some u → u.clock ≡ Some r → get_or words now_word 0 ≡ r.now
  now_is_own w es words views id u r a at has =
      let clock : AgreesClock c w.raised (reached c es) r = ((a.each_view id u at).clock r has).2 in
      a.shows.now ∙ sym clock.now

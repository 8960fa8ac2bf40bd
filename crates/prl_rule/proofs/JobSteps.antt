-- A job opens, and a job ends.
use Rattle.std.proofs.Common.{◌≡◌, ℕ, ◌+◌, ◌<◌, ◌≤◌, List, [], ◌∷◌, ◌++◌, length, get_or, set, refl, sym, ap, ◌∙◌, subst, arith, length-set, get_or-set_other, get_or-set_same, Bool, true, false, nat_lt, nat_le, ◌&&◌, inl, inr, Some}
use Rattle.std.proofs.lemmas.Bool.{cases_lt}
use Rattle.std.proofs.lemmas.Bool.Decides.{nat_tests}
use mathlib.Core.Option.{some}
use mathlib.Core.Logic.{dite}
use native.Mathlib.Decide.{ℕ_discrete}
use lib.ListN.{get_elem?}
use Rattle.prl_plan.specs.Vocabulary.{RunConstants, ExecState, action_at, after_action, FindsTag, KeepsFree, IsTagged}
use Rattle.prl_plan.specs.declared.events.Action.{Action}
use Rattle.prl_plan.specs.declared.events.Event.{Event}
use Rattle.prl_plan.specs.declared.events.Action.TheVariants as actions
use Rattle.prl_plan.specs.declared.events.Event.TheVariants as events
use Rattle.prl_rule.specs.Vocabulary.{Constants, TaskPart, View, RunValues, now_word, done_word, slot_word, stop_word, Witness, Shows, AgreesTask, IsStop, AgreesWith, reached, with_part, done_counted}
use Rattle.prl_rule.specs.Vocabulary.{now_loaded, PlanLaws}
use Rattle.prl_rule.proofs.ValueSteps.{values_end}
use Rattle.prl_rule.proofs.Reading.{end_no_read, no_high_first}
use Rattle.prl_rule.proofs.Keeps.{IsLater, keeps_state, keeps_event, view_with, next_of, task_later, clock_later, other_view}

module _ (k : Constants) (c : RunConstants) (v : RunValues) where
  pub opens_only : (i m n : ℕ) → nat_lt m (c.jobs i) && nat_le (c.release i m) n ≡ true → (m < c.jobs i) × (c.release i m ≤ n)
  opens_only i m n e = (grind (arith, nat_tests), grind (arith, nat_tests))

  pub load_now_keeps : (w : Witness) (es : List Event) (words : List ℕ) (views : List View) (id i : ℕ) (u : View) (p : TaskPart) → AgreesWith k c v w es words views →
      get_elem? views id ≡ some u → get_elem? u.tasks i ≡ some (Some p) → p.stand.is_open ≡ false →
      AgreesWith k c v w es words (set views id (with_part i (now_loaded c i (get_or words now_word 0) p) u))
  load_now_keeps w es words views id i u p a at has shut =
      let mine = a.each_view id u at in
      let part : AgreesTask c v w.raised (reached c es) i p = (mine.task i p has).2 in
      let place : p.stand.place ≡ 0 = part.stand.shut shut in
      keeps_state k c v w w es words words views id (with_part i (now_loaded c i (get_or words now_word 0) p) u) a a.calm a.shows
      (view_with k c v w w (reached c es) (reached c es) id i u p (now_loaded c i (get_or words now_word 0) p) mine has (λ j. refl) refl (λ j r q x. x) (λ r x. x)
      (record {
        stand = record {
          task = part.stand.task;
          ended = part.stand.ended;
          place = part.stand.place;
          shut = λ e. place;
          job = λ e. (opens_only i p.stand.ended (get_or words now_word 0) e).0;
          released = λ e. (let h = (opens_only i p.stand.ended (get_or words now_word 0) e).1 in omega (arith, h));
          opened = λ n before. (let h = part.stand.opened n before in omega (arith, h));
          seen = (let h = part.stand.seen in omega (arith, h, a.shows.now));
        };
        kept = record {
          tag = part.kept.tag;
          half_read = λ port e m cell o reads. absurd (no_high_first c a.facts i p.stand.ended
              (record { task = part.stand.task; job = (opens_only i p.stand.ended (get_or words now_word 0) o).0 }) port e m cell (ap (λ (x : ℕ). action_at c i p.stand.ended x) (sym place) ∙ reads));
        };
        values = record { operands = part.values.operands; registers = part.values.registers; outputs = part.values.outputs };
        stop = record {
          same = part.stop.same;
          overrun = λ r. let o = part.stop.overrun r in let z : false ≡ true = sym shut ∙ o.opened in absurd (cc z);
          told = part.stop.told;
        };
      }))
      (λ j x q y. y)

  -- whether a job opens, and what the seat is told where it does not
  pub load_now_tells : (w : Witness) (es : List Event) (words : List ℕ) (views : List View) (id i : ℕ) (u : View) (p : TaskPart) → AgreesWith k c v w es words views →
      get_elem? views id ≡ some u → get_elem? u.tasks i ≡ some (Some p) → p.stand.now ≤ get_or words now_word 0
  load_now_tells w es words views id i u p a at has =
      let part : AgreesTask c v w.raised (reached c es) i p = ((a.each_view id u at).task i p has).2 in
      let h = part.stand.seen in let same : get_or words now_word 0 ≡ (reached c es).now = a.shows.now in omega (arith, h, same)

  -- the state after the end of a job of task i
  abbrev after_end : ExecState → ℕ → ExecState
  after_end s i = record { now = s.now; ended = set s.ended i (get_or s.ended i 0 + 1); places = set s.places i 0; tags = s.tags }

  end_is_later : (s : ExecState) (i : ℕ) → i < length s.ended → IsLater i s (after_end s i)
  end_is_later s i long = record {
    now = omega arith;
    ended = λ j ne. sym (get_or-set_other s.ended i j (get_or s.ended i 0 + 1) 0 ne);
    places = λ j ne. sym (get_or-set_other s.places i j 0 0 ne);
    counted = λ j. dite (ℕ_discrete j i)
        (λ e. let is : get_or (set s.ended i (get_or s.ended i 0 + 1)) i 0 ≡ get_or s.ended i 0 + 1 = get_or-set_same s.ended i (get_or s.ended i 0 + 1) 0 long in
        subst (λ (z : ℕ). get_or s.ended z 0 ≤ get_or (set s.ended i (get_or s.ended i 0 + 1)) z 0) (sym e) (omega (arith, is)))
        (λ ne. let is = get_or-set_other s.ended i j (get_or s.ended i 0 + 1) 0 ne in omega (arith, is));
    tags = λ h. omega arith;
  }

  end_shows : (raised : ℕ → Bool) (s : ExecState) (words : List ℕ) (i n : ℕ) → i < c.tasks → i < length s.ended → n ≡ get_or s.ended i 0 + 1 → Shows c v raised s words →
      Shows c v raised (after_end s i) (set words (done_word i) n)
  end_shows raised s words i n task long one a = record {
    wide = length-set words (done_word i) n ∙ a.wide;
    now = get_or-set_other words (done_word i) 0 n 0 (λ e. absurd (omega (arith, e))) ∙ a.now;
    done = λ j h. let wide = a.wide in dite (ℕ_discrete j i)
        (λ e. let same : get_or (set words (done_word i) n) (done_word i) 0 ≡ n = get_or-set_same words (done_word i) n 0 (omega (arith, wide, task)) in
        let new : get_or (set s.ended i (get_or s.ended i 0 + 1)) i 0 ≡ get_or s.ended i 0 + 1 = get_or-set_same s.ended i (get_or s.ended i 0 + 1) 0 long in
        let P : ℕ → Type 0 = λ z. get_or (set words (done_word i) n) (done_word z) 0 ≡ get_or (set s.ended i (get_or s.ended i 0 + 1)) z 0 in
        subst P (sym e) (same ∙ one ∙ sym new))
        (λ ne. get_or-set_other words (done_word i) (done_word j) n 0 (λ e. ne (omega (arith, e))) ∙ (a.done j h ∙ sym (get_or-set_other s.ended i j (get_or s.ended i 0 + 1) 0 ne)));
    slot = λ j h. get_or-set_other words (done_word i) (slot_word c j) n 0 (λ e. absurd (omega (arith, e, task))) ∙ a.slot j h;
    fits = a.fits;
    stop = subst (λ (z : ℕ). IsStop c.tasks raised z) (sym (get_or-set_other words (done_word i) (stop_word c) n 0 (λ e. absurd (omega (arith, e, task))))) a.stop;
  }

  pub store_done_keeps : PlanLaws → (w : Witness) (es : List Event) (words : List ℕ) (views : List View) (id i : ℕ) (u : View) (p : TaskPart) → AgreesWith k c v w es words views →
      get_elem? views id ≡ some u → get_elem? u.tasks i ≡ some (Some p) → p.stand.is_open ≡ true → action_at c i p.stand.ended p.stand.place ≡ actions.End →
      AgreesWith k c v w (es ++ events.Act (record { 0 = i }) ∷ []) (set words (done_word i) (p.stand.ended + 1)) (set views id (with_part i (done_counted v i p) u))
  store_done_keeps laws w es words views id i u p a at has opened is =
      let mine = a.each_view id u at in
      let there = mine.task i p has in
      let part : AgreesTask c v w.raised (reached c es) i p = there.2 in
      let next = next_of k c v (reached c es) i p.stand actions.End part.stand opened is in
      let tags : IsTagged c (reached c es) = laws.tagged c a.facts es a.free in
      let task : i < c.tasks = part.stand.task in
      let one : p.stand.ended + 1 ≡ get_or (reached c es).ended i 0 + 1 = (let e = part.stand.ended in omega (arith, e)) in
      let long : i < length (reached c es).ended = (let l : length (reached c es).ended ≡ c.tasks = tags.ended in omega (arith, task, l)) in
      let long_places : i < length (reached c es).places = (let l : length (reached c es).places ≡ c.tasks = tags.places in omega (arith, task, l)) in
      let may : KeepsFree c (reached c es) (events.Act (record { 0 = i })) = (next.has, next.released, subst (λ (y : Action). FindsTag (reached c es) y) (sym next.is) tt) in
      let calm : p.stop.raised ≡ true → ⊥ = λ r. let o = part.stop.overrun r in end_no_read o.port o.edge o.instance (record { 0 = p.kept.slot }) (sym is ∙ o.reads) in
      let later : IsLater i (reached c es) (after_end (reached c es) i) = end_is_later (reached c es) i long in
      keeps_event k c v laws w es (events.Act (record { 0 = i })) (after_end (reached c es) i) words (set words (done_word i) (p.stand.ended + 1)) views id (with_part i (done_counted v i p) u) a
      may (λ gate. may) (ap (λ (y : Action). after_action (reached c es) i y) next.is)
      (end_shows w.raised (reached c es) words i (p.stand.ended + 1) task long one a.shows)
      (view_with k c v w w (reached c es) (after_end (reached c es) i) id i u p (done_counted v i p) mine has (λ j. refl) refl
      (λ j r ne x. task_later k c v w.raised (reached c es) (after_end (reached c es) i) i j r later ne x)
      (λ r x. clock_later k c v w.raised (reached c es) (after_end (reached c es) i) i r later refl x)
      (record {
        stand = record {
          task = part.stand.task;
          ended = one ∙ sym (get_or-set_same (reached c es).ended i (get_or (reached c es).ended i 0 + 1) 0 long);
          place = sym (get_or-set_same (reached c es).places i 0 0 long_places);
          shut = λ e. refl;
          job = λ e. absurd (cc e);
          released = λ e. absurd (cc e);
          opened = λ n before. opened_by n before part;
          seen = part.stand.seen;
        };
        kept = record { tag = part.kept.tag; half_read = λ port e m cell o. absurd (cc o) };
        values = values_end c v a.values i p.stand p.values part.values (record { task = part.stand.task; job = part.stand.job opened }) is;
        stop = record {
          same = part.stop.same;
          overrun = λ r. absurd (calm r);
          told = part.stop.told;
        };
      }))
      (λ j x ne y. other_view k c v w (reached c es) (after_end (reached c es) i) i j x later (λ n t own e. ne (sym own ∙ (ap w.owner e ∙ there.0))) (λ e. refl) y)
    where
      opened_by : (n : ℕ) → n < p.stand.ended + 1 → AgreesTask c v w.raised (reached c es) i p → c.release i n ≤ p.stand.now
      opened_by n before part =
          elim (cases_lt n p.stand.ended) [
            | inl earlier ↦ part.stand.opened n earlier
            | inr last ↦
                (let same : n ≡ p.stand.ended = omega (arith, before, last) in
                subst (λ (z : ℕ). c.release i z ≤ p.stand.now) (sym same) (part.stand.released opened))
          ]

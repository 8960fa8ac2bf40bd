-- What loads and stores tell of a run: which job wrote what is found, that a write replaces no instance that is still read, and what each part says of the words.
use Rattle.prl_base.proofs.Standard.{◌≡◌, ℕ, ◌+◌, ◌/◌, ◌^◌, ◌<◌, ◌≤◌, List, [], ◌∷◌, get_or, sym, ap, ◌∙◌, subst, inl, inr, arith, true, Some, cases_lt}
use mathlib.Core.Option.{some}
use lib.ListN.{get_elem?}
use Rattle.prl_base.specs.declared.numbers.EdgeNo.{EdgeNo}
use Rattle.prl_plan.specs.Vocabulary.{IsHorizon, IsPlan, RunConstants, ExecState, opening, action_at, next_action, after_action, after_events, IsFree, IsGated, IsUnfinished, IsJob, ReadsAt, WritesAt}
use Rattle.prl_plan.specs.Vocabulary.{IsTagged, IsDone, IsWriter, IsLeft, last_tag}
use Rattle.prl_plan.specs.declared.events.Action.{Action}
use Rattle.prl_plan.specs.declared.events.Event.{Event}
use Rattle.prl_plan.specs.declared.events.SlotNo.{SlotNo}
use Rattle.prl_plan.specs.declared.events.Action.TheVariants as actions
use Rattle.prl_plan.specs.declared.events.Event.TheVariants as events
use Rattle.prl_rule.specs.Vocabulary.{Constants, ClockPart, TaskPart, View, RunValues, word_of, now_word, done_word, slot_word, Witness, AgreesTask, AgreesClock, AgreesWith, reached, run_of, PlanLaws}
use Rattle.prl_rule.specs.Vocabulary.{IsReadBy, LeftIsRead}
use Rattle.prl_rule.specs.declared.views.Gate.TheVariants as gates
use Rattle.prl_rule.proofs.HalfSteps.{loaded_tag}
use Rattle.prl_rule.proofs.Keeps.{next_of}

-- `now` stays within the end
move_keeps_now : (s : ExecState) (i : ℕ) (x : Action) → (after_action s i x).now ≡ s.now
move_keeps_now s i (actions.ReadConst port value) = λ h. s.now
move_keeps_now s i (actions.Read port e m slot) = λ h. s.now
move_keeps_now s i (actions.Write e m slot) = λ h. s.now
move_keeps_now s i actions.End = λ h. s.now

now_within : (c : RunConstants) (s : ExecState) (es : List Event) → s.now ≤ c.end → IsFree c s es → (after_events c s es).now ≤ c.end
now_within c s [] within free = within
now_within c s (events.Tick ∷ es) within free = now_within c (record s { now = s.now + 1 }) es free.0 free.1
now_within c s (events.Act task ∷ es) within free =
    now_within c (after_action s task.0 (next_action c s task.0)) es
    (subst (λ (n : ℕ). n ≤ c.end) (sym (move_keeps_now s task.0 (next_action c s task.0))) within) free.1

module _ (k : Constants) (c : RunConstants) (v : RunValues) where
  pub now_in_end : (w : Witness) (es : List Event) (words : List ℕ) (views : List View) → AgreesWith k c v w es words views → get_or words 0 0 ≤ c.end
  now_in_end w es words views a =
      let within = now_within c (opening c) es (omega arith) a.free in let same : get_or words 0 0 ≡ (reached c es).now = a.shows.now in omega (arith, within, same)

  -- a loaded tag is of an instance that a horizon job writes to this half
  pub found_is_written : PlanLaws → ((s : ExecState) → IsTagged c s → (slot m : ℕ) → get_or s.tags slot 0 ≡ m + 1 → (i : ℕ) × (n : ℕ) × (place : ℕ) × WritesAt c i n place m slot × IsDone s i n place) →
      (w : Witness) (es : List Event) (words : List ℕ) (views : List View) (h m : ℕ) → AgreesWith k c v w es words views → h < c.slots →
      get_or words (slot_word c h) 0 / 2 ^ 32 ≡ m + 1 → (i : ℕ) × (n : ℕ) × (place : ℕ) × WritesAt c i n place m h
  found_is_written laws written w es words views h m a inside tag =
      let found = written (reached c es) (laws.tagged c a.facts es a.free) h m (sym (loaded_tag k c v w es words views h a inside) ∙ tag) in
      (found.0, found.1, found.2, found.3)

  -- the word of a half by the part of the one task that writes to it
  pub word_is_own : ((events : List Event) → IsFree c (opening c) events → IsLeft c (reached c events)) →
      (w : Witness) (es : List Event) (words : List ℕ) (views : List View) (id i h : ℕ) (u : View) (p : TaskPart) → AgreesWith k c v w es words views →
      get_elem? views id ≡ some u → get_elem? u.tasks i ≡ some (Some p) → IsWriter c i h → h < c.slots →
      get_or words (slot_word c h) 0 ≡ word_of v h (last_tag c i h p.stand.ended p.stand.place)
  word_is_own left w es words views id i h u p a at has writer inside =
      let part : AgreesTask c v w.raised (reached c es) i p = ((a.each_view id u at).task i p has).2 in
      let tag : get_or (reached c es).tags h 0 ≡ last_tag c i h (get_or (reached c es).ended i 0) (get_or (reached c es).places i 0) = (left es a.free).left i h writer in
      a.shows.slot h inside ∙ ap (word_of v h) (tag ∙ sym (λ x. last_tag c i h (part.stand.ended x) (part.stand.place x)))

  -- what a write replaces is an instance whose readers are all due by the `now` that its task has loaded
  pub replaced_is_over : PlanLaws → (w : Witness) (es : List Event) (words : List ℕ) (views : List View) (id i : ℕ) (e : EdgeNo) (m h : ℕ) (u : View) (p : TaskPart) → AgreesWith k c v w es words views →
      get_elem? views id ≡ some u → get_elem? u.tasks i ≡ some (Some p) → p.stand.is_open ≡ true → action_at c i p.stand.ended p.stand.place ≡ actions.Write e m (record { 0 = h }) →
      (j n place l : ℕ) → ReadsAt c j n place l h → get_or words (slot_word c h) 0 / 2 ^ 32 ≡ l + 1 → c.deadline j n ≤ p.stand.now
  replaced_is_over laws w es words views id i e m h u p a at has opened is j n place l reads tag =
      let part : AgreesTask c v w.raised (reached c es) i p = ((a.each_view id u at).task i p has).2 in
      let writes : WritesAt c i p.stand.ended p.stand.place m h = record { job = record { task = part.stand.task; job = part.stand.job opened }; action = (e, is) } in
      let inside : h < c.slots = a.facts.write_cell i p.stand.ended p.stand.place m h writes in
      let tags : IsTagged c (reached c es) = laws.tagged c a.facts es a.free in
      let stands : get_or (reached c es).tags h 0 ≤ m = tags.ahead i p.stand.ended p.stand.place m h writes (inr (part.stand.ended, (let q = part.stand.place in omega (arith, q)))) in
      let over = a.facts.over j n place l i p.stand.ended p.stand.place m h reads writes (omega (arith, stands, loaded_tag k c v w es words views h a inside, tag)) in
      omega (arith, over, part.stand.released opened)

  -- no part stands in two views
  pub parts_apart : (w : Witness) (es : List Event) (words : List ℕ) (views : List View) (id other i : ℕ) (u x : View) (p q : TaskPart) → AgreesWith k c v w es words views →
      get_elem? views id ≡ some u → get_elem? u.tasks i ≡ some (Some p) → get_elem? views other ≡ some x → get_elem? x.tasks i ≡ some (Some q) → id ≡ other
  parts_apart w es words views id other i u x p q a at has at_other has_other =
      sym ((a.each_view id u at).task i p has).0 ∙ ((a.each_view other x at_other).task i q has_other).0

  pub clocks_apart : (w : Witness) (es : List Event) (words : List ℕ) (views : List View) (id other : ℕ) (u x : View) (r q : ClockPart) → AgreesWith k c v w es words views →
      get_elem? views id ≡ some u → u.clock ≡ Some r → get_elem? views other ≡ some x → x.clock ≡ Some q → id ≡ other
  clocks_apart w es words views id other u x r q a at has at_other has_other =
      sym ((a.each_view id u at).clock r has).0 ∙ ((a.each_view other x at_other).clock q has_other).0

  -- on a gated board each horizon job that is due has ended
  pub due_has_ended : ((events : List Event) → IsGated c (opening c) events → (i n : ℕ) → IsUnfinished c (reached c events) i n → (reached c events).now < c.deadline i n) →
      (w : Witness) (es : List Event) (words : List ℕ) (views : List View) (i n : ℕ) → AgreesWith k c v w es words views → k.gate ≡ gates.Gated → IsJob c i n →
      c.deadline i n ≤ get_or words now_word 0 → n < get_or words (done_word i) 0
  due_has_ended kept w es words views i n a gate job due =
      elim (cases_lt n (get_or words (done_word i) 0)) [
        | inl ended ↦ ended
        | inr open_ ↦ absurd
            (let done : get_or words (done_word i) 0 ≡ get_or (reached c es).ended i 0 = a.shows.done i job.task in
            let early = kept es (a.gated gate) i n (record { task = job.task; job = job.job; unfinished = omega (arith, open_, done) }) in
            omega (arith, early, due, a.shows.now))
      ]

  pub part_agrees : (w : Witness) (es : List Event) (words : List ℕ) (views : List View) (id i : ℕ) (u : View) (p : TaskPart) → AgreesWith k c v w es words views →
      get_elem? views id ≡ some u → get_elem? u.tasks i ≡ some (Some p) → AgreesTask c v w.raised (reached c es) i p × (get_or words (done_word i) 0 ≡ p.stand.ended)
  part_agrees w es words views id i u p a at has =
      let part : AgreesTask c v w.raised (reached c es) i p = ((a.each_view id u at).task i p has).2 in
      (part, a.shows.done i part.stand.task ∙ sym part.stand.ended)

  pub clock_agrees : (w : Witness) (es : List Event) (words : List ℕ) (views : List View) (id : ℕ) (u : View) (r : ClockPart) → AgreesWith k c v w es words views →
      get_elem? views id ≡ some u → u.clock ≡ Some r → AgreesClock c w.raised (reached c es) r
  clock_agrees w es words views id u r a at has = ((a.each_view id u at).clock r has).2

  pub count_in_jobs : PlanLaws → (w : Witness) (es : List Event) (words : List ℕ) (views : List View) (i : ℕ) → AgreesWith k c v w es words views → i < c.tasks →
      get_or words (done_word i) 0 ≤ c.jobs i
  count_in_jobs laws w es words views i a task =
      let counted = (laws.tagged c a.facts es a.free).counted i task in omega (arith, counted, a.shows.done i task)

-- what a write replaces, no job reads, of the horizon or not, that is due after the `now` that its task has loaded; and its task has left it there
module _ (k : Constants) (v : RunValues) (laws : PlanLaws) (whole : IsPlan k.plan) (horizon : IsHorizon k.plan k.horizon)
    (w : Witness) (es : List Event) (words : List ℕ) (views : List View) (id i : ℕ) (e : EdgeNo) (m : ℕ) (slot : SlotNo) (u : View) (p : TaskPart)
    (a : AgreesWith k (run_of k) v w es words views) (at : get_elem? views id ≡ some u) (has : get_elem? u.tasks i ≡ some (Some p))
    (opened : p.stand.is_open ≡ true) (is : action_at (run_of k) i p.stand.ended p.stand.place ≡ actions.Write e m slot) where
  part : AgreesTask (run_of k) v w.raised (reached (run_of k) es) i p
  part = ((a.each_view id u at).task i p has).2

  writes : WritesAt (run_of k) i p.stand.ended p.stand.place m slot.0
  writes = record { job = record { task = part.stand.task; job = part.stand.job opened }; action = (e, is) }

  held_is_read : (l : ℕ) → get_or (reached (run_of k) es).tags slot.0 0 ≡ l + 1 → IsReadBy k.plan e.0 l p.stand.now
  held_is_read l holds n reads =
      let next = next_of k (run_of k) v (reached (run_of k) es) i p.stand (actions.Write e m slot) part.stand opened is in
      let own : m ≡ p.stand.ended = a.facts.own i p.stand.ended p.stand.place m slot.0 writes in
      let released : (run_of k).release i m ≤ p.stand.now = subst (λ (x : ℕ). (run_of k).release i x ≤ p.stand.now) (sym own) (part.stand.released opened) in
      omega (arith, laws.replaced k.plan whole k.horizon horizon (reached (run_of k) es) (laws.tagged (run_of k) a.facts es a.free) i e.0 m slot.0 l n next.has next.is holds reads, released)

  pub replaced_is_read : (l : ℕ) → get_or words (slot_word (run_of k) slot.0) 0 / 2 ^ 32 ≡ l + 1 → IsReadBy k.plan e.0 l p.stand.now
  replaced_is_read l tag =
      held_is_read l (sym (loaded_tag k (run_of k) v w es words views slot.0 a (a.facts.write_cell i p.stand.ended p.stand.place m slot.0 writes)) ∙ tag)

  pub left_is_read : LeftIsRead k i p.stand e slot
  left_is_read l tag =
      let c = run_of k in
      let writer : IsWriter c i slot.0 = λ j n place l other. a.facts.writer j n place l i p.stand.ended p.stand.place m slot.0 other writes in
      held_is_read l ((laws.left c a.facts es a.free).left i slot.0 writer ∙ sym (λ x. last_tag c i slot.0 (part.stand.ended x) (part.stand.place x)) ∙ tag)

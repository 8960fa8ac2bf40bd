-- The steps of a task's seat, after the constants that it has read.
use Rattle.std.proofs.Common.{◌≡◌, ℕ, zero, suc, ◌+◌, ◌/◌, ◌%◌, ◌^◌, ◌<◌, ◌≤◌, List, [], ◌++◌, get_or, set, refl, sym, ◌∙◌, subst, append-nil, cond, eqb, Some}
use mathlib.Core.Option.{some}
use lib.ListN.{get_elem?}
use Rattle.prl_base.specs.Values.{FitsValue}
use Rattle.prl_base.specs.declared.numbers.EdgeNo.{EdgeNo}
use Rattle.prl_plan.specs.declared.events.Action.TheVariants as actions
use Rattle.prl_plan.specs.Vocabulary.{RunConstants, ReadsAt, IsHorizon, IsPlan}
use Rattle.prl_plan.specs.declared.events.Event.{Event}
use Rattle.prl_plan.specs.declared.events.SlotNo.{SlotNo}
use Rattle.prl_rule.specs.Vocabulary.{Constants, TaskPart, View, value_of_halves, RunValues, word_of, done_word, slot_word, stop_word, Witness, AgreesTask, IsOverrun, AgreesWith, HasPart, StandsAt}
use Rattle.prl_rule.specs.Vocabulary.{reached, HasRead, acts, caught_up, done_counted, half_loaded, half_stored, moved_on, part_raised, raised_by, stop_loaded, with_part, PlanLaws, run_of, IsReadBy}
use Rattle.prl_rule.specs.Vocabulary.{LeftIsRead}
use Rattle.prl_rule.specs.declared.views.Gate.TheVariants as gates
use Rattle.prl_rule.proofs.Parts.{caught_ended, caught_kept, caught_now, set_found}
use Rattle.prl_rule.proofs.Catching.{catch_up, settled}
use Rattle.prl_rule.proofs.HalfSteps.{load_half_keeps, no_later_loaded, store_half_keeps, value_loaded}
use Rattle.prl_rule.proofs.JobSteps.{store_done_keeps}
use Rattle.prl_rule.proofs.StopSteps.{no_overrun, raise_keeps, load_stop_keeps}
use Rattle.prl_rule.proofs.Telling.{left_is_read, replaced_is_over, replaced_is_read}

module _ (k : Constants) (c : RunConstants) (v : RunValues) where
  module _ (laws : PlanLaws) (w : Witness) (es : List Event) (words : List ℕ) (views : List View) (id i count : ℕ) (u : View) (p : TaskPart)
      (a : AgreesWith k c v w es words views) (has : HasPart views id i u p) (read : HasRead c i p count) where
    pub caught : AgreesWith k c v w (es ++ acts i count) words (set views id (with_part i (caught_up c v i count p) u))
    caught = catch_up k c v laws count w es words views id i u p a has.seat has.part read.opened read.constants

    pub seat : get_elem? (set views id (with_part i (caught_up c v i count p) u)) id ≡ some (with_part i (caught_up c v i count p) u)
    seat = set_found views id u (with_part i (caught_up c v i count p) u) has.seat

    pub part : get_elem? (with_part i (caught_up c v i count p) u).tasks i ≡ some (Some (caught_up c v i count p))
    part = set_found u.tasks i (Some p) (Some (caught_up c v i count p)) has.part

    agrees : AgreesTask c v w.raised (reached c (es ++ acts i count)) i (caught_up c v i count p)
    agrees = ((caught.each_view id (with_part i (caught_up c v i count p) u) seat).task i (caught_up c v i count p) part).2

    pub inside_law : (port : ℕ) (e : EdgeNo) (m h : ℕ) → StandsAt c i (caught_up c v i count p).stand (actions.Read port e m (record { 0 = h })) → h < c.slots
    inside_law port e m h at =
        a.facts.read_cell i (caught_up c v i count p).stand.ended (caught_up c v i count p).stand.place m h
        (record { job = record { task = agrees.stand.task; job = agrees.stand.job at.opened }; action = (port, e, at.next) })

    pub load_half_law : (port : ℕ) (e : EdgeNo) (m h : ℕ) → StandsAt c i (caught_up c v i count p).stand (actions.Read port e m (record { 0 = h })) →
        AgreesWith k c v w (es ++ (acts i count ++ (cond (eqb (get_or words (slot_word c h) 0 / 2 ^ 32) (m + 1)) (acts i 1) []))) words
        (set views id (with_part i (half_loaded c v i h (m + 1) (get_or words (slot_word c h) 0) (caught_up c v i count p)) u))
    load_half_law port e m h at =
        settled k c v w es (acts i count) (cond (eqb (get_or words (slot_word c h) 0 / 2 ^ 32) (m + 1)) (acts i 1) []) words views id i u (caught_up c v i count p)
        (half_loaded c v i h (m + 1) (get_or words (slot_word c h) 0) (caught_up c v i count p))
        (load_half_keeps k c v laws w (es ++ acts i count) words (set views id (with_part i (caught_up c v i count p) u)) id i port e m h (with_part i (caught_up c v i count p) u) (caught_up c v i count p)
        caught seat part at.opened at.next)

    pub value_law : (port : ℕ) (e : EdgeNo) (m h : ℕ) → StandsAt c i (caught_up c v i count p).stand (actions.Read port e m (record { 0 = h })) →
        get_or words (slot_word c h) 0 / 2 ^ 32 ≡ m + 1 → h % 2 ≡ 1 → value_of_halves (v.types e.0) p.kept.low (get_or words (slot_word c h) 0 % 2 ^ 32) ≡ v.stored (h / 2) m
    value_law port e m h at tag odd =
        let reads : ReadsAt c i (caught_up c v i count p).stand.ended (caught_up c v i count p).stand.place m h =
        record { job = record { task = agrees.stand.task; job = agrees.stand.job at.opened }; action = (port, e, at.next) } in
        let inside : h < c.slots = a.facts.read_cell i (caught_up c v i count p).stand.ended (caught_up c v i count p).stand.place m h reads in
        (λ x. value_of_halves (v.types e.0) (sym (caught_kept c v i count p) x).low (get_or words (slot_word c h) 0 % 2 ^ 32))
        ∙ value_loaded k c v w (es ++ acts i count) words (set views id (with_part i (caught_up c v i count p) u)) i port e m h (caught_up c v i count p) caught agrees at.opened at.next inside tag odd

    pub gated_law : (port : ℕ) (e : EdgeNo) (m h : ℕ) → k.gate ≡ gates.Gated → StandsAt c i (caught_up c v i count p).stand (actions.Read port e m (record { 0 = h })) →
        get_or words (slot_word c h) 0 / 2 ^ 32 ≤ m + 1
    gated_law port e m h gate at =
        no_later_loaded k c v laws w (es ++ acts i count) words (set views id (with_part i (caught_up c v i count p) u)) id i port e m h (with_part i (caught_up c v i count p) u) (caught_up c v i count p)
        caught gate seat part at.opened at.next

    pub store_half_law : (e : EdgeNo) (m h : ℕ) → StandsAt c i (caught_up c v i count p).stand (actions.Write e m (record { 0 = h })) → FitsValue (v.stored (h / 2) m) →
        AgreesWith k c v w (es ++ (acts i count ++ acts i 1)) (set words (slot_word c h) (word_of v h (m + 1))) (set views id (with_part i (half_stored c v i (caught_up c v i count p)) u))
    store_half_law e m h at fits =
        settled k c v w es (acts i count) (acts i 1) (set words (slot_word c h) (word_of v h (m + 1))) views id i u (caught_up c v i count p) (half_stored c v i (caught_up c v i count p))
        (store_half_keeps k c v laws w (es ++ acts i count) words (set views id (with_part i (caught_up c v i count p) u)) id i e m h (with_part i (caught_up c v i count p) u) (caught_up c v i count p)
        caught seat part at.opened at.next fits)

    pub replaces_law : (e : EdgeNo) (m h : ℕ) → StandsAt c i (caught_up c v i count p).stand (actions.Write e m (record { 0 = h })) →
        (j n place l : ℕ) → ReadsAt c j n place l h → get_or words (slot_word c h) 0 / 2 ^ 32 ≡ l + 1 → c.deadline j n ≤ p.stand.now
    replaces_law e m h at j n place l reads tag =
        subst (λ (x : ℕ). c.deadline j n ≤ x) (caught_now c v i count p)
        (replaced_is_over k c v laws w (es ++ acts i count) words (set views id (with_part i (caught_up c v i count p) u)) id i e m h (with_part i (caught_up c v i count p) u) (caught_up c v i count p)
        caught seat part at.opened at.next j n place l reads tag)

    pub store_done_law : StandsAt c i (caught_up c v i count p).stand actions.End →
        AgreesWith k c v w (es ++ (acts i count ++ acts i 1)) (set words (done_word i) (p.stand.ended + 1)) (set views id (with_part i (done_counted v i (caught_up c v i count p)) u))
    store_done_law at =
        subst (λ (n : ℕ). AgreesWith k c v w (es ++ (acts i count ++ acts i 1)) (set words (done_word i) (n + 1)) (set views id (with_part i (done_counted v i (caught_up c v i count p)) u)))
        (caught_ended c v i count p)
        (settled k c v w es (acts i count) (acts i 1) (set words (done_word i) ((caught_up c v i count p).stand.ended + 1)) views id i u (caught_up c v i count p) (done_counted v i (caught_up c v i count p))
        (store_done_keeps k c v laws w (es ++ acts i count) words (set views id (with_part i (caught_up c v i count p) u)) id i (with_part i (caught_up c v i count p) u) (caught_up c v i count p)
        caught seat part at.opened at.next))

    -- the same for a step that is no event
    without_event : (w' : Witness) (words' : List ℕ) (q : TaskPart) → AgreesWith k c v w' (es ++ acts i count) words'
        (set (set views id (with_part i (caught_up c v i count p) u)) id (with_part i q (with_part i (caught_up c v i count p) u))) → AgreesWith k c v w' (es ++ acts i count) words' (set views id (with_part i q u))
    without_event w' words' q b =
        subst (λ (fs : List Event). AgreesWith k c v w' (es ++ fs) words' (set views id (with_part i q u))) (append-nil (acts i count))
        (settled k c v w' es (acts i count) [] words' views id i u (caught_up c v i count p) q
        (subst (λ (fs : List Event). AgreesWith k c v w' fs words' (set (set views id (with_part i (caught_up c v i count p) u)) id (with_part i q (with_part i (caught_up c v i count p) u))))
        (sym (append-nil (es ++ acts i count))) b))

    overrun : IsOverrun c i (caught_up c v i count p).stand p.kept → IsOverrun c i (caught_up c v i count p).stand (caught_up c v i count p).kept
    overrun o = subst (IsOverrun c i (caught_up c v i count p).stand) (sym (caught_kept c v i count p)) o

    pub raise_law : IsOverrun c i (caught_up c v i count p).stand p.kept →
        AgreesWith k c v (raised_by i w) (es ++ acts i count) (set words (stop_word c) (i + 1)) (set views id (with_part i (part_raised (caught_up c v i count p)) u))
    raise_law o =
        without_event (raised_by i w) (set words (stop_word c) (i + 1)) (part_raised (caught_up c v i count p))
        (raise_keeps k c v laws w (es ++ acts i count) words (set views id (with_part i (caught_up c v i count p) u)) id i (with_part i (caught_up c v i count p) u) (caught_up c v i count p)
        caught seat part (overrun o))

    pub calm_law : k.gate ≡ gates.Gated → IsOverrun c i (caught_up c v i count p).stand p.kept → ⊥
    calm_law gate o =
        no_overrun k c v laws w (es ++ acts i count) words (set views id (with_part i (caught_up c v i count p) u)) id i (with_part i (caught_up c v i count p) u) (caught_up c v i count p)
        caught gate seat part (overrun o)

    pub load_stop_law : AgreesWith k c v w (es ++ acts i count) words (set views id (with_part i (stop_loaded (get_or words (stop_word c) 0) (caught_up c v i count p)) u))
    load_stop_law =
        without_event w words (stop_loaded (get_or words (stop_word c) 0) (caught_up c v i count p))
        (load_stop_keeps k c v w (es ++ acts i count) words (set views id (with_part i (caught_up c v i count p) u)) id i (with_part i (caught_up c v i count p) u) (caught_up c v i count p) caught seat part)

-- what a write replaces, for every reader
module _ (k : Constants) (v : RunValues) (laws : PlanLaws) (whole : IsPlan k.plan) (horizon : IsHorizon k.plan k.horizon)
    (w : Witness) (es : List Event) (words : List ℕ) (views : List View) (id i count : ℕ) (u : View) (p : TaskPart)
    (a : AgreesWith k (run_of k) v w es words views) (has : HasPart views id i u p) (read : HasRead (run_of k) i p count) (e : EdgeNo) (m : ℕ) where
  pub over_law : (h : ℕ) → StandsAt (run_of k) i (caught_up (run_of k) v i count p).stand (actions.Write e m (record { 0 = h })) →
      (l : ℕ) → get_or words (slot_word (run_of k) h) 0 / 2 ^ 32 ≡ l + 1 → IsReadBy k.plan e.0 l p.stand.now
  over_law h at l tag =
      subst (λ (x : ℕ). IsReadBy k.plan e.0 l x) (caught_now (run_of k) v i count p)
      (replaced_is_read k v laws whole horizon w (es ++ acts i count) words (set views id (with_part i (caught_up (run_of k) v i count p) u)) id i e m (record { 0 = h })
      (with_part i (caught_up (run_of k) v i count p) u) (caught_up (run_of k) v i count p)
      (caught k (run_of k) v laws w es words views id i count u p a has read) (seat k (run_of k) v laws w es words views id i count u p a has read)
      (part k (run_of k) v laws w es words views id i count u p a has read) at.opened at.next l tag)

  pub left_law : (slot : SlotNo) → StandsAt (run_of k) i (caught_up (run_of k) v i count p).stand (actions.Write e m slot) →
      LeftIsRead k i (caught_up (run_of k) v i count p).stand e slot
  left_law slot at =
      left_is_read k v laws whole horizon w (es ++ acts i count) words (set views id (with_part i (caught_up (run_of k) v i count p) u)) id i e m slot
      (with_part i (caught_up (run_of k) v i count p) u) (caught_up (run_of k) v i count p)
      (caught k (run_of k) v laws w es words views id i count u p a has read) (seat k (run_of k) v laws w es words views id i count u p a has read)
      (part k (run_of k) v laws w es words views id i count u p a has read) at.opened at.next

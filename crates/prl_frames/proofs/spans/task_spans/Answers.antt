use Rattle.prl_base.proofs.Standard.{◌≡◌, ◌+◌, ◌-◌, ◌<◌, ℕ, List, [], ◌∷◌, length, get_or, drop, replicate, sym, ◌∙◌, ap, subst, arith, drop_more, length-replicate, slice_get-get_or, drop-length}
use Rattle.prl_tables.specs.Vocabulary.{Entry, ArePieces, IsPiece}
use Rattle.prl_frames.specs.code.Making.{HasSpans}
use Rattle.prl_plan.specs.Plans.{PlanView}
use Rattle.prl_frames.proofs.Spanned.{none_added}
use Rattle.prl_frames.proofs.spans.task_spans.Goals as goal

abbrev no_entry : Entry
no_entry = record { at = 0; task = record { 0 = 0 }; job = 0; units = 0 }

-- the entry that stands before the last `back` ones
entry_there : (plan : PlanView) (entries : List Entry) (back : ℕ) → ArePieces plan entries →
    back < length entries → IsPiece plan (get_or entries (length entries - 1 - back) no_entry)
entry_there plan entries back pieces inside =
    pieces (length entries - 1 - back) (get_or entries (length entries - 1 - back) no_entry) (slice_get-get_or entries (length entries - 1 - back) no_entry (omega (arith, inside)))

-- the list from the next entry on
from_next : (entries : List Entry) (back : ℕ) → back < length entries →
    get_or entries (length entries - 1 - back) no_entry ∷ drop (length entries - back) entries ≡ drop (length entries - (back + 1)) entries
from_next entries back inside =
    let one : length entries - 1 - back + 1 ≡ length entries - back = omega (arith, inside) in
    let front : length entries - 1 - back ≡ length entries - (back + 1) = omega (arith, inside) in
    ap (λ (k : ℕ). get_or entries (length entries - 1 - back) no_entry ∷ drop k entries) (sym one)
    ∙ sym (drop_more entries (length entries - 1 - back) no_entry (omega (arith, inside))) ∙ ap (λ (k : ℕ). drop k entries) front

pub loop-back-init : goal.loop-back-init
loop-back-init c =
    let items : c.in_ok-list.list.items ≡ replicate c.classes.result c.none.result = c.in_ok-list.ensures.items_if_clones_equal (λ y is. is) in
    let none : drop (length c.args.entries.now - 0) c.args.entries.now ≡ [] =
    ap (λ (k : ℕ). drop k c.args.entries.now) (let z : length c.args.entries.now - 0 ≡ length c.args.entries.now = omega arith in z) ∙ drop-length c.args.entries.now in
    record {
      classes = ap length items ∙ length-replicate c.classes.result c.none.result ∙ c.classes.ensures;
      spans = subst (λ (es : List Entry). HasSpans es c.args.task.0 c.in_ok-list.list.items) (sym none)
          (subst (HasSpans [] c.args.task.0) (sym items) (none_added c.args.task.0 c.classes.result c.none.result c.none.ensures));
    }

pub add_entry-requires-clause-piece : goal.add_entry-requires-clause-piece
add_entry-requires-clause-piece c =
    entry_there c.args.plan.now c.args.entries.now c.loop-back.back c.requires.pieces (let t = c.loop-back-test.true in let e = c.loop-back.auto.back-end in omega (arith, t, e))

pub add_entry-requires-clause-end : goal.add_entry-requires-clause-end
add_entry-requires-clause-end c =
    (let small = c.pieces_are_short.ensures.end c.args.plan.now c.graph.ensures.plan (get_or c.args.entries.now (length c.args.entries.now - 1 - c.loop-back.back) no_entry)
    (entry_there c.args.plan.now c.args.entries.now c.loop-back.back c.requires.pieces (let t = c.loop-back-test.true in let e = c.loop-back.auto.back-end in omega (arith, t, e))) in
    omega (arith, small))

pub loop-back-preserved : goal.loop-back-preserved
loop-back-preserved c =
    let inside : c.loop-back.back < length c.args.entries.now = (let t = c.loop-back-test.true in let e = c.loop-back.auto.back-end in omega (arith, t, e)) in
    record {
      classes = c.add_entry.ensures.classes ∙ c.loop-back.invariant.classes;
      spans = subst (λ (es : List Entry). HasSpans es c.args.task.0 c.add_entry.new.list.items) (from_next c.args.entries.now c.loop-back.back inside)
          (c.add_entry.ensures.spans (drop (length c.args.entries.now - c.loop-back.back) c.args.entries.now) c.loop-back.invariant.spans);
    }

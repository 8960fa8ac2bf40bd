use Rattle.prl_base.proofs.Standard.{◌≡◌, ℕ, List, get_or, sym, ap, subst, ◌∙◌, vec_items, Some, slots_items, slice_get}
use lib.ListN.{get_elem?}
use Rattle.prl_rule.specs.declared.views.KeptHalf.{KeptHalf}
use Rattle.prl_board.specs.Vocabulary.{ClosedView, KeepsTag, LoneView, IsSettled}
use Rattle.prl_seats.specs.JobSeats.{JobSeatView}
use Rattle.prl_board.proofs.ClosedBoards.{closed_from, closing_clock, closing_tags}
use Rattle.prl_board.proofs.lone.Lone.close.Goals as goal

pub new-requires-clause-left : goal.new-requires-clause-left
new-requires-clause-left c =
    let known : c.self.inside.whole.me.0.constants ≡ Some c.args.board.known = ap (λ (l : LoneView). l.view.constants) c.self.view_is ∙ c.settle_all.ensures.lone.known in
    let lent = c.self.invariant.1 c.args.board.known known in
    let settled = subst (λ (l : LoneView). (i : ℕ) (s : JobSeatView) → slice_get l.seats i ≡ Some s → IsSettled l.view i s) (sym c.self.view_is) c.settle_all.ensures.settled in (
      c.args.board.known,
      record {
        given = lent.ticks.given;
        closed = closed_from c.args.board.known c.plan_laws.ensures c.self.inside.whole.me.0 (slots_items c.close.result.words) (vec_items c.self.inside.seats) c.close.ensures.closing lent.tasks lent.each settled;
        sized = c.close.ensures.full.1;
        lent = λ i s has. (lent.each i s has).given;
        plan = c.keeps_values.ensures.work.whole;
      },
    )

pub returns-clause-clock : goal.returns-clause-clock
returns-clause-clock c = λ r has.
    ap (λ (d : ClosedView). get_or d.words 0 0) c.new.ensures
    ∙ closing_clock c.args.board.known c.self.inside.whole.me.0 (slots_items c.close.result.words) c.close.ensures.closing r (ap (λ (l : LoneView). l.view.clock) c.self.view_is ∙ c.settle_all.ensures.clock ∙ has)

pub returns-clause-tags : goal.returns-clause-tags
returns-clause-tags c = λ i p has.
    let known = c.args.board.known in
    let kept = c.settle_all.ensures.halves i p has in
    let whole = ap (λ (l : LoneView). get_elem? l.view.tasks i) c.self.view_is ∙ kept.1 in
    let P : List ℕ × KeptHalf → Type 0 = λ z. KeepsTag known z.1 z.0 in
    subst P (λ h. (ap (λ (d : ClosedView). d.words) (sym c.new.ensures) h, kept.2 h))
    (closing_tags known c.plan_laws.ensures c.self.inside.whole.me.0 (slots_items c.close.result.words) c.close.ensures.closing i kept.0 whole)

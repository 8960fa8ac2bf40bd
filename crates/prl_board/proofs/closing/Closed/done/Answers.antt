use Rattle.prl_base.proofs.Standard.{arith, ◌≡◌, ◌+◌, ◌<◌, get_or, length, sym, ap, subst, ◌∙◌, vec_items, Some, slots_items, slice_get}
use Rattle.prl_board.specs.Closings.{ClosedView}
use Rattle.prl_board.proofs.ClosedBoards.{word_there}
use Rattle.prl_board.proofs.closing.Closed.done.Goals as goal

pub word-requires : goal.word-requires
word-requires c =
    let inside : c.args.task.0 < length (vec_items c.self.inside.seats) = subst (λ (d : ClosedView). c.args.task.0 < length d.seats) (sym c.self.view_is) c.requires in
    (omega (arith, c.self.invariant.2.1.sized, c.self.invariant.2.1.closed.tasks, inside), c.self.invariant.0)

pub returns-clause-word : goal.returns-clause-word
returns-clause-word c = sym (word_there (slots_items c.self.inside.words.words) (1 + c.args.task.0) c.word.result c.word.ensures) ∙ ap (λ (d : ClosedView). get_or d.words (1 + c.args.task.0) 0) c.self.view_is

pub returns-clause-seat : goal.returns-clause-seat
returns-clause-seat c = λ s has.
    let closed = c.self.invariant.2.1.closed in
    let inside : c.args.task.0 < length (vec_items c.self.inside.seats) = subst (λ (d : ClosedView). c.args.task.0 < length d.seats) (sym c.self.view_is) c.requires in
    let there : slice_get (vec_items c.self.inside.seats) c.args.task.0 ≡ Some s = ap (λ (d : ClosedView). slice_get d.seats c.args.task.0) c.self.view_is ∙ has in
    sym (word_there (slots_items c.self.inside.words.words) (1 + c.args.task.0) c.word.result c.word.ensures)
    ∙ closed.last.1.done c.args.task.0 (omega (arith, closed.tasks, inside)) ∙ sym (closed.last.1.each c.args.task.0 s there).0

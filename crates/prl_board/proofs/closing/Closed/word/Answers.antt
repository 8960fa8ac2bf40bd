use Rattle.prl_base.proofs.Standard.{arith, ◌≡◌, ◌+◌, ℕ, length, get_or, sym, ap, ◌∙◌, vec_items, slots_items}
use Rattle.prl_rule.specs.Vocabulary.{slot_word, run_of}
use Rattle.prl_board.specs.Closings.{ClosedView, slot_of}
use Rattle.prl_board.proofs.ClosedBoards.{left_of, word_there}
use Rattle.prl_board.proofs.closing.Closed.word.Goals as goal

pub returns : goal.returns
returns c = λ k known.
    let left = left_of c.self.invariant.2 (ap (λ (d : ClosedView). d.constants) c.self.view_is ∙ known) in
    let tasks : length (vec_items c.self.inside.seats) ≡ (run_of k).tasks = left.closed.tasks in
    let at : 1 + c.len.result + c.slot-offset.result ≡ slot_word (run_of k) (slot_of c.args.cell.0 c.args.half) = omega (arith, c.len.ensures, c.slot-offset.ensures, tasks, c.self.inside.seats.ok) in
    sym (word_there (slots_items c.self.inside.words.words) (1 + c.len.result + c.slot-offset.result) c.word.result c.word.ensures)
    ∙ ap (λ (n : ℕ). get_or (slots_items c.self.inside.words.words) n 0) at
    ∙ ap (λ (d : ClosedView). get_or d.words (slot_word (run_of k) (slot_of c.args.cell.0 c.args.half)) 0) c.self.view_is

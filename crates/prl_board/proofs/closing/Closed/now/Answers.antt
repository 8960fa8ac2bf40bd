use Rattle.prl_base.proofs.Standard.{arith, get_or, sym, ap, ◌∙◌, slots_items}
use Rattle.prl_board.specs.Closings.{ClosedView}
use Rattle.prl_board.proofs.ClosedBoards.{word_there}
use Rattle.prl_board.proofs.closing.Closed.now.Goals as goal

pub word-requires : goal.word-requires
word-requires c = let sized = c.self.invariant.2.1.sized in (omega (arith, sized), c.self.invariant.0)

pub returns : goal.returns
returns c = sym (word_there (slots_items c.self.inside.words.words) 0 c.word.result c.word.ensures) ∙ ap (λ (d : ClosedView). get_or d.words 0 0) c.self.view_is

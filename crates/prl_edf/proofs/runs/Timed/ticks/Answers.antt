use Rattle.std.proofs.Common.{◌+◌, ◌∙◌, ℕ, sym, ap, subst, arith}
use Rattle.prl_edf.specs.Vocabulary.{Piece, ticks_of, AreLongest}
use Rattle.prl_edf.proofs.TickSums.{IsSumOf, none_added, in_order, not_more, one_added, all_added}
use Rattle.prl_edf.proofs.runs.Timed.ticks.Goals as goal

abbrev zero_piece : Piece
zero_piece = record { task = record { 0 = 0 }; job = 0; from = 0; to = 0 }

pub loop-piece-init : goal.loop-piece-init
loop-piece-init c = none_added c.as_slice-piece-items.result.now

pub ticks-ticks-requires : goal.ticks-ticks-requires
ticks-ticks-requires c =
    in_order c.as_slice-piece-items.result.now (subst AreLongest (sym c.as_slice-piece-items.ensures) c.requires) c.loop-piece.piece-index c.loop-piece.ticks
    c.loop-piece.invariant zero_piece c.loop-piece-test.true

pub overflow_add-ticks : goal.overflow_add-ticks
overflow_add-ticks c =
    let most = not_more c.as_slice-piece-items.result.now (subst AreLongest (sym c.as_slice-piece-items.ensures) c.requires) c.loop-piece.piece-index c.loop-piece.ticks
    c.loop-piece.invariant zero_piece c.loop-piece-test.true in
    omega (arith, most, c.ticks-ticks.ensures.ticks, c.ticks-ticks.ensures.fits)

pub loop-piece-preserved : goal.loop-piece-preserved
loop-piece-preserved c =
    subst (λ (more : ℕ). IsSumOf c.as_slice-piece-items.result.now (c.loop-piece.piece-index + 1) (c.loop-piece.ticks + more)) (sym c.ticks-ticks.ensures.ticks)
    (one_added c.as_slice-piece-items.result.now (subst AreLongest (sym c.as_slice-piece-items.ensures) c.requires) c.loop-piece.piece-index c.loop-piece.ticks
    c.loop-piece.invariant zero_piece c.loop-piece-test.true)

pub returns : goal.returns
returns c =
    all_added c.as_slice-piece-items.result.now c.loop-piece.piece-index c.loop-piece.ticks c.loop-piece.invariant c.loop-piece-test.false
    ∙ ap ticks_of c.as_slice-piece-items.ensures

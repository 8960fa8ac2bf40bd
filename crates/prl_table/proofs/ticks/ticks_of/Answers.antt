use Rattle.prl_base.proofs.Standard.{◌≡◌, ◌+◌, ◌-◌, ◌<◌, ℕ, List, [], ◌∷◌, length, get_or, drop, sym, ◌∙◌, ap, subst, arith, drop-length, drop_more}
use Rattle.prl_edf.specs.Pieces.{run_of}
use Rattle.prl_edf.specs.declared.pieces.Piece.{Piece}
use Rattle.prl_table.specs.code.Ticks.{HasTicks}
use Rattle.prl_table.proofs.ticks.ticks_of.Goals as goal

abbrev no_piece : Piece
no_piece = record { task = record { 0 = 0 }; job = 0; from = 0; to = 0 }

pub loop-back-init : goal.loop-back-init
loop-back-init c =
    let none : drop (length c.args.pieces.now - 0) c.args.pieces.now ≡ [] =
    ap (λ (k : ℕ). drop k c.args.pieces.now) (let z : length c.args.pieces.now - 0 ≡ length c.args.pieces.now = omega arith in z) ∙ drop-length c.args.pieces.now in
    record {
      long = c.in_ok-ticks.ensures.length;
      ticks = subst (λ (ps : List Piece). HasTicks (run_of ps) c.in_ok-ticks.ticks.items) (sym none) c.in_ok-ticks.ensures.ticks;
    }

pub loop-back-preserved : goal.loop-back-preserved
loop-back-preserved c =
    let inside : c.loop-back.back < length c.args.pieces.now = (let t = c.loop-back-test.true in let e = c.loop-back.auto.back-end in omega (arith, t, e)) in
    let next : drop (length c.args.pieces.now - 1 - c.loop-back.back) c.args.pieces.now
    ≡ get_or c.args.pieces.now (length c.args.pieces.now - 1 - c.loop-back.back) no_piece ∷ drop (length c.args.pieces.now - 1 - c.loop-back.back + 1) c.args.pieces.now =
    drop_more c.args.pieces.now (length c.args.pieces.now - 1 - c.loop-back.back) no_piece (omega (arith, inside)) in
    let one : length c.args.pieces.now - 1 - c.loop-back.back + 1 ≡ length c.args.pieces.now - c.loop-back.back = omega (arith, inside) in
    let front : length c.args.pieces.now - 1 - c.loop-back.back ≡ length c.args.pieces.now - (c.loop-back.back + 1) = omega (arith, inside) in
    let list : get_or c.args.pieces.now (length c.args.pieces.now - 1 - c.loop-back.back) no_piece ∷ drop (length c.args.pieces.now - c.loop-back.back) c.args.pieces.now
    ≡ drop (length c.args.pieces.now - (c.loop-back.back + 1)) c.args.pieces.now =
    ap (λ (k : ℕ). get_or c.args.pieces.now (length c.args.pieces.now - 1 - c.loop-back.back) no_piece ∷ drop k c.args.pieces.now) (sym one)
    ∙ sym next ∙ ap (λ (k : ℕ). drop k c.args.pieces.now) front in
    record {
      long = c.fill.ensures.length ∙ c.loop-back.invariant.long;
      ticks = subst (λ (ps : List Piece). HasTicks (run_of ps) c.fill.new.ticks.items) list
          (c.fill.ensures.ticks (run_of (drop (length c.args.pieces.now - c.loop-back.back) c.args.pieces.now)) c.loop-back.invariant.ticks);
    }

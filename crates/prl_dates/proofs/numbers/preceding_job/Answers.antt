use Rattle.std.proofs.Common.{◌≡◌, ◌+◌, ◌<◌, ◌∷◌, [], w64, to_z, of_z, ℕ, ℤ, List, length, drop, get_or, refl, sym, ap, subst, ◌∙◌}
use Rattle.prl_base.proofs.Standard.{drop_more, to_z-of_z}
use Rattle.prl_base.specs.Operators.{preceding_number}
use Rattle.prl_base.specs.declared.operators.Op.{Op}
use Rattle.prl_base.specs.declared.operators.Op.TheVariants as operators
use Rattle.prl_plan.specs.Vocabulary.{preceding, PrecedingFits}
use Rattle.prl_dates.proofs.Readings.{fits_rest}
use Rattle.prl_dates.proofs.numbers.preceding_job.Goals as goal

fits_first : (op : Op) (ops : List Op) (n : ℤ) → PrecedingFits (op ∷ ops) n → PrecedingFits (op ∷ []) n
fits_first (operators.Up k) ops n fits = (fits.0, tt)
fits_first (operators.Down k) ops n fits = (fits.0, fits.1, tt)
fits_first (operators.Shift q) ops n fits = tt
fits_first operators.Tail ops n fits = (fits.0, tt)
fits_first (operators.Cons c) ops n fits = (fits.0, tt)
fits_first (operators.Fby c) ops n fits = (fits.0, tt)

split : (ops : List Op) (i : ℕ) (op : Op) → i < length ops → op ≡ get_or ops i op → drop i ops ≡ op ∷ drop (i + 1) ops
split ops i op below is = drop_more ops i op below ∙ ap (λ (o : Op). o ∷ drop (i + 1) ops) (sym is)

pub loop-op-init : goal.loop-op-init
loop-op-init c = record { rest = refl; fits = subst (λ (z : ℤ). PrecedingFits c.args.ops.now z) (sym (to_z-of_z w64 c.args.n c.ranges.n)) c.requires }

pub number_before-number-requires : goal.number_before-number-requires
number_before-number-requires c =
    fits_first c.op-item.result (drop (c.loop-op.op-index + 1) c.args.ops.now) (to_z w64 c.loop-op.number-bits)
    (subst (λ (os : List Op). PrecedingFits os (to_z w64 c.loop-op.number-bits)) (split c.args.ops.now c.loop-op.op-index c.op-item.result c.loop-op-test.true c.op-item.is) c.loop-op.invariant.fits)

pub loop-op-preserved : goal.loop-op-preserved
loop-op-preserved c =
    let ops = c.args.ops.now in
    let rest : List Op = drop (c.loop-op.op-index + 1) c.args.ops.now in
    let before = to_z w64 c.loop-op.number-bits in
    let first = to_z w64 (of_z w64 c.args.n) in
    let one = split c.args.ops.now c.loop-op.op-index c.op-item.result c.loop-op-test.true c.op-item.is in
    let next : to_z w64 (of_z w64 c.number_before-number.result) ≡ preceding_number c.op-item.result (to_z w64 c.loop-op.number-bits) =
    to_z-of_z w64 c.number_before-number.result (record { sfits = c.number_before-number.type_inv }) ∙ c.number_before-number.ensures in
    record {
      rest = ap (λ (z : ℤ). preceding rest z) next ∙ subst (λ (os : List Op). preceding os before ≡ preceding ops first) one c.loop-op.invariant.rest;
      fits = subst (λ (z : ℤ). PrecedingFits rest z) (sym next)
          (fits_rest c.op-item.result rest before (subst (λ (os : List Op). PrecedingFits os before) one c.loop-op.invariant.fits));
    }

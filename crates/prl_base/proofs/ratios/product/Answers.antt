use Rattle.std.proofs.Common.{◌≡◌, ◌≤◌, ◌*◌, ◌*ℤ◌, nat_abs, w64, arith, lit<}
use mir.Val.{to_z, of_z, SFits}
use Rattle.std.proofs.lemmas.Int.{to_z-of_z, fits_signed_mul, unsigned_abs-mul}
use Rattle.std.proofs.Math.Nat.{mul-le-mul}
use Rattle.prl_base.proofs.ratios.product.Goals as goal

pub returns-clause-value : goal.returns-clause-value
returns-clause-value c =
    let a : to_z w64 (of_z w64 c.args.a) ≡ c.args.a = to_z-of_z w64 c.args.a c.ranges.a in
    let b : to_z w64 (of_z w64 c.args.b) ≡ c.args.b = to_z-of_z w64 c.args.b c.ranges.b in
    let fits : SFits w64 (c.args.a *ℤ c.args.b) = fits_signed_mul w64 c.args.a c.args.b 2147483647 2147483647 (omega (arith, c.requires.a)) (omega (arith, c.requires.b)) (lit< tt) in
    rw (a, b) (to_z-of_z w64 (c.args.a *ℤ c.args.b) fits)

pub returns-clause-size : goal.returns-clause-size
returns-clause-size c =
    let bound : nat_abs c.args.a * nat_abs c.args.b ≤ 2147483647 * 2147483647 =
    mul-le-mul {n₂ = 2147483647} {m₂ = 2147483647} (omega (arith, c.requires.a)) (omega (arith, c.requires.b)) in
    rw (returns-clause-value c, unsigned_abs-mul c.args.a c.args.b) (omega (arith, bound))

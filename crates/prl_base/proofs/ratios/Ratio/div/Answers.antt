use Rattle.std.proofs.Common.{◌≡◌, ◌<◌, ◌^◌, ◌-ℤ◌, ◌*ℤ◌, ℕ, ℤ, pos, neg_ℤ, nat_abs, true, rules, w64, ap, ◌∙◌, subst}
use mir.Val.{to_z, of_z, SFits}
use Rattle.std.specs.Int.Signed.{lt_z}
use Rattle.std.proofs.lemmas.Int.{to_z-of_z}
use Rattle.prl_base.specs.Reductions.{IsReduction}
use Rattle.prl_base.proofs.Signs.{neg_fits, zero_sub, negative_size}
use Rattle.prl_base.proofs.Lowest.{reduction_flipped}
use Rattle.prl_base.proofs.ratios.Ratio.div.Goals as goal

neg-passed : (a : ℤ) → SFits w64 a → nat_abs a < 2 ^ 62 → to_z w64 (of_z w64 (pos 0 -ℤ to_z w64 (of_z w64 a))) ≡ neg_ℤ a
neg-passed a fits small =
    ap (λ n. to_z w64 (of_z w64 n)) (ap (λ n. pos 0 -ℤ n) (to_z-of_z w64 a fits) ∙ zero_sub a)
    ∙ to_z-of_z w64 (neg_ℤ a) (neg_fits a small)

size-passed : (a : ℤ) (size : ℕ) → SFits w64 a → size ≡ nat_abs (to_z w64 (of_z w64 a))
    → lt_z (to_z w64 (of_z w64 a)) (pos 0) ≡ true → pos size ≡ neg_ℤ a
size-passed a size fits e negative =
    let same : to_z w64 (of_z w64 a) ≡ a = to_z-of_z w64 a fits in
    let P : ℤ → Type 0 = λ n. lt_z n (pos 0) ≡ true in
    ap pos (e ∙ ap nat_abs same) ∙ negative_size a (subst P same negative)

pub returns-then-bottom-lt0 : goal.returns-then-bottom-lt0
returns-then-bottom-lt0 c =
    let top-fits : SFits w64 c.over-top.result = search rules in
    let bottom-fits : SFits w64 c.over-bottom.result = search rules in
    let top = neg-passed c.over-top.result top-fits c.over-top.ensures.size in
    let bottom = size-passed c.over-bottom.result c.size.result bottom-fits c.size.ensures c.if-bottom-lt0.true in
    let P : ℤ → Type 0 = λ t. IsReduction t (pos c.size.result) c.new.result in
    let Q : ℤ → Type 0 = λ b. IsReduction (neg_ℤ c.over-top.result) b c.new.result in
    let flipped : IsReduction c.over-top.result c.over-bottom.result c.new.result =
    reduction_flipped c.over-top.result c.over-bottom.result c.new.result (subst Q bottom (subst P top c.new.ensures)) in
    let R : ℤ → Type 0 = λ t. IsReduction t c.over-bottom.result c.new.result in
    let S : ℤ → Type 0 = λ b. IsReduction (c.args.self.num *ℤ pos c.args.other.den) b c.new.result in
    subst S c.over-bottom.ensures.value (subst R c.over-top.ensures.value flipped)

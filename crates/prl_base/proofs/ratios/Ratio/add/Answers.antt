use Rattle.std.proofs.Common.{◌≡◌, ◌+ℤ◌, ◌*ℤ◌, ℕ, ℤ, pos, rules, w64, ap, ◌∙◌, subst}
use mir.Val.{to_z, of_z, SFits}
use Rattle.std.proofs.lemmas.Int.{to_z-of_z}
use Rattle.prl_base.specs.Reductions.{IsReduction}
use Rattle.prl_base.proofs.ratios.Ratio.add.Goals as goal

sum-passed : (sum a b x y : ℤ) → SFits w64 sum → SFits w64 a → SFits w64 b
    → sum ≡ to_z w64 (of_z w64 a) +ℤ to_z w64 (of_z w64 b) → a ≡ x → b ≡ y → to_z w64 (of_z w64 sum) ≡ x +ℤ y
sum-passed sum a b x y sum-fits a-fits b-fits e a-is b-is =
    to_z-of_z w64 sum sum-fits ∙ e
    ∙ ap (λ n. n +ℤ to_z w64 (of_z w64 b)) (to_z-of_z w64 a a-fits ∙ a-is)
    ∙ ap (λ n. x +ℤ n) (to_z-of_z w64 b b-fits ∙ b-is)

pub returns : goal.returns
returns c =
    let fits : SFits w64 c.sum-top.result = search rules in
    let left : SFits w64 c.over.result = search rules in
    let right : SFits w64 c.over-2.result = search rules in
    let top = sum-passed c.sum-top.result c.over.result c.over-2.result _ _ fits left right c.sum-top.ensures c.over.ensures.value c.over-2.ensures.value in
    let P : ℤ → Type 0 = λ t. IsReduction t (pos c.common_den.result) c.new.result in
    let Q : ℕ → Type 0 = λ d. IsReduction (c.args.self.num *ℤ pos c.args.other.den +ℤ c.args.other.num *ℤ pos c.args.self.den) (pos d) c.new.result in
    subst Q c.common_den.ensures.value (subst P top c.new.ensures)

use Rattle.prl_base.proofs.Standard.{◌≡◌, ◌+◌, ◌*◌, ℕ, ℤ, pos, ◌+ℤ◌, ◌*ℤ◌, w64, ap, ◌∙◌, sym, subst, arith, to_z-of_z, Result}
use borrow.Author.Differences.{up, down}
use mir.Val.{to_z, of_z, SFits}
use Rattle.prl_base.specs.Vocabulary.{Fraction, IsReduction}
use Rattle.prl_base.specs.declared.ratios.Past.{Past}
use Rattle.prl_clock.proofs.Reducing.{total, below_is, above_is, positive3}
use Rattle.prl_clock.proofs.fractions.sum_of_parts.Goals as goal
use Rattle.prl_clock.proofs.fractions.sum_of_parts.Goals.{After-product-6}

pub reduced-requires : goal.reduced-requires
reduced-requires c = let e = c.product-den.ensures.value in rw e (positive3 c.args.d c.args.e c.args.f c.requires.d.0 c.requires.e.0 c.requires.f.0)

pub reduced-requires-else-plus-minus : goal.reduced-requires-else-plus-minus
reduced-requires-else-plus-minus c =
    let e = c.product-den.ensures.value in rw e (positive3 c.args.d c.args.e c.args.f c.requires.d.0 c.requires.e.0 c.requires.f.0)

-- what the six products add up to
balance : (a b c : ℤ) (d e f au ad bu bd cu cd m1 m2 m3 n1 n2 n3 : ℕ) → SFits w64 a → SFits w64 b → SFits w64 c
    → au ≡ up (to_z w64 (of_z w64 a)) → ad ≡ down (to_z w64 (of_z w64 a)) → bu ≡ up (to_z w64 (of_z w64 b)) → bd ≡ down (to_z w64 (of_z w64 b))
    → cu ≡ up (to_z w64 (of_z w64 c)) → cd ≡ down (to_z w64 (of_z w64 c))
    → m1 ≡ au * e * f → m2 ≡ bu * cu * d → m3 ≡ bd * cd * d → n1 ≡ ad * e * f → n2 ≡ bu * cd * d → n3 ≡ bd * cu * d
    → up (a *ℤ pos (e * f) +ℤ b *ℤ c *ℤ pos d) + (n1 + n2 + n3) ≡ down (a *ℤ pos (e * f) +ℤ b *ℤ c *ℤ pos d) + (m1 + m2 + m3)
balance a b c d e f au ad bu bd cu cd m1 m2 m3 n1 n2 n3 fa fb fc eau ead ebu ebd ecu ecd em1 em2 em3 en1 en2 en3 =
    let xau : au ≡ up a = eau ∙ ap up (to_z-of_z w64 a fa) in
    let xad : ad ≡ down a = ead ∙ ap down (to_z-of_z w64 a fa) in
    let xbu : bu ≡ up b = ebu ∙ ap up (to_z-of_z w64 b fb) in
    let xbd : bd ≡ down b = ebd ∙ ap down (to_z-of_z w64 b fb) in
    let xcu : cu ≡ up c = ecu ∙ ap up (to_z-of_z w64 c fc) in
    let xcd : cd ≡ down c = ecd ∙ ap down (to_z-of_z w64 c fc) in
    let k1 : m1 ≡ up a * e * f = em1 ∙ ap (λ t. t * e * f) xau in
    let k2 : m2 ≡ up b * up c * d = em2 ∙ ap (λ t. t * cu * d) xbu ∙ ap (λ t. up b * t * d) xcu in
    let k3 : m3 ≡ down b * down c * d = em3 ∙ ap (λ t. t * cd * d) xbd ∙ ap (λ t. down b * t * d) xcd in
    let l1 : n1 ≡ down a * e * f = en1 ∙ ap (λ t. t * e * f) xad in
    let l2 : n2 ≡ up b * down c * d = en2 ∙ ap (λ t. t * cd * d) xbu ∙ ap (λ t. up b * t * d) xcd in
    let l3 : n3 ≡ down b * up c * d = en3 ∙ ap (λ t. t * cu * d) xbd ∙ ap (λ t. down b * t * d) xcu in
    omega (arith, total a b c d (e * f), k1, k2, k3, l1, l2, l3)

sums : (c : After-product-6) → up (c.args.a *ℤ pos (c.args.e * c.args.f) +ℤ c.args.b *ℤ c.args.c *ℤ pos c.args.d) + (c.product-4.result + c.product-5.result + c.product-6.result)
    ≡ down (c.args.a *ℤ pos (c.args.e * c.args.f) +ℤ c.args.b *ℤ c.args.c *ℤ pos c.args.d) + (c.product.result + c.product-2.result + c.product-3.result)
sums c =
    balance c.args.a c.args.b c.args.c c.args.d c.args.e c.args.f _ _ _ _ _ _ _ _ _ _ _ _ c.ranges.a c.ranges.b c.ranges.c
    c.parts-a_above.ensures.above c.parts-a_above.ensures.below c.parts-b_above.ensures.above c.parts-b_above.ensures.below
    c.parts-c_above.ensures.above c.parts-c_above.ensures.below
    c.product.ensures.value c.product-2.ensures.value c.product-3.ensures.value c.product-4.ensures.value c.product-5.ensures.value c.product-6.ensures.value

turned : (top made : ℤ) (bottom den : ℕ) (result : Result Fraction Past) → top ≡ made → den ≡ bottom → IsReduction made (pos den) result
    → IsReduction top (pos bottom) result
turned top made bottom den result e d h =
    let P : ℤ → Type 0 = λ z. IsReduction z (pos bottom) result in
    let Q : ℕ → Type 0 = λ n. IsReduction made (pos n) result in subst P (sym e) (subst Q d h)

pub returns-then-plus-minus : goal.returns-then-plus-minus
returns-then-plus-minus c =
    turned _ _ _ _ c.reduced.result
    (below_is _ (c.product.result + c.product-2.result + c.product-3.result) (c.product-4.result + c.product-5.result + c.product-6.result)
    (sums ((goal.at.returns-then-plus-minus c).After-product-6)) c.if-plus-minus.true)
    c.product-den.ensures.value c.reduced.ensures

pub returns-else-plus-minus : goal.returns-else-plus-minus
returns-else-plus-minus c =
    turned _ _ _ _ c.reduced-else-plus-minus.result
    (above_is _ (c.product.result + c.product-2.result + c.product-3.result) (c.product-4.result + c.product-5.result + c.product-6.result)
    (sums ((goal.at.returns-else-plus-minus c).After-product-6)) c.if-plus-minus.false)
    c.product-den.ensures.value c.reduced-else-plus-minus.ensures

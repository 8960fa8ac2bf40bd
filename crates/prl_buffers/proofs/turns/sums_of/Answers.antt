use Rattle.prl_base.proofs.Standard.{◌≡◌, ◌+◌, ◌++◌, ℕ, List, [], ◌∷◌, length, get_or, sum, take, slice_index, refl, sym, ◌∙◌, ap, subst, arith, sum_by_more, sum_by-take-le}
use Rattle.prl_buffers.proofs.Grown.{grown_length, each_grown}
use Rattle.prl_buffers.proofs.turns.sums_of.Goals as goal

pub loop-gap-init : goal.loop-gap-init
loop-gap-init c =
    let items : c.push.new.self.items ≡ 0 ∷ [] = c.in_ok-push.ensures.items ∙ ap (λ (l : List ℕ). l ++ 0 ∷ []) c.in_ok-sums.ensures.items in
    record {
      total = refl;
      long = ap length items;
      each = λ j small.
          (let at : j ≡ 0 = omega (arith, small) in
          ap (λ (l : List ℕ). slice_index l j) items ∙ subst (λ (k : ℕ). slice_index (0 ∷ []) k ≡ sum (take k c.args.gaps.now)) (sym at) refl);
    }

pub loop-gap-preserved : goal.loop-gap-preserved
loop-gap-preserved c =
    let gaps : List ℕ = c.args.gaps.now in
    let i : ℕ = c.loop-gap.gap-index in
    let before = c.loop-gap.invariant in
    let more = sum_by_more (λ (y : ℕ). y) gaps c.loop-gap.gap-index 0 c.loop-gap-test.true in
    let total : c.loop-gap.total + get_or gaps i 0 ≡ sum (take (i + 1) gaps) = omega (arith, before.total, more) in
    let items = c.in_ok-push-2.ensures.items in
    record {
      total = total;
      long = grown_length c.loop-gap.sums.items c.push-in-loop-gap.new.self.items _ (i + 1) items before.long;
      each = λ j small. each_grown c.loop-gap.sums.items c.push-in-loop-gap.new.self.items _ (i + 1) items before.long (λ k (total_there : ℕ). total_there ≡ sum (take k gaps)) 0
          (λ k less. before.each k (omega (arith, less))) total j (omega (arith, small));
    }

pub returns : goal.returns
returns c =
    let gaps : List ℕ = c.args.gaps.now in
    let all : c.loop-gap.gap-index ≡ length gaps = omega (arith, c.loop-gap-test.false, c.loop-gap.auto.gap-index-end) in
    rw c.new.ensures (record {
      long = c.loop-gap.invariant.long ∙ ap (λ (n : ℕ). n + 1) all;
      each = λ j within. c.loop-gap.invariant.each j (omega (arith, within, all));
    })

pub overflow_add-total : goal.overflow_add-total
overflow_add-total c =
    let gaps : List ℕ = c.args.gaps.now in
    let more = sum_by_more (λ (y : ℕ). y) gaps c.loop-gap.gap-index 0 c.loop-gap-test.true in
    let within = sum_by-take-le (λ (y : ℕ). y) gaps (c.loop-gap.gap-index + 1) in
    omega (arith, c.loop-gap.invariant.total, more, within, c.requires)

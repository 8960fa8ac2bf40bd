use Rattle.std.proofs.Common.{◌≡◌, ◌≤◌, ◌<◌, ℕ, List, length, slice_index, sym, subst}
use Rattle.prl_base.specs.declared.operators.Op.{Op}
use Rattle.prl_words.specs.code.Steps.{AreZeros}
use Rattle.prl_words.proofs.Rooms.{zeros_found}
use Rattle.prl_words.proofs.steps.zeros.Goals as goal

pub returns-in-Fby : goal.returns-in-Fby
returns-in-Fby c =
    let found = c.leading_zeros.result in
    let same = c.as_slice.ensures in
    zeros_found c.args.op.now c.args.word.now c.requires found (subst (λ (o : Op). AreZeros o found) (sym c.in-Fby.is) tt)
    (subst (λ (xs : List ℕ). found ≤ length xs) same c.leading_zeros.ensures.few)
    (subst (λ (xs : List ℕ). (i : ℕ) → i < found → slice_index xs i ≡ 0) same c.leading_zeros.ensures.zero)
    (subst (λ (xs : List ℕ). found < length xs → 1 ≤ slice_index xs found) same c.leading_zeros.ensures.next)

pub returns-in-Cons : goal.returns-in-Cons
returns-in-Cons c =
    let found = c.leading_zeros-in-Cons.result in
    let same = c.as_slice-in-Cons.ensures in
    zeros_found c.args.op.now c.args.word.now c.requires found (subst (λ (o : Op). AreZeros o found) (sym c.in-Cons.is) tt)
    (subst (λ (xs : List ℕ). found ≤ length xs) same c.leading_zeros-in-Cons.ensures.few)
    (subst (λ (xs : List ℕ). (i : ℕ) → i < found → slice_index xs i ≡ 0) same c.leading_zeros-in-Cons.ensures.zero)
    (subst (λ (xs : List ℕ). found < length xs → 1 ≤ slice_index xs found) same c.leading_zeros-in-Cons.ensures.next)

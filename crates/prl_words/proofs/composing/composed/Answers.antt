use Rattle.std.proofs.Common.{◌≡◌, ◌+◌, ◌<◌, ◌≤◌, ◌++◌, ℕ, List, [], ◌∷◌, take, drop, length, length-take-le, get_or, sym, ap, subst, ◌∙◌, arith}
use Rattle.std.proofs.lemmas.List.{take_more, drop_more, take_all, drop_all}
use Rattle.prl_base.specs.declared.operators.Op.{Op}
use Rattle.prl_plan.specs.declared.words.Word.{Word}
use Rattle.prl_words.specs.code.Steps.{IsSoFar, IsExtended}
use Rattle.prl_words.proofs.SoFar.{room_so_far, next_so_far, first_so_far}
use Rattle.prl_words.proofs.composing.composed.Goals as goal

-- the operators to come begin with the one at this place
at_turn : (jobs : ℕ) (ops : List Op) (i : ℕ) (op : Op) (w : Word) → i < length ops → op ≡ get_or ops i op → IsSoFar jobs (take i ops) (drop i ops) w →
    IsSoFar jobs (take i ops) (op ∷ drop (i + 1) ops) w
at_turn jobs ops i op w below is so_far =
    let split : drop i ops ≡ op ∷ drop (i + 1) ops = drop_more ops i op below ∙ ap (λ (o : Op). o ∷ drop (i + 1) ops) (sym is) in
    subst (λ (rest : List Op). IsSoFar jobs (take i ops) rest w) split so_far

pub with_operator-requires : goal.with_operator-requires
with_operator-requires c =
    let ops = c.args.ops.now in
    let i = c.loop-op.op-index in
    let op = c.op-item.result in
    let below : i < length ops = c.loop-op-test.true in
    let front_long : length (take i ops) ≡ i = length-take-le i ops (omega (arith, below)) in
    room_so_far c.requires.counts.0 op (take i ops) (drop (i + 1) ops) c.loop-op.word
    (at_turn c.requires.counts.0 ops i op c.loop-op.word below c.op-item.is (c.loop-op.invariant c.requires.counts.0 c.requires.counts.1))
    (omega (arith, front_long, below, c.requires.few))

pub loop-op-init : goal.loop-op-init
loop-op-init c jobs counts =
    let ops = c.args.ops.now in
    subst (λ (w : Word). IsSoFar jobs [] ops w) (sym c.in_ok-word.ensures) (first_so_far ops jobs counts)

pub loop-op-preserved : goal.loop-op-preserved
loop-op-preserved c jobs counts =
    let ops = c.args.ops.now in
    let i = c.loop-op.op-index in
    let op = c.op-item.result in
    let below : i < length ops = c.loop-op-test.true in
    let extended : IsExtended op c.loop-op.word c.in_ok-word-2.word = c.in_ok-word-2.ensures in
    let split : take (i + 1) ops ≡ take i ops ++ op ∷ [] = take_more ops i op below ∙ ap (λ (o : Op). take i ops ++ o ∷ []) (sym c.op-item.is) in
    subst (λ (front : List Op). IsSoFar jobs front (drop (i + 1) ops) c.in_ok-word-2.word) (sym split)
    (next_so_far jobs op (take i ops) (drop (i + 1) ops) c.loop-op.word c.in_ok-word-2.word
    (at_turn jobs ops i op c.loop-op.word below c.op-item.is (c.loop-op.invariant jobs counts)) extended)

-- all operators are composed
all_composed : (jobs : ℕ) (ops : List Op) (i : ℕ) (w : Word) → length ops ≤ i → IsSoFar jobs (take i ops) (drop i ops) w → IsSoFar jobs ops [] w
all_composed jobs ops i w past so_far =
    subst (λ (rest : List Op). IsSoFar jobs ops rest w) (drop_all i ops past)
    (subst (λ (front : List Op). IsSoFar jobs front (drop i ops) w) (take_all i ops past) so_far)

pub returns : goal.returns
returns c = record {
  each = λ jobs counts. all_composed jobs c.args.ops.now c.loop-op.op-index c.loop-op.word c.loop-op-test.false (c.loop-op.invariant jobs counts);
}

use Rattle.prl_base.proofs.Standard.{rules, ◌≡◌, ◌<◌, ◌++◌, ℕ, false, List, [], ◌∷◌, length, codes, ap, sym, ◌∙◌, arith, bytes_eq, nat_tests}
use Rattle.prl_plantext.specs.code.Graphs.{first_of, operator_in, operators_in, rest_of}
use Rattle.prl_plantext.proofs.Operators.{nothing_is_none, with_one_more, with_none_more}
use Rattle.prl_plantext.proofs.reading.operators_in.Goals.{After-operator_in}
use Rattle.prl_plantext.proofs.reading.operators_in.Goals as goal

-- the operator that is read, and the words after it
read : (c : After-operator_in) → (0 < length c.loop-words.words) × (bytes_eq (first_of c.loop-words.words) (codes "tail") ≡ false) × (c.next.new.self ≡ rest_of (rest_of c.loop-words.words))
    × (operator_in (first_of c.loop-words.words) (first_of (rest_of c.loop-words.words)) ≡ c.operator_in.result)
read c =
    let words = c.loop-words.words in
    let empty = c.is_empty.ensures in
    let test = c.loop-words-test.true in
    let not_tail : bytes_eq c.next-word.result.now (codes "tail") ≡ false = search rules in
    let argument : c.next.result.now ≡ first_of (rest_of words) = c.next.ensures.word ∙ ap first_of c.next-word.ensures.rest in (
      grind (arith, nat_tests, empty, test),
      ap (λ (w : List ℕ). bytes_eq w (codes "tail")) (sym c.next-word.ensures.word) ∙ not_tail,
      c.next.ensures.rest ∙ ap rest_of c.next-word.ensures.rest,
      ap (λ (w : List ℕ). operator_in w (first_of (rest_of words))) (sym c.next-word.ensures.word)
          ∙ ap (λ (a : List ℕ). operator_in c.next-word.result.now a) (sym argument) ∙ sym c.operator_in.ensures,
    )

pub loop-words-preserved-in-Continue-branch-2 : goal.loop-words-preserved-in-Continue-branch-2
loop-words-preserved-in-Continue-branch-2 c =
    let its = read (goal.at.loop-words-preserved-in-Continue-branch-2 c).After-operator_in in
    let pushed : c.push-in-Some.new.self.items ≡ c.loop-words.ops.items ++ c.in-Some.op ∷ [] = search rules in
    ap (λ ops. ops ++ operators_in c.next.new.self) pushed
    ∙ ap (λ (ws : List (List ℕ)). (c.loop-words.ops.items ++ c.in-Some.op ∷ []) ++ operators_in ws) its.2
    ∙ with_one_more c.loop-words.ops.items c.in-Some.op c.loop-words.words its.0 its.1 (its.3 ∙ c.in-Some.is)
    ∙ c.loop-words.invariant

pub loop-words-preserved : goal.loop-words-preserved
loop-words-preserved c =
    let its = read (goal.at.loop-words-preserved c).After-operator_in in
    ap (λ (ws : List (List ℕ)). c.loop-words.ops.items ++ operators_in ws) its.2
    ∙ with_none_more c.loop-words.ops.items c.loop-words.words its.0 its.1 (its.3 ∙ nothing_is_none c.operator_in.result c.in_default.not-Some)
    ∙ c.loop-words.invariant

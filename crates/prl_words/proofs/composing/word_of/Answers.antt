use Rattle.prl_base.proofs.Standard.{◌≡◌, ◌*◌, ◌/◌, ◌<◌, ◌≤◌, ◌^◌, ℕ, List, [], drop, length, sym, ap, subst, ◌∙◌, arith, length-drop, mul-le-mul_left, mul-le-mul_right, take_rest}
use Rattle.prl_base.specs.declared.operators.Op.{Op}
use Rattle.prl_plan.specs.Vocabulary.{walk, word_at, IsWordOf}
use Rattle.prl_plan.specs.declared.words.Word.{Word}
use Rattle.prl_words.specs.Vocabulary.{IsLeading, IsHeld, IsSteady, IsShortened, IsSoFar, IsComposed, HaveCounts}
use Rattle.prl_words.proofs.Held.{operand_held, steady_held}
use Rattle.prl_words.proofs.SoFar.{counts_here, steady_so_far, word_shortest}
use Rattle.prl_words.proofs.Turns.{second_some}
use Rattle.prl_words.proofs.composing.word_of.Goals as goal

-- what the slow word comes to
record Slow (ops : List Op) (count times : ℕ) (w : Word) : Type 0 where
  steady : IsSteady w
  prefix : length w.prefix * times ≤ 2 ^ 32 * 10000000
  step : w.step_in * times ≤ 10000000
  at : (n : ℕ) → word_at w n ≡ walk (drop count ops) n

slow : (ops : List Op) (count times : ℕ) (w : Word) → length ops < 2 ^ 32 → (jobs : ℕ) × HaveCounts ops jobs → IsLeading ops count times → (rest : List Op) → rest ≡ drop count ops → IsComposed rest w → Slow ops count times w
slow ops count times w few has lead rest is made =
    let jobs : ℕ = has.0 in
    let counts = has.1 in
    let composed : IsComposed (drop count ops) w = subst (λ (xs : List Op). IsComposed xs w) is made in
    let b = lead.counts jobs counts in
    let s : IsSoFar b.0 (drop count ops) [] w = composed.each b.0 b.1 in
    let fit = counts_here ops jobs counts in
    let fewer : length (drop count ops) < 2 ^ 32 = (let l = length-drop count ops in omega (arith, l, few)) in
    let j : jobs ≡ times * b.0 = b.2 in
    let turns_some : 1 ≤ s.sized.turns = second_some w.step_in s.sized.turns b.0 s.sized.jobs_are s.jobs_fit.0 in
    let in_le : w.step_in * 1 ≤ w.step_in * s.sized.turns = mul-le-mul_left w.step_in turns_some in
    let within : w.step_in ≤ b.0 = (let e = s.sized.jobs_are in omega (arith, in_le, e)) in
    let step : times * w.step_in ≤ times * b.0 = mul-le-mul_left times within in
    let swap : w.step_in * times ≡ times * w.step_in = omega arith in
    let prefix : length w.prefix * times ≤ length (drop count ops) * b.0 * times = mul-le-mul_right times s.constants in
    let group : length (drop count ops) * b.0 * times ≡ length (drop count ops) * (times * b.0) = omega arith in
    let whole : length (drop count ops) * (times * b.0) ≡ length (drop count ops) * jobs = ap (λ (x : ℕ). length (drop count ops) * x) (sym j) in
    let most : length (drop count ops) * jobs ≤ length (drop count ops) * 10000000 = mul-le-mul_left (length (drop count ops)) fit.1 in
    let all : length (drop count ops) * 10000000 ≤ 2 ^ 32 * 10000000 = mul-le-mul_right 10000000 (let e : length (drop count ops) ≤ 2 ^ 32 = omega (arith, fewer) in e) in
    record {
      steady = steady_so_far b.0 (drop count ops) [] w s fewer;
      prefix = omega (arith, prefix, group, whole, most, all);
      step = omega (arith, step, swap, j, fit.1);
      at = s.at;
    }

pub held-requires-clause-prefix : goal.held-requires-clause-prefix
held-requires-clause-prefix c =
    let lead = c.leading_rates-operators.ensures in
    let s = slow c.args.ops.now _ _ c.in_ok-slow.slow c.requires.few c.requires.counts lead _ (take_rest c.args.ops.now c.leading_rates-operators.result.operators) c.in_ok-slow.ensures in
    omega (arith, s.prefix)

pub held-requires-clause-repeat : goal.held-requires-clause-repeat
held-requires-clause-repeat c =
    let lead = c.leading_rates-operators.ensures in
    let s = slow c.args.ops.now _ _ c.in_ok-slow.slow c.requires.few c.requires.counts lead _ (take_rest c.args.ops.now c.leading_rates-operators.result.operators) c.in_ok-slow.ensures in
    let l : length c.in_ok-slow.slow.repeat * c.leading_rates-operators.result.times ≡ c.in_ok-slow.slow.step_in * c.leading_rates-operators.result.times =
    ap (λ (x : ℕ). x * c.leading_rates-operators.result.times) s.steady.word.long in
    omega (arith, s.step, l)

pub held-requires-clause-step : goal.held-requires-clause-step
held-requires-clause-step c =
    let lead = c.leading_rates-operators.ensures in
    let s = slow c.args.ops.now _ _ c.in_ok-slow.slow c.requires.few c.requires.counts lead _ (take_rest c.args.ops.now c.leading_rates-operators.result.operators) c.in_ok-slow.ensures in
    omega (arith, s.step)

pub shortened-requires : goal.shortened-requires
shortened-requires c =
    let lead = c.leading_rates-operators.ensures in
    let s = slow c.args.ops.now _ _ c.in_ok-slow.slow c.requires.few c.requires.counts lead _ (take_rest c.args.ops.now c.leading_rates-operators.result.operators) c.in_ok-slow.ensures in
    steady_held c.leading_rates-operators.result.times lead.some c.in_ok-slow.slow c.in_ok-long.long s.steady.word c.in_ok-long.ensures s.steady
    (omega (arith, s.step, c.in_ok-long.ensures.step_in))

word_made : (ops : List Op) (count times : ℕ) (w t r : Word) → IsLeading ops count times → Slow ops count times w → IsHeld times w t → IsShortened t r → IsWordOf ops r
word_made ops count times w t r lead s held shortened =
    let few : t.step_in ≤ 2 ^ 32 = (let p = s.step in let e = held.step_in in omega (arith, p, e)) in
    word_shortest ops t r (steady_held times lead.some w t s.steady.word held s.steady few)
    (λ n. operand_held times lead.some w t s.steady.word held n ∙ s.at (n / times) ∙ sym (lead.walks n)) shortened

pub returns : goal.returns
returns c =
    let lead = c.leading_rates-operators.ensures in
    let s = slow c.args.ops.now _ _ c.in_ok-slow.slow c.requires.few c.requires.counts lead _ (take_rest c.args.ops.now c.leading_rates-operators.result.operators) c.in_ok-slow.ensures in
    word_made c.args.ops.now c.leading_rates-operators.result.operators c.leading_rates-operators.result.times c.in_ok-slow.slow c.in_ok-long.long c.in_ok-word.word
    lead s c.in_ok-long.ensures c.in_ok-word.ensures

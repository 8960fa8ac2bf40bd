-- How the numbers of a word go on from turn to turn, and what operators make of them.
use Rattle.prl_base.proofs.Standard.{◌≡◌, ◌+◌, ◌*◌, ◌/◌, ◌<◌, ◌≤◌, ◌++◌, ℕ, List, [], ◌∷◌, refl, sym, ◌∙◌, ap, arith, add-mul-div_right, div-mul_cancel, div-le_self, IsGcd}
use Rattle.prl_base.specs.Operators.{Origin, instance, constant, origin_of}
use Rattle.prl_base.specs.declared.operators.Op.{Op}
use Rattle.prl_base.specs.declared.operators.Op.TheVariants as operators
use Rattle.prl_plan.specs.Operands.{walk, operand_at}
use Rattle.prl_plan.specs.declared.walks.Operand.{Operand}
use Rattle.prl_plan.specs.declared.walks.Operand.TheVariants as operands
use Rattle.prl_words.specs.code.Steps.{number_before, IsPast, IsStep}

-- what an operand is under one more operator
abbrev pub seen_through : Op → Operand → Operand
seen_through op (operands.Const c) = operands.Const c
seen_through op (operands.From m) = operand_at (λ k. operands.From k) (origin_of op m)

after_first : (front : List Op) (op : Op) → ((m : ℕ) → walk (front ++ op ∷ []) m ≡ seen_through op (walk front m)) →
    (o : Origin) → operand_at (walk (front ++ op ∷ [])) o ≡ seen_through op (operand_at (walk front) o)
after_first front op rest (instance m) = rest m
after_first front op rest (constant c) = refl

at_end : (o : Origin) → operand_at (walk []) o ≡ operand_at (λ k. operands.From k) o
at_end (instance m) = refl
at_end (constant c) = refl

pub walk_more : (front : List Op) (op : Op) (n : ℕ) → walk (front ++ op ∷ []) n ≡ seen_through op (walk front n)
walk_more [] op n = at_end (origin_of op n)
walk_more (x ∷ front) op n = after_first front op (λ m. walk_more front op m) (origin_of x n)

-- both parts over the greatest common divisor, multiplied crosswise
pub crosswise : (k step g : ℕ) → IsGcd k step g → k / g * step ≡ k * (step / g)
crosswise k step g gcd =
    let a : k / g * g ≡ k = div-mul_cancel g gcd.0 in
    let b : step / g * g ≡ step = div-mul_cancel g gcd.1 in
    let c : k / g * step ≡ k / g * (step / g * g) = ap (λ (x : ℕ). k / g * x) (sym b) in
    let d : k / g * (step / g * g) ≡ k / g * g * (step / g) = omega arith in
    let e : k / g * g * (step / g) ≡ k * (step / g) = ap (λ (x : ℕ). x * (step / g)) a in
    c ∙ d ∙ e

-- an operator takes numbers that are whole turns apart to numbers that are as many new turns apart
pub turns_before : (op : Op) (step rounds after : ℕ) → 1 ≤ rounds → IsStep op step rounds after → (x turns : ℕ) → IsPast op x →
    number_before op (x + turns * (rounds * step)) ≡ number_before op x + turns * after
turns_before (operators.Up k) step rounds after some is x turns past =
    let e : rounds * step ≡ k * after = ap (λ (r : ℕ). r * step) is.2 ∙ crosswise k step is.0 is.1 ∙ ap (λ (r : ℕ). k * r) (sym is.3) in
    let f : turns * (rounds * step) ≡ turns * (k * after) = ap (λ (r : ℕ). turns * r) e in
    let h : turns * (k * after) ≡ turns * after * k = omega arith in
    let pos : 0 < k = omega (arith, div-le_self k is.0, some, is.2) in
    ap (λ (y : ℕ). (x + y) / k) (f ∙ h) ∙ add-mul-div_right x (turns * after) pos
turns_before (operators.Down k) step rounds after some is x turns past =
    let r : turns * (rounds * step) ≡ turns * (1 * step) = ap (λ (y : ℕ). turns * (y * step)) is.0 in
    let a : turns * after ≡ turns * (k * step) = ap (λ (y : ℕ). turns * y) is.1 in
    let e : k * (x + turns * (rounds * step)) ≡ k * (x + turns * (1 * step)) = ap (λ (y : ℕ). k * (x + y)) r in
    let h : k * (x + turns * (1 * step)) ≡ k * x + turns * (k * step) = omega arith in
    omega (arith, e, h, a)
turns_before (operators.Shift q) step rounds after some is x turns past = same step rounds after is.0 is.1 turns x
  where
    same : (step rounds after : ℕ) → rounds ≡ 1 → after ≡ step → (turns x : ℕ) → x + turns * (rounds * step) ≡ x + turns * after
    same step rounds after one is turns x =
        let r : turns * (rounds * step) ≡ turns * (1 * step) = ap (λ (y : ℕ). turns * (y * step)) one in
        let a : turns * after ≡ turns * step = ap (λ (y : ℕ). turns * y) is in
        omega (arith, r, a)
turns_before operators.Tail step rounds after some is x turns past =
    let r : turns * (rounds * step) ≡ turns * (1 * step) = ap (λ (y : ℕ). turns * (y * step)) is.0 in
    let a : turns * after ≡ turns * step = ap (λ (y : ℕ). turns * y) is.1 in
    omega (arith, r, a)
turns_before (operators.Cons c) step rounds after some is x turns past =
    let r : turns * (rounds * step) ≡ turns * (1 * step) = ap (λ (y : ℕ). turns * (y * step)) is.0 in
    let a : turns * after ≡ turns * step = ap (λ (y : ℕ). turns * y) is.1 in
    omega (arith, r, a, past)
turns_before (operators.Fby c) step rounds after some is x turns past =
    let r : turns * (rounds * step) ≡ turns * (1 * step) = ap (λ (y : ℕ). turns * (y * step)) is.0 in
    let a : turns * after ≡ turns * step = ap (λ (y : ℕ). turns * y) is.1 in
    omega (arith, r, a, past)

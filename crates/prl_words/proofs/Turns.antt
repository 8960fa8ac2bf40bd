-- Whole turns in a hyperperiod, and how large the numbers of a word become.
use Prim.Native.Nat.{◌∣◌}
use Rattle.prl_base.proofs.Standard.{◌≡◌, ◌+◌, ◌*◌, ◌/◌, ◌%◌, ◌<◌, ◌≤◌, ℕ, zero, suc, sym, ◌∙◌, ap, subst, arith, slice_index, mul-le-mul_left, mul-le-mul_right, div-mul_cancel, dvd-mul_right}
use Rattle.prl_base.proofs.Standard.{eq_of_mul-eq-mul_right, div-zero, mod_below, div_below, le-div, IsGcd, IsGcd-swap}
use Rattle.prl_base.proofs.Coprime.{divides_other, quotients_coprime}
use Rattle.prl_base.specs.declared.operators.Op.{Op}
use Rattle.prl_base.specs.declared.operators.Op.TheVariants as operators
use Rattle.prl_plan.specs.Words.{number_at}
use Rattle.prl_plan.specs.declared.words.Word.{Word}
use Rattle.prl_words.specs.Vocabulary.{IsCountBefore, number_before, IsStep}

-- a product that is not 0 has no factor 0
pub first_some : (a b whole : ℕ) → whole ≡ a * b → 1 ≤ whole → 1 ≤ a
first_some zero b whole is some = absurd (let e : zero * b ≡ 0 = omega arith in omega (arith, is, some, e))
first_some (suc a) b whole is some = omega arith

pub second_some : (a b whole : ℕ) → whole ≡ a * b → 1 ≤ whole → 1 ≤ b
second_some a b whole is some = first_some b a whole (let e : a * b ≡ b * a = omega arith in is ∙ e) some

-- So many turns of the word are `rounds` times as many of the longer one, and these give the instances before.
pub record AreTurns (rounds after turns before : ℕ) : Type 0 where
  pub longer : ℕ
  pub turns_are : turns ≡ rounds * longer
  pub before_is : before ≡ after * longer

turns_up : (k step turns rounds after count before g : ℕ) → IsGcd k step g → rounds ≡ k / g → after ≡ step / g → count ≡ step * turns →
    count ≡ k * before → 1 ≤ count → AreTurns rounds after turns before
turns_up k step turns rounds after count before g gcd rounds_are after_is count_is factor some =
    let f = k / g in
    let o = step / g in
    let k_is : f * g ≡ k = div-mul_cancel g gcd.0 in
    let step_is : o * g ≡ step = div-mul_cancel g gcd.1 in
    let k_some : 1 ≤ k = first_some k before count factor some in
    let g_some : 1 ≤ g = second_some f g k (sym k_is) k_some in
    let f_some : 1 ≤ f = first_some f g k (sym k_is) k_some in
    let both : step * turns ≡ k * before = sym count_is ∙ factor in
    let left : step * turns ≡ o * turns * g = (ap (λ (x : ℕ). x * turns) (sym step_is) ∙ (let e : o * g * turns ≡ o * turns * g = omega arith in e)) in
    let right : k * before ≡ f * before * g = (ap (λ (x : ℕ). x * before) (sym k_is) ∙ (let e : f * g * before ≡ f * before * g = omega arith in e)) in
    let cross : f * before ≡ o * turns = eq_of_mul-eq-mul_right g g_some (f * before) (o * turns) (sym right ∙ sym both ∙ left) in
    let P : ℕ → Type 0 = λ n. f ∣ n in
    let divides : f ∣ turns = divides_other o f turns (IsGcd-swap (k / g) (step / g) 1 (quotients_coprime k step g g_some gcd)) (subst P cross (dvd-mul_right f before)) in
    let longer = turns / f in
    let turns_is : longer * f ≡ turns = div-mul_cancel f divides in
    let again : before * f ≡ o * longer * f =
    ((let e : before * f ≡ f * before = omega arith in e) ∙ cross ∙ ap (λ (x : ℕ). o * x) (sym turns_is) ∙ (let e : o * (longer * f) ≡ o * longer * f = omega arith in e)) in
    let before_is : before ≡ o * longer = eq_of_mul-eq-mul_right f f_some before (o * longer) again in
    record {
      longer = longer;
      turns_are = (sym turns_is ∙ (let e : longer * f ≡ f * longer = omega arith in e)) ∙ ap (λ (x : ℕ). x * longer) (sym rounds_are);
      before_is = before_is ∙ ap (λ (x : ℕ). x * longer) (sym after_is);
    }

turns_same : (step turns rounds after count before : ℕ) → rounds ≡ 1 → after ≡ step → count ≡ step * turns → before ≡ count → AreTurns rounds after turns before
turns_same step turns rounds after count before one is count_is before_is =
    record {
      longer = turns;
      turns_are = (let e : turns ≡ 1 * turns = omega arith in e) ∙ ap (λ (x : ℕ). x * turns) (sym one);
      before_is = before_is ∙ count_is ∙ ap (λ (x : ℕ). x * turns) (sym is);
    }

pub turns_after : (op : Op) (step turns rounds after count before : ℕ) → IsStep op step rounds after → count ≡ step * turns → IsCountBefore op count before →
    1 ≤ count → AreTurns rounds after turns before
turns_after (operators.Up k) step turns rounds after count before is count_is factor some =
    turns_up k step turns rounds after count before is.0 is.1 is.2 is.3 count_is factor some
turns_after (operators.Down k) step turns rounds after count before is count_is factor some =
    record {
      longer = turns;
      turns_are = (let e : turns ≡ 1 * turns = omega arith in e) ∙ ap (λ (x : ℕ). x * turns) (sym is.0);
      before_is = factor ∙ ap (λ (x : ℕ). k * x) count_is ∙ (let e : k * (step * turns) ≡ k * step * turns = omega arith in e) ∙ ap (λ (x : ℕ). x * turns) (sym is.1);
    }
turns_after (operators.Shift q) step turns rounds after count before is count_is factor some = turns_same step turns rounds after count before is.0 is.1 count_is factor
turns_after operators.Tail step turns rounds after count before is count_is factor some = turns_same step turns rounds after count before is.0 is.1 count_is factor
turns_after (operators.Cons c) step turns rounds after count before is count_is factor some = turns_same step turns rounds after count before is.0 is.1 count_is factor
turns_after (operators.Fby c) step turns rounds after count before is count_is factor some = turns_same step turns rounds after count before is.0 is.1 count_is factor

-- a factor of a product is at most the product
pub factor_le : (a b c whole : ℕ) → whole ≡ a * (b * c) → 1 ≤ whole → a * b ≤ whole
factor_le a b c whole is some =
    let e : a * (b * c) ≡ a * b * c = omega arith in
    let one : 1 ≤ c = second_some (a * b) c whole (is ∙ e) some in
    let up : a * b * 1 ≤ a * b * c = mul-le-mul_left (a * b) one in
    omega (arith, is, e, up)

-- the numbers of the first turns
pub number_upto : (w : Word) (most i turns : ℕ) → 1 ≤ w.step_in → ((k : ℕ) → k < w.step_in → slice_index w.repeat k ≤ most) →
    i < (turns + 1) * w.step_in → number_at w i ≤ most + turns * w.step_out
number_upto w most i turns some below within =
    let part : i % w.step_in < w.step_in = mod_below i w.step_in some in
    let turn : i / w.step_in < turns + 1 = div_below i w.step_in (turns + 1) some within in
    let up : i / w.step_in * w.step_out ≤ turns * w.step_out = mul-le-mul_right w.step_out (let h : i / w.step_in ≤ turns = omega arith in h) in
    omega (arith, below (i % w.step_in) part, up)

-- later numbers are no lower under an operator
pub before_rises : (op : Op) (x y : ℕ) → x ≤ y → number_before op x ≤ number_before op y
before_rises (operators.Up zero) x y h = let a : x / 0 ≡ 0 = div-zero x in omega (arith, a)
before_rises (operators.Up (suc k)) x y h =
    le-div (x / suc k) y (suc k) (omega arith) (let d : suc k * (x / suc k) + x % suc k ≡ x = omega arith in let e : suc k * (x / suc k) ≡ x / suc k * suc k = omega arith in omega (arith, d, e, h))
before_rises (operators.Down k) x y h = mul-le-mul_left k h
before_rises (operators.Shift q) x y h = h
before_rises operators.Tail x y h = omega arith
before_rises (operators.Cons c) x y h = omega arith
before_rises (operators.Fby c) x y h = omega arith

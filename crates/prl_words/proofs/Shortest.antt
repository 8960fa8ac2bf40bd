-- The least step by which a word climbs is that by which its gaps come again.
use Rattle.prl_base.proofs.Standard.{◌≡◌, ◌+◌, ◌-◌, ◌*◌, ◌/◌, ◌%◌, ◌<◌, ◌≤◌, ℕ, zero, suc, List, Some, sym, ◌∙◌, ap, arith, length, slice_index, slice_get, mod-add-div', mod_below, get_or-take}
use Rattle.prl_base.proofs.Standard.{slice_get-get_or, same_Some}
use Rattle.std.proofs.Common.{length-take-le}
use Rattle.prl_base.specs.declared.values.Value.{Value}
use Rattle.prl_plan.specs.declared.walks.Operand.TheVariants as operands
use Rattle.prl_plan.specs.Vocabulary.{ComesAgain, IsLeastRepeat, number_at, word_at, constant_or, IsWord}
use Rattle.prl_plan.specs.declared.words.Word.{Word}
use Rattle.prl_words.specs.code.Shortest.{ClimbsBy, rise_of, IsSteady, AreGaps, IsShortestStep, IsShortened}
use Rattle.prl_plan.proofs.WordNumbers.{next_turns}
use Rattle.prl_words.proofs.Rooms.{number_first}

module _ (w : Word) (steady : IsSteady w) (gaps : List ℕ) (are : AreGaps w gaps) where
  -- the gap after number i, in any turn
  next_number : (i : ℕ) → number_at w (i + 1) ≡ number_at w i + slice_index gaps (i % length gaps)
  next_number i =
      let word = steady.word in
      let part = i % w.step_in in
      let turn = i / w.step_in in
      let whole : part + turn * w.step_in ≡ i = mod-add-div' i w.step_in in
      let here : number_at w (part + turn * w.step_in) ≡ number_at w part + turn * w.step_out = next_turns w word.some part turn in
      let there : number_at w (part + 1 + turn * w.step_in) ≡ number_at w (part + 1) + turn * w.step_out = next_turns w word.some (part + 1) turn in
      let gap : number_at w (part + 1) ≡ number_at w part + slice_index gaps part = are.each part (mod_below i w.step_in word.some) in
      let a : number_at w i ≡ number_at w (part + turn * w.step_in) = ap (λ (k : ℕ). number_at w k) (sym whole) in
      let b : number_at w (i + 1) ≡ number_at w (part + 1 + turn * w.step_in) =
      ap (λ (k : ℕ). number_at w k) (let e : i + 1 ≡ part + 1 + turn * w.step_in = omega (arith, whole) in e) in
      let c : slice_index gaps (i % length gaps) ≡ slice_index gaps part = ap (λ (l : ℕ). slice_index gaps (i % l)) are.long in
      omega (arith, here, there, gap, a, b, c)

  some_gap : 1 ≤ length gaps
  some_gap = (let l = are.long in let s = steady.word.some in omega (arith, l, s))

  -- where the gaps come again, the word climbs
  again_climbs : (step : ℕ) → ComesAgain gaps step → (i : ℕ) → number_at w (i + step) ≡ number_at w i + rise_of w step
  again_climbs step again zero =
      let no_fall : number_at w 0 ≤ number_at w step = steady.rises 0 step (omega arith) in
      let e : number_at w (0 + step) ≡ number_at w step = ap (λ (k : ℕ). number_at w k) (let z : 0 + step ≡ step = omega arith in z) in
      omega (arith, no_fall, e)
  again_climbs step again (suc i) =
      let before = again_climbs step again i in
      let first = next_number i in
      let second = next_number (i + step) in
      let x : slice_get gaps ((i + step) % length gaps) ≡ Some (slice_index gaps ((i + step) % length gaps)) =
      slice_get-get_or gaps ((i + step) % length gaps) 0 (mod_below (i + step) (length gaps) some_gap) in
      let y : slice_get gaps (i % length gaps) ≡ Some (slice_index gaps (i % length gaps)) =
      slice_get-get_or gaps (i % length gaps) 0 (mod_below i (length gaps) some_gap) in
      let same : slice_index gaps ((i + step) % length gaps) ≡ slice_index gaps (i % length gaps) =
      same_Some (slice_index gaps ((i + step) % length gaps)) (slice_index gaps (i % length gaps)) (sym x ∙ again i ∙ y) in
      let a : number_at w (suc i + step) ≡ number_at w (i + step + 1) = ap (λ (k : ℕ). number_at w k) (let e : suc i + step ≡ i + step + 1 = omega arith in e) in
      let b : number_at w (suc i) ≡ number_at w (i + 1) = ap (λ (k : ℕ). number_at w k) (let e : suc i ≡ i + 1 = omega arith in e) in
      omega (arith, before, first, second, same, a, b)

  -- and where the word climbs, the gaps come again
  climbs_again : (step higher : ℕ) → ClimbsBy w step higher → ComesAgain gaps step
  climbs_again step higher climbs n =
      let first = next_number n in
      let second = next_number (n + step) in
      let here = climbs.each n in
      let there = climbs.each (n + 1) in
      let a : number_at w (n + 1 + step) ≡ number_at w (n + step + 1) = ap (λ (k : ℕ). number_at w k) (let e : n + 1 + step ≡ n + step + 1 = omega arith in e) in
      let same : slice_index gaps ((n + step) % length gaps) ≡ slice_index gaps (n % length gaps) = omega (arith, first, second, here, there, a) in
      slice_get-get_or gaps ((n + step) % length gaps) 0 (mod_below (n + step) (length gaps) some_gap) ∙ ap (λ (x : ℕ). Some x) same
      ∙ sym (slice_get-get_or gaps (n % length gaps) 0 (mod_below n (length gaps) some_gap))

  pub shortest_step : (step : ℕ) → IsLeastRepeat gaps step → IsShortestStep w step
  shortest_step step is = record {
    some = is.some;
    within = (let l = are.long in let f = is.within in omega (arith, l, f));
    climbs = record { each = again_climbs step is.again };
    least = λ other higher some climbs. is.shortest.least other some (climbs_again other higher climbs);
  }

-- many times as many jobs later, as many times higher
pub climbs_often : (w : Word) (jobs higher : ℕ) → ClimbsBy w jobs higher → (times i : ℕ) → number_at w (i + times * jobs) ≡ number_at w i + times * higher
climbs_often w jobs higher c zero i =
    let a : i + zero * jobs ≡ i = omega arith in
    let e : number_at w (i + zero * jobs) ≡ number_at w i = ap (λ (k : ℕ). number_at w k) a in
    let b : zero * higher ≡ 0 = omega arith in
    omega (arith, e, b)
climbs_often w jobs higher c (suc times) i =
    let a : i + suc times * jobs ≡ i + times * jobs + jobs = omega arith in
    let e : number_at w (i + suc times * jobs) ≡ number_at w (i + times * jobs + jobs) = ap (λ (k : ℕ). number_at w k) a in
    let rest = climbs_often w jobs higher c times i in
    let last = c.each (i + times * jobs) in
    let b : suc times * higher ≡ times * higher + higher = omega arith in
    omega (arith, e, rest, last, b)

-- the shorter list tells the same numbers
pub number_shortened : (w t : Word) → IsSteady w → IsShortened w t → (i : ℕ) → number_at t i ≡ number_at w i
number_shortened w t steady s i =
    let c : ClimbsBy w t.step_in (rise_of w t.step_in) = s.shortest.climbs in
    let part = i % t.step_in in
    let turn = i / t.step_in in
    let within : part < t.step_in = mod_below i t.step_in s.shortest.some in
    let listed : slice_index t.repeat part ≡ slice_index w.repeat part =
    ap (λ (xs : List ℕ). slice_index xs part) s.repeat ∙ get_or-take t.step_in w.repeat part 0 within in
    let first : number_at w part ≡ slice_index w.repeat part = number_first w part (omega (arith, within, s.shortest.within)) in
    let often : number_at w (part + turn * t.step_in) ≡ number_at w part + turn * rise_of w t.step_in = climbs_often w t.step_in (rise_of w t.step_in) c turn part in
    let whole : part + turn * t.step_in ≡ i = mod-add-div' i t.step_in in
    let same : number_at w (part + turn * t.step_in) ≡ number_at w i = ap (λ (k : ℕ). number_at w k) whole in
    let step : turn * t.step_out ≡ turn * rise_of w t.step_in = ap (λ (k : ℕ). turn * k) s.step_out in
    omega (arith, listed, first, often, same, step)

pub word_shortened : (w t : Word) → IsSteady w → IsShortened w t → IsWord t
word_shortened w t steady s =
    record {
      some = s.shortest.some;
      long = ap length s.repeat ∙ length-take-le t.step_in w.repeat (omega (arith, s.shortest.within, steady.word.long));
    }

pub operand_shortened : (w t : Word) → IsSteady w → IsShortened w t → (n : ℕ) → word_at t n ≡ word_at w n
operand_shortened w t steady s n =
    let number : number_at t (n - length t.prefix) ≡ number_at w (n - length w.prefix) =
    number_shortened w t steady s (n - length t.prefix) ∙ ap (λ (xs : List Value). number_at w (n - length xs)) s.prefix in
    ap (λ (xs : List Value). constant_or (slice_get xs n) (operands.From (number_at t (n - length t.prefix)))) s.prefix
    ∙ ap (λ (k : ℕ). constant_or (slice_get w.prefix n) (operands.From k)) number

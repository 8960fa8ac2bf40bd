-- What the room for one more operator gives: which numbers are zeros, and that all numbers fit.
use Rattle.prl_base.proofs.Standard.{◌≡◌, ◌+◌, ◌*◌, ◌/◌, ◌%◌, ◌<◌, ◌≤◌, ◌^◌, ℕ, inl, inr, refl, sym, ◌∙◌, ap, arith, length, slice_index, mul-le-mul_left, mul-le-mul_right, div-eq_of_lt, mod-add-div'}
use Rattle.prl_base.proofs.Standard.{div-mul_cancel, cases_lt, IsGcd}
use Rattle.prl_base.specs.declared.operators.Op.{Op}
use Rattle.prl_base.specs.declared.operators.Op.TheVariants as operators
use Rattle.prl_plan.specs.Words.{number_at, IsWord}
use Rattle.prl_plan.specs.declared.words.Word.{Word}
use Rattle.prl_words.specs.Vocabulary.{IsCountBefore, IsPast, FitsBefore, IsStep, AreBefore, AreZeros, HasRoom}
use Rattle.prl_plan.proofs.WordNumbers.{next_turns}
use Rattle.prl_words.proofs.Turns.{AreTurns, first_some, second_some, turns_after, factor_le, number_upto}

pub gcd_some : (k step g : ℕ) → 1 ≤ k → IsGcd k step g → 1 ≤ g
gcd_some k step g some gcd = second_some (k / g) g k (sym (div-mul_cancel g gcd.0)) some

-- the numbers of the first turn are those listed
pub number_first : (w : Word) (i : ℕ) → i < w.step_in → number_at w i ≡ slice_index w.repeat i
number_first w i within =
    let none : i / w.step_in ≡ 0 = div-eq_of_lt within in
    let zero_is : i / w.step_in * w.step_in ≡ 0 * w.step_in = ap (λ (x : ℕ). x * w.step_in) none in
    let whole : i % w.step_in + i / w.step_in * w.step_in ≡ i = mod-add-div' i w.step_in in
    let part : i % w.step_in ≡ i = omega (arith, zero_is, whole) in
    let first : slice_index w.repeat (i % w.step_in) ≡ slice_index w.repeat i = ap (λ (k : ℕ). slice_index w.repeat k) part in
    let rest : i / w.step_in * w.step_out ≡ 0 * w.step_out = ap (λ (x : ℕ). x * w.step_out) none in
    omega (arith, first, rest)

past_any : (op : Op) (x : ℕ) → 1 ≤ x → IsPast op x
past_any (operators.Up k) x some = tt
past_any (operators.Down k) x some = tt
past_any (operators.Shift q) x some = tt
past_any operators.Tail x some = tt
past_any (operators.Cons c) x some = some
past_any (operators.Fby c) x some = some

pub zeros_found : (op : Op) (w : Word) → HasRoom op w → (found : ℕ) → AreZeros op found → found ≤ length w.repeat →
    ((i : ℕ) → i < found → slice_index w.repeat i ≡ 0) → (found < length w.repeat → 1 ≤ slice_index w.repeat found) → AreBefore op w found
zeros_found op w room found only few zeros next =
    let word : IsWord w = room.sized.word in
    let out_some : 1 ≤ w.step_out = first_some w.step_out room.sized.turns room.count room.sized.count_is room.count_fits.0 in
    let first : 1 ≤ number_at w found = elim (cases_lt found w.step_in) [
      | inl within ↦
          (let listed = number_first w found within in
          let some : 1 ≤ slice_index w.repeat found = next (omega (arith, within, word.long)) in
          omega (arith, listed, some))
      | inr all ↦
          (let one : 0 + 1 * w.step_in ≡ found = omega (arith, all, few, word.long) in
          let turn : number_at w (0 + 1 * w.step_in) ≡ number_at w 0 + 1 * w.step_out = next_turns w word.some 0 1 in
          let same : number_at w (0 + 1 * w.step_in) ≡ number_at w found = ap (λ (k : ℕ). number_at w k) one in
          omega (arith, turn, same, out_some))
    ] in
    record {
      few = omega (arith, few, word.long);
      only = only;
      zero = λ i h. number_first w i (omega (arith, h, few, word.long)) ∙ zeros i h;
      past = λ i h. past_any op (number_at w i) (let later : number_at w found ≤ number_at w i = room.sized.rises found i h in omega (arith, first, later));
    }

-- what fits where there is room
pub record Fits (op : Op) (w : Word) (zeros rounds : ℕ) : Type 0 where
  pub jobs : rounds * w.step_in ≤ 10000000
  pub range : zeros + rounds * w.step_in < 2 ^ 64
  pub some : 1 ≤ rounds * w.step_in
  pub each : (k : ℕ) → k < rounds * w.step_in → (number_at w (zeros + k) < 2 ^ 64) × FitsBefore op (number_at w (zeros + k))

-- an operator that keeps the table, where no number is a zero
fits_before : (op : Op) (w : Word) (zeros rounds after count before done k : ℕ) → IsWord w → IsStep op w.step_out rounds after → IsCountBefore op count before →
    AreBefore op w zeros → k < rounds * w.step_in → count ≤ 10000000 → before ≤ 10000000 → 1 ≤ count → done < 2 ^ 32 →
    ((j : ℕ) → j < w.step_in → slice_index w.repeat j ≤ (done + 1) * count) → number_at w (zeros + k) < 2 ^ 63 → FitsBefore op (number_at w (zeros + k))
fits_before (operators.Up f) w none rounds after count before done k word is factor are within few least some done_few below small = first_some f before count factor some
fits_before (operators.Down f) w zeros rounds after count before done k word is factor are within few least some done_few below small =
    let one : rounds * w.step_in ≡ 1 * w.step_in = ap (λ (y : ℕ). y * w.step_in) is.0 in
    let x = number_at w (zeros + k) in
    let up : x ≤ (done + 1) * count + 0 * w.step_out =
    number_upto w ((done + 1) * count) (zeros + k) 0 word.some below (omega (arith, are.only, within, one)) in
    let high : f * x ≤ f * ((done + 1) * count) = mul-le-mul_left f (omega (arith, up)) in
    let turned : f * ((done + 1) * count) ≡ (done + 1) * (f * count) = omega arith in
    let whole : (done + 1) * (f * count) ≡ (done + 1) * before = ap (λ (y : ℕ). (done + 1) * y) (sym factor) in
    let most : (done + 1) * before ≤ (done + 1) * 10000000 = mul-le-mul_left (done + 1) least in
    omega (arith, high, turned, whole, most, done_few)
fits_before (operators.Shift q) w none rounds after count before done k word is factor are within few least some done_few below small = tt
fits_before operators.Tail w z rounds after count before done k word is factor are within few least some done_few below small = omega (arith, small)
fits_before (operators.Cons c) w zeros rounds after count before done k word is factor are within few least some done_few below small = are.past (zeros + k) (omega arith)
fits_before (operators.Fby c) w zeros rounds after count before done k word is factor are within few least some done_few below small = are.past (zeros + k) (omega arith)

pub room_fits : (op : Op) (w : Word) → (room : HasRoom op w) → (zeros rounds after : ℕ) → IsStep op w.step_out rounds after → AreBefore op w zeros → Fits op w zeros rounds
room_fits op w room zeros rounds after is are =
    let s = room.sized in
    let turned : AreTurns rounds after s.turns room.before =
    turns_after op w.step_out s.turns rounds after room.count room.before is s.count_is room.step room.count_fits.0 in
    let longer = turned.longer in
    let jobs_is : room.jobs ≡ w.step_in * (rounds * longer) = s.jobs_are ∙ ap (λ (x : ℕ). w.step_in * x) turned.turns_are in
    let jobs_le : w.step_in * rounds ≤ room.jobs = factor_le w.step_in rounds longer room.jobs jobs_is room.jobs_fit.0 in
    let swapped : rounds * w.step_in ≡ w.step_in * rounds = omega arith in
    let count_is : room.count ≡ w.step_out * (rounds * longer) = s.count_is ∙ ap (λ (x : ℕ). w.step_out * x) turned.turns_are in
    let least : w.step_out * rounds ≤ room.count = factor_le w.step_out rounds longer room.count count_is room.count_fits.0 in
    let turns_some : 1 ≤ rounds * longer = second_some w.step_in (rounds * longer) room.jobs jobs_is room.jobs_fit.0 in
    let rounds_some : 1 ≤ rounds = first_some rounds longer (rounds * longer) refl turns_some in
    let step_le : w.step_in ≤ rounds * w.step_in = (let up : 1 * w.step_in ≤ rounds * w.step_in = mul-le-mul_right w.step_in rounds_some in omega (arith, up)) in
    let many : (room.done + 1) * room.count ≤ (room.done + 1) * 10000000 = mul-le-mul_left (room.done + 1) room.count_fits.1 in
    record {
      jobs = omega (arith, swapped, jobs_le, room.jobs_fit.1);
      range = omega (arith, swapped, jobs_le, room.jobs_fit.1, are.few, step_le);
      some = omega (arith, step_le, s.word.some);
      each = λ k h. (let x = number_at w (zeros + k) in
          let two : (rounds + 1) * w.step_in ≡ rounds * w.step_in + w.step_in = omega arith in
          let turned_over : rounds * w.step_out ≡ w.step_out * rounds = omega arith in
          let up : x ≤ (room.done + 1) * room.count + rounds * w.step_out =
          number_upto w ((room.done + 1) * room.count) (zeros + k) rounds s.word.some s.below (omega (arith, h, two, are.few)) in
          let small : x < 2 ^ 63 = omega (arith, up, turned_over, least, many, room.count_fits.1, room.few) in (
            omega (arith, small),
            fits_before op w zeros rounds after room.count room.before room.done k s.word is room.step are h room.count_fits.1 room.before_fits.1 room.count_fits.0 room.few s.below small,
          ));
    }

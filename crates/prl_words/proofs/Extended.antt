-- A word with one more operator is the word of one operator more.
use Rattle.prl_base.proofs.Standard.{◌≡◌, ◌+◌, ◌-◌, ◌*◌, ◌/◌, ◌%◌, ◌<◌, ◌≤◌, ◌++◌, ℕ, zero, suc, List, [], ◌∷◌, Option, Some, inl, inr, refl, sym, ◌∙◌, ap, arith, length, get_or, slice_get}
use Rattle.prl_base.proofs.Standard.{slice_index, length-append, replicate, pos, mul-le-mul_left, div-le_of_le-mul, mod-add-div', mod_below, cases_lt, length-replicate, slice_get-get_or}
use Rattle.prl_base.specs.declared.operators.Op.{Op}
use Rattle.prl_base.specs.declared.values.Value.{Value}
use Rattle.prl_base.specs.declared.operators.Op.TheVariants as operators
use Rattle.prl_base.specs.declared.values.Value.TheVariants as values
use Rattle.prl_plan.specs.Vocabulary.{walk, number_at, word_at, constant_or, IsWord}
use Rattle.prl_plan.specs.declared.walks.Operand.{Operand}
use Rattle.prl_plan.specs.declared.words.Word.{Word}
use Rattle.prl_plan.specs.declared.walks.Operand.TheVariants as operands
use Rattle.prl_words.specs.Vocabulary.{IsCountBefore, number_before, IsPast, IsStep, AreZeros, IsExtended, IsSized, constants_of}
use Rattle.prl_plan.proofs.WordNumbers.{after_prefix, next_turns}
use Rattle.prl_words.proofs.Climbs.{seen_through, walk_more, turns_before}
use Rattle.prl_words.proofs.Turns.{AreTurns, first_some, turns_after, factor_le, number_upto, before_rises}

-- each number of the new word is that of the old one after the zeros, as the operator has it
pub number_extended : (op : Op) (w t : Word) → IsWord w → 1 ≤ t.step_in → (e : IsExtended op w t) → (i : ℕ) →
    number_at t i ≡ number_before op (number_at w (e.zeros + i))
number_extended op w t word some e i =
    let part = i % t.step_in in
    let turn = i / t.step_in in
    let rounds_some : 1 ≤ e.rounds = first_some e.rounds w.step_in t.step_in e.step_in some in
    let x = number_at w (e.zeros + part) in
    let first : slice_index t.repeat part ≡ number_before op x = e.numbers.each part (mod_below i t.step_in some) in
    let here : number_before op (x + turn * (e.rounds * w.step_out)) ≡ number_before op x + turn * t.step_out =
    turns_before op w.step_out e.rounds t.step_out rounds_some e.step x turn (e.before.past (e.zeros + part) (omega arith)) in
    let later : number_at w (e.zeros + part + turn * e.rounds * w.step_in) ≡ x + turn * e.rounds * w.step_out =
    next_turns w word.some (e.zeros + part) (turn * e.rounds) in
    let whole : part + turn * t.step_in ≡ i = mod-add-div' i t.step_in in
    let long : turn * t.step_in ≡ turn * (e.rounds * w.step_in) = ap (λ (y : ℕ). turn * y) e.step_in in
    let spread : turn * (e.rounds * w.step_in) ≡ turn * e.rounds * w.step_in = omega arith in
    let index : e.zeros + part + turn * e.rounds * w.step_in ≡ e.zeros + i = omega (arith, whole, long, spread) in
    let higher : x + turn * (e.rounds * w.step_out) ≡ x + turn * e.rounds * w.step_out =
    (let s : turn * (e.rounds * w.step_out) ≡ turn * e.rounds * w.step_out = omega arith in omega (arith, s)) in
    ap (λ (y : ℕ). y + turn * t.step_out) first ∙ sym here
    ∙ ap (λ (y : ℕ). number_before op y) (higher ∙ sym later ∙ ap (λ (y : ℕ). number_at w y) index)

get_left : (xs ys : List Value) (n : ℕ) → n < length xs → slice_get (xs ++ ys) n ≡ slice_get xs n
get_left [] ys n h = absurd (omega (arith, h))
get_left (x ∷ xs) ys zero h = refl
get_left (x ∷ xs) ys (suc n) h = get_left xs ys n (omega (arith, h))

get_right : (xs ys : List Value) (i n : ℕ) → n ≡ length xs + i → slice_get (xs ++ ys) n ≡ slice_get ys i
get_right [] ys i n is = ap (λ (k : ℕ). slice_get ys k) (let e : n ≡ i = omega (arith, is) in e)
get_right (x ∷ xs) ys i zero is = absurd (omega (arith, is))
get_right (x ∷ xs) ys i (suc n) is = get_right xs ys i n (omega (arith, is))

get_same : (count : ℕ) (c : Value) (i : ℕ) → i < count → slice_get (replicate count c) i ≡ Some c
get_same zero c i h = absurd (omega (arith, h))
get_same (suc count) c zero h = refl
get_same (suc count) c (suc i) h = get_same count c i (omega (arith, h))

pub constants_long : (op : Op) (zeros : ℕ) → AreZeros op zeros → length (constants_of op zeros) ≡ zeros
constants_long (operators.Up k) z none = sym none
constants_long (operators.Down k) z none = sym none
constants_long (operators.Shift q) z none = sym none
constants_long operators.Tail z none = sym none
constants_long (operators.Cons c) zeros none = length-replicate zeros c
constants_long (operators.Fby c) zeros none = length-replicate zeros c

-- an instance past the constants, seen through the operator
seen_past : (op : Op) (x : ℕ) → IsPast op x → seen_through op (operands.From x) ≡ operands.From (number_before op x)
seen_past (operators.Up k) x past = refl
seen_past (operators.Down k) x past = refl
seen_past (operators.Shift q) x past = refl
seen_past operators.Tail x past = refl
seen_past (operators.Cons c) zero past = absurd (omega (arith, past))
seen_past (operators.Cons c) (suc x) past = ap (λ (k : ℕ). operands.From k) (let e : x ≡ suc x - 1 = omega arith in e)
seen_past (operators.Fby c) zero past = absurd (omega (arith, past))
seen_past (operators.Fby c) (suc x) past = ap (λ (k : ℕ). operands.From k) (let e : x ≡ suc x - 1 = omega arith in e)

-- a zero becomes the constant
seen_zero : (op : Op) (zeros i : ℕ) → AreZeros op zeros → i < zeros →
    (c : Value) × (slice_get (constants_of op zeros) i ≡ Some c) × (seen_through op (operands.From 0) ≡ operands.Const c)
seen_zero (operators.Up k) z i none below = absurd (omega (arith, none, below))
seen_zero (operators.Down k) z i none below = absurd (omega (arith, none, below))
seen_zero (operators.Shift q) z i none below = absurd (omega (arith, none, below))
seen_zero operators.Tail z i none below = absurd (omega (arith, none, below))
seen_zero (operators.Cons c) zeros i none below = (c, get_same zeros c i below, refl)
seen_zero (operators.Fby c) zeros i none below = (c, get_same zeros c i below, refl)

-- an operand from the prefix
pub told_constant : (w : Word) (n : ℕ) (c : Value) → slice_get w.prefix n ≡ Some c → word_at w n ≡ operands.Const c
told_constant w n c is = ap (λ (o : Option Value). constant_or o (operands.From (number_at w (n - length w.prefix)))) is

prefix_at : (op : Op) (w t : Word) (e : IsExtended op w t) (n : ℕ) → slice_get t.prefix n ≡ slice_get (w.prefix ++ constants_of op e.zeros) n
prefix_at op w t e n = ap (λ (xs : List Value). slice_get xs n) e.prefix

pub operand_extended : (op : Op) (w t : Word) → IsWord w → 1 ≤ t.step_in → IsExtended op w t → (n : ℕ) →
    word_at t n ≡ seen_through op (word_at w n)
operand_extended op w t word some e n =
    elim (cases_lt n (length w.prefix)) [
      | inl below ↦
          (let d : Value = values.Int (pos 0) in
          let c : Value = get_or w.prefix n d in
          let here : slice_get w.prefix n ≡ Some c = slice_get-get_or w.prefix n d below in
          let there : slice_get t.prefix n ≡ Some c = prefix_at op w t e n ∙ get_left w.prefix (constants_of op e.zeros) n below ∙ here in
          told_constant t n c there ∙ ap (λ (o : Operand). seen_through op o) (sym (told_constant w n c here)))
      | inr past ↦
          (let i = n - length w.prefix in
          let index : n ≡ length w.prefix + i = omega (arith, past) in
          let old : word_at w n ≡ operands.From (number_at w i) = after_prefix w n past in
          elim (cases_lt i e.zeros) [
            | inl zero_here ↦
                (let at = seen_zero op e.zeros i e.before.only zero_here in
                let there : slice_get t.prefix n ≡ Some at.0 =
                prefix_at op w t e n ∙ get_right w.prefix (constants_of op e.zeros) i n index ∙ at.1 in
                let zero_is : operands.From (number_at w i) ≡ operands.From 0 = ap (λ (k : ℕ). operands.From k) (e.before.zero i zero_here) in
                told_constant t n at.0 there ∙ sym at.2 ∙ ap (λ (o : Operand). seen_through op o) (sym (old ∙ zero_is)))
            | inr no_zero ↦
                (let j = i - e.zeros in
                let long : length t.prefix ≡ length w.prefix + e.zeros =
                ap length e.prefix ∙ length-append w.prefix (constants_of op e.zeros)
                ∙ ap (λ (k : ℕ). length w.prefix + k) (constants_long op e.zeros e.before.only) in
                let shifted : n - length t.prefix ≡ j = omega (arith, long, index, no_zero) in
                let told : word_at t n ≡ operands.From (number_at t (n - length t.prefix)) = after_prefix t n (omega (arith, long, index, no_zero)) in
                let same : e.zeros + j ≡ i = omega (arith, no_zero) in
                let number : number_at t (n - length t.prefix) ≡ number_before op (number_at w i) =
                ap (λ (k : ℕ). number_at t k) shifted ∙ number_extended op w t word some e j
                ∙ ap (λ (k : ℕ). number_before op (number_at w k)) same in
                told ∙ ap (λ (k : ℕ). operands.From k) number
                ∙ sym (seen_past op (number_at w i) (e.before.past i no_zero))
                ∙ ap (λ (o : Operand). seen_through op o) (sym old))
          ])
    ]

-- the word of the operators so far becomes that of one more
pub walk_extended : (op : Op) (front : List Op) (w t : Word) → IsWord w → 1 ≤ t.step_in → IsExtended op w t →
    ((n : ℕ) → word_at w n ≡ walk front n) → (n : ℕ) → word_at t n ≡ walk (front ++ op ∷ []) n
walk_extended op front w t word some e at n =
    operand_extended op w t word some e n ∙ ap (λ (o : Operand). seen_through op o) (at n) ∙ sym (walk_more front op n)

delayed : (w : Word) (zeros rounds k count before done : ℕ) → IsWord w → zeros ≤ w.step_in → k < rounds * w.step_in → rounds ≡ 1 →
    rounds * w.step_out ≤ count → before ≡ count → ((j : ℕ) → j < w.step_in → slice_index w.repeat j ≤ (done + 1) * count) →
    number_at w (zeros + k) - 1 ≤ (done + 1 + 1) * before
delayed w zeros rounds k count before done word few within one least factor below =
    let single : rounds * w.step_in ≡ 1 * w.step_in = ap (λ (y : ℕ). y * w.step_in) one in
    let step : rounds * w.step_out ≡ 1 * w.step_out = ap (λ (y : ℕ). y * w.step_out) one in
    let up : number_at w (zeros + k) ≤ (done + 1) * count + 1 * w.step_out =
    number_upto w ((done + 1) * count) (zeros + k) 1 word.some below (let two : (1 + 1) * w.step_in ≡ w.step_in + w.step_in = omega arith in omega (arith, few, within, single, two)) in
    let same : (done + 1) * count ≡ (done + 1) * before = ap (λ (y : ℕ). (done + 1) * y) (sym factor) in
    let spread : (done + 1 + 1) * before ≡ (done + 1) * before + before = omega arith in
    omega (arith, up, same, spread, step, least, factor)

-- what the numbers of one turn grow to
number_below : (op : Op) (w : Word) (zeros rounds k count before done : ℕ) → IsWord w → AreZeros op zeros → zeros ≤ w.step_in →
    k < rounds * w.step_in → (after : ℕ) → IsStep op w.step_out rounds after → rounds * w.step_out ≤ count → IsCountBefore op count before →
    ((j : ℕ) → j < w.step_in → slice_index w.repeat j ≤ (done + 1) * count) →
    1 ≤ before → number_before op (number_at w (zeros + k)) ≤ (done + 1 + 1) * before
number_below (operators.Up f) w zeros rounds k count before done word none few within after is least factor below some =
    let room : (rounds + 1) * w.step_in ≡ rounds * w.step_in + w.step_in = omega arith in
    let x = number_at w (zeros + k) in
    let up : x ≤ (done + 1) * count + rounds * w.step_out =
    number_upto w ((done + 1) * count) (zeros + k) rounds word.some below (omega (arith, none, within, room)) in
    let spread : (done + 1 + 1) * count ≡ (done + 1) * count + count = omega arith in
    let scaled : (done + 1 + 1) * count ≡ f * ((done + 1 + 1) * before) =
    (ap (λ (y : ℕ). (done + 1 + 1) * y) factor ∙ (let e : (done + 1 + 1) * (f * before) ≡ f * ((done + 1 + 1) * before) = omega arith in e)) in
    div-le_of_le-mul f (omega (arith, up, least, spread, scaled))
number_below (operators.Down f) w zeros rounds k count before done word none few within after is least factor below some =
    let one : rounds * w.step_in ≡ 1 * w.step_in = ap (λ (y : ℕ). y * w.step_in) is.0 in
    let x = number_at w (zeros + k) in
    let up : x ≤ (done + 1) * count + 0 * w.step_out =
    number_upto w ((done + 1) * count) (zeros + k) 0 word.some below (omega (arith, none, within, one)) in
    let high : f * x ≤ f * ((done + 1) * count) = mul-le-mul_left f (omega (arith, up)) in
    let turned : f * ((done + 1) * count) ≡ (done + 1) * (f * count) = omega arith in
    let whole : (done + 1) * (f * count) ≡ (done + 1) * before = ap (λ (y : ℕ). (done + 1) * y) (sym factor) in
    let spread : (done + 1 + 1) * before ≡ (done + 1) * before + before = omega arith in
    omega (arith, high, turned, whole, spread)
number_below (operators.Shift q) w zeros rounds k count before done word none few within after is least factor below some =
    let one : rounds * w.step_in ≡ 1 * w.step_in = ap (λ (y : ℕ). y * w.step_in) is.0 in
    let up : number_at w (zeros + k) ≤ (done + 1) * count + 0 * w.step_out =
    number_upto w ((done + 1) * count) (zeros + k) 0 word.some below (omega (arith, none, within, one)) in
    let same : (done + 1) * count ≡ (done + 1) * before = ap (λ (y : ℕ). (done + 1) * y) (sym factor) in
    let spread : (done + 1 + 1) * before ≡ (done + 1) * before + before = omega arith in
    omega (arith, up, same, spread)
number_below operators.Tail w zeros rounds k count before done word none few within after is least factor below some =
    let one : rounds * w.step_in ≡ 1 * w.step_in = ap (λ (y : ℕ). y * w.step_in) is.0 in
    let up : number_at w (zeros + k) ≤ (done + 1) * count + 0 * w.step_out =
    number_upto w ((done + 1) * count) (zeros + k) 0 word.some below (omega (arith, none, within, one)) in
    let same : (done + 1) * count ≡ (done + 1) * before = ap (λ (y : ℕ). (done + 1) * y) (sym factor) in
    let spread : (done + 1 + 1) * before ≡ (done + 1) * before + before = omega arith in
    omega (arith, up, same, spread, some)
number_below (operators.Cons c) w zeros rounds k count before done word none few within after is least factor below some =
    delayed w zeros rounds k count before done word few within is.0 least factor below
number_below (operators.Fby c) w zeros rounds k count before done word none few within after is least factor below some =
    delayed w zeros rounds k count before done word few within is.0 least factor below

-- the sizes of the word with one more operator
pub sized_extended : (op : Op) (w t : Word) (jobs count before done : ℕ) → IsSized jobs count done w → IsCountBefore op count before →
    1 ≤ jobs → 1 ≤ count → 1 ≤ before → (e : IsExtended op w t) → IsSized jobs before (done + 1) t
sized_extended op w t jobs count before done s factor jobs_some count_some before_some e =
    let turned : AreTurns e.rounds t.step_out s.turns before =
    turns_after op w.step_out s.turns e.rounds t.step_out count before e.step s.count_is factor count_some in
    let longer = turned.longer in
    let jobs_are : jobs ≡ w.step_in * (e.rounds * longer) = s.jobs_are ∙ ap (λ (x : ℕ). w.step_in * x) turned.turns_are in
    let jobs_by : w.step_in * (e.rounds * longer) ≡ e.rounds * w.step_in * longer = omega arith in
    let jobs_is : jobs ≡ t.step_in * longer = jobs_are ∙ jobs_by ∙ ap (λ (x : ℕ). x * longer) (sym e.step_in) in
    let some : 1 ≤ t.step_in = first_some t.step_in longer jobs jobs_is jobs_some in
    let count_is : count ≡ w.step_out * (e.rounds * longer) = s.count_is ∙ ap (λ (x : ℕ). w.step_out * x) turned.turns_are in
    let least : w.step_out * e.rounds ≤ count = factor_le w.step_out e.rounds longer count count_is count_some in
    let least_turned : e.rounds * w.step_out ≤ count = (let f : e.rounds * w.step_out ≡ w.step_out * e.rounds = omega arith in omega (arith, f, least)) in
    record {
      word = record { some = some; long = e.numbers.long };
      turns = longer;
      jobs_are = jobs_is;
      count_is = turned.before_is;
      below = λ k h. (let value : slice_index t.repeat k ≡ number_before op (number_at w (e.zeros + k)) = e.numbers.each k h in
          let bound : number_before op (number_at w (e.zeros + k)) ≤ (done + 1 + 1) * before =
          number_below op w e.zeros e.rounds k count before done s.word e.before.only e.before.few (omega (arith, h, e.step_in)) t.step_out e.step least_turned factor s.below before_some in
          omega (arith, value, bound));
      rises = λ i j h. (let a = number_extended op w t s.word some e i in
          let b = number_extended op w t s.word some e j in
          let c : number_before op (number_at w (e.zeros + i)) ≤ number_before op (number_at w (e.zeros + j)) =
          before_rises op (number_at w (e.zeros + i)) (number_at w (e.zeros + j)) (s.rises (e.zeros + i) (e.zeros + j) (omega (arith, h))) in
          omega (arith, a, b, c));
    }

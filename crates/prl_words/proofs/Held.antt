-- A word whose operands are each read by several jobs in turn.
use Rattle.prl_base.proofs.Standard.{◌≡◌, ◌+◌, ◌-◌, ◌*◌, ◌/◌, ◌%◌, ◌<◌, ◌≤◌, ◌^◌, ℕ, Some, inl, inr, sym, ◌∙◌, ap, arith, length, get_or, slice_get, slice_index, div-lt_iff_lt-mul, mod-add-div'}
use Rattle.prl_base.proofs.Standard.{mul-le-mul_left, mul-le-mul_right, div-mul-le_self, lt-div-mul-add, mod_below, cases_lt, slice_get-get_or, same_Some, pos}
use Rattle.prl_base.specs.declared.values.Value.{Value}
use Rattle.prl_base.specs.declared.values.Value.TheVariants as values
use Rattle.prl_plan.specs.declared.walks.Operand.TheVariants as operands
use Rattle.prl_plan.specs.Words.{number_at, word_at, IsWord}
use Rattle.prl_plan.specs.declared.words.Word.{Word}
use Rattle.prl_words.specs.Vocabulary.{IsHeld, IsSteady}
use Rattle.prl_plan.proofs.WordNumbers.{after_prefix, next_turns}
use Rattle.prl_words.proofs.Extended.{told_constant}
use Rattle.prl_words.proofs.Rooms.{number_first}

quotient_rises : (a b k : ℕ) → 1 ≤ k → a ≤ b → a / k ≤ b / k
quotient_rises a b k some h =
    elim (cases_lt (b / k) (a / k)) [
      | inl above ↦ absurd
          (let low : (b / k + 1) * k ≤ a / k * k = mul-le-mul_right k (let e : b / k + 1 ≤ a / k = omega (arith, above) in e) in
          let next : b < b / k * k + k = lt-div-mul-add {a = b} {b = k} some in
          let down : a / k * k ≤ a = div-mul-le_self a k in
          let e : (b / k + 1) * k ≡ b / k * k + k = omega arith in
          omega (arith, low, next, down, e, h))
      | inr below ↦ below
    ]

pub quotient_below : (n l k : ℕ) → 1 ≤ k → n < l * k → n / k < l
quotient_below n l k some h = (div-lt_iff_lt-mul {k = k} {x = n} {y = l} some).1 h

-- the quotient of a number and whole times the divisor more
quotient_more : (r q k : ℕ) → 1 ≤ k → (r + q * k) / k ≡ r / k + q
quotient_more r q k some =
    let a : r / k * k ≤ r = div-mul-le_self r k in
    let b : r < r / k * k + k = lt-div-mul-add {a = r} {b = k} some in
    let x : ℕ = (r + q * k) / k in
    let c : (r + q * k) / k * k ≤ r + q * k = div-mul-le_self (r + q * k) k in
    let d : r + q * k < (r + q * k) / k * k + k = lt-div-mul-add {a = r + q * k} {b = k} some in
    elim (cases_lt ((r + q * k) / k) (r / k + q)) [
      | inl less ↦ absurd
          (let up : ((r + q * k) / k + 1) * k ≤ (r / k + q) * k = mul-le-mul_right k (let e : (r + q * k) / k + 1 ≤ r / k + q = omega (arith, less) in e) in
          let e : ((r + q * k) / k + 1) * k ≡ (r + q * k) / k * k + k = omega arith in
          let f : (r / k + q) * k ≡ r / k * k + q * k = omega arith in
          omega (arith, up, e, f, a, d))
      | inr above ↦
          elim (cases_lt (r / k + q) ((r + q * k) / k)) [
            | inl more ↦ absurd
                (let up : (r / k + q + 1) * k ≤ (r + q * k) / k * k = mul-le-mul_right k (let e : r / k + q + 1 ≤ (r + q * k) / k = omega (arith, more) in e) in
                let e : (r / k + q + 1) * k ≡ r / k * k + q * k + k = omega arith in
                omega (arith, up, e, b, c))
            | inr under ↦ omega (arith, above, under)
          ]
    ]

module _ (times : ℕ) (some : 1 ≤ times) (w t : Word) (word : IsWord w) (is : IsHeld times w t) where
  held_some : 1 ≤ t.step_in
  held_some = (let up : w.step_in * 1 ≤ w.step_in * times = mul-le-mul_left w.step_in some in let s = is.step_in in let l = word.some in omega (arith, up, s, l))

  pub held_word : IsWord t
  held_word = record {
    some = held_some;
    long = is.repeat.long ∙ ap (λ (l : ℕ). l * times) word.long ∙ sym is.step_in;
  }

  -- each number stands for so many
  pub number_held : (i : ℕ) → number_at t i ≡ number_at w (i / times)
  number_held i =
      let r : ℕ = i % t.step_in in
      let q : ℕ = i / t.step_in in
      let below : i % t.step_in < t.step_in = mod_below i t.step_in held_some in
      let whole : i % t.step_in + i / t.step_in * t.step_in ≡ i = mod-add-div' i t.step_in in
      let l = is.step_in in
      let size : w.step_in * times ≡ length w.repeat * times = ap (λ (k : ℕ). k * times) (sym word.long) in
      let inside : i % t.step_in < length w.repeat * times = omega (arith, below, l, size) in
      let part : i % t.step_in / times < w.step_in = quotient_below (i % t.step_in) w.step_in times some (omega (arith, below, l)) in
      let x : slice_get t.repeat (i % t.step_in) ≡ Some (slice_index t.repeat (i % t.step_in)) =
      slice_get-get_or t.repeat (i % t.step_in) 0 (let e = is.repeat.long in omega (arith, inside, e)) in
      let y : slice_get w.repeat (i % t.step_in / times) ≡ Some (slice_index w.repeat (i % t.step_in / times)) =
      slice_get-get_or w.repeat (i % t.step_in / times) 0 (let e = word.long in omega (arith, part, e)) in
      let listed : slice_index t.repeat (i % t.step_in) ≡ slice_index w.repeat (i % t.step_in / times) =
      same_Some (slice_index t.repeat (i % t.step_in)) (slice_index w.repeat (i % t.step_in / times)) (sym x ∙ is.repeat.each (i % t.step_in) inside ∙ y) in
      let first : number_at w (i % t.step_in / times) ≡ slice_index w.repeat (i % t.step_in / times) = number_first w (i % t.step_in / times) part in
      let turn : number_at w (i % t.step_in / times + i / t.step_in * w.step_in) ≡ number_at w (i % t.step_in / times) + i / t.step_in * w.step_out =
      next_turns w word.some (i % t.step_in / times) (i / t.step_in) in
      let spread : i / t.step_in * t.step_in ≡ i / t.step_in * w.step_in * times =
      ap (λ (k : ℕ). i / t.step_in * k) is.step_in ∙ (let e : i / t.step_in * (w.step_in * times) ≡ i / t.step_in * w.step_in * times = omega arith in e) in
      let at : i / times ≡ i % t.step_in / times + i / t.step_in * w.step_in =
      ap (λ (k : ℕ). k / times) (let e : i ≡ i % t.step_in + i / t.step_in * w.step_in * times = omega (arith, whole, spread) in e)
      ∙ quotient_more (i % t.step_in) (i / t.step_in * w.step_in) times some in
      let there : number_at w (i / times) ≡ number_at w (i % t.step_in / times + i / t.step_in * w.step_in) = ap (λ (k : ℕ). number_at w k) at in
      let out : i / t.step_in * t.step_out ≡ i / t.step_in * w.step_out = ap (λ (k : ℕ). i / t.step_in * k) is.step_out in
      omega (arith, listed, first, turn, there, out)

  -- and each operand
  pub operand_held : (n : ℕ) → word_at t n ≡ word_at w (n / times)
  operand_held n =
      let long = is.prefix.long in
      elim (cases_lt n (length w.prefix * times)) [
        | inl inside ↦
            (let part : n / times < length w.prefix = quotient_below n (length w.prefix) times some inside in
            let d : Value = values.Int (pos 0) in
            let c : Value = get_or w.prefix (n / times) d in
            let here : slice_get w.prefix (n / times) ≡ Some c = slice_get-get_or w.prefix (n / times) d part in
            told_constant t n c (is.prefix.each n inside ∙ here) ∙ sym (told_constant w (n / times) c here))
        | inr past ↦
            (let split : n ≡ (n - length t.prefix) + length w.prefix * times = omega (arith, long, past) in
            let quotient : n / times ≡ (n - length t.prefix) / times + length w.prefix =
            ap (λ (k : ℕ). k / times) split ∙ quotient_more (n - length t.prefix) (length w.prefix) times some in
            let left : word_at t n ≡ operands.From (number_at t (n - length t.prefix)) = after_prefix t n (omega (arith, long, past)) in
            let right : word_at w (n / times) ≡ operands.From (number_at w (n / times - length w.prefix)) = after_prefix w (n / times) (omega (arith, quotient)) in
            let same : (n - length t.prefix) / times ≡ n / times - length w.prefix = omega (arith, quotient) in
            left ∙ ap (λ (k : ℕ). operands.From k) (number_held (n - length t.prefix) ∙ ap (λ (k : ℕ). number_at w k) same) ∙ sym right)
      ]

  pub steady_held : IsSteady w → t.step_in ≤ 2 ^ 32 → IsSteady t
  steady_held steady few = record {
    word = held_word;
    few = few;
    fits = λ i h.
        (let e = number_held i in
        let s = is.step_in in
        let twice : 2 * (w.step_in * times) ≡ 2 * w.step_in * times = omega arith in
        let part : i / times < 2 * w.step_in = quotient_below i (2 * w.step_in) times some (omega (arith, h, s, twice)) in
        let f = steady.fits (i / times) part in
        omega (arith, e, f));
    rises = λ i j h.
        (let a = number_held i in let b = number_held j in let r = steady.rises (i / times) (j / times) (quotient_rises i j times some h) in omega (arith, a, b, r));
  }

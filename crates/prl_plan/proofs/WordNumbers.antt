-- The numbers of a word: those of its prefix, those after it, and how they go on from turn to turn.
use Rattle.prl_base.proofs.Standard.{◌≡◌, ◌+◌, ◌-◌, ◌*◌, ◌/◌, ◌%◌, ◌<◌, ◌≤◌, ℕ, List, [], ◌∷◌, Option, inl, inr, refl, sym, ◌∙◌, ap, arith, length, get_or, slice_index, cases_lt}
use Rattle.prl_base.proofs.Standard.{add-mul-mod_self_right, add-mul-div_right, slice_get-get_or, slice_get_past}
use Rattle.prl_base.specs.declared.operators.Op.{Op}
use Rattle.prl_base.specs.declared.values.Value.{Value}
use Rattle.prl_plan.specs.declared.walks.Operand.TheVariants as operands
use Rattle.prl_plan.specs.Vocabulary.{Word, IsFirstReader, walk, number_at, word_at, constant_or, IsWordOf}

-- the operands of the prefix, and those after it
pub in_prefix : (w : Word) (n : ℕ) (d : Value) → n < length w.prefix → word_at w n ≡ operands.Const (get_or w.prefix n d)
in_prefix w n d below =
    ap (λ (o : Option Value). constant_or o (operands.From (number_at w (n - length w.prefix)))) (slice_get-get_or w.prefix n d below)

pub after_prefix : (w : Word) (n : ℕ) → length w.prefix ≤ n → word_at w n ≡ operands.From (number_at w (n - length w.prefix))
after_prefix w n past =
    ap (λ (o : Option Value). constant_or o (operands.From (number_at w (n - length w.prefix)))) (slice_get_past w.prefix n past)

-- a turn later each number is higher by the step
pub next_turns : (w : Word) → 1 ≤ w.step_in → (i turns : ℕ) → number_at w (i + turns * w.step_in) ≡ number_at w i + turns * w.step_out
next_turns w some i turns =
    let part : (i + turns * w.step_in) % w.step_in ≡ i % w.step_in = add-mul-mod_self_right i turns w.step_in in
    let turn : (i + turns * w.step_in) / w.step_in ≡ i / w.step_in + turns = add-mul-div_right i turns (omega (arith, some)) in
    let apart : (i / w.step_in + turns) * w.step_out ≡ i / w.step_in * w.step_out + turns * w.step_out = omega arith in
    omega (arith, ap (λ (k : ℕ). slice_index w.repeat k) part, ap (λ (k : ℕ). k * w.step_out) turn, apart)

-- jobs from the prefix's length on read instances, and no other
pub first_after_prefix : (ops : List Op) (w : Word) → IsWordOf ops w → IsFirstReader ops (length w.prefix)
first_after_prefix ops w is = record {
  reads = λ n past. (number_at w (n - length w.prefix), sym (is.at n) ∙ after_prefix w n past);
  first = λ n m reads. elim (cases_lt n (length w.prefix)) [
    | inl below ↦ absurd (go w.prefix refl n m below reads)
    | inr above ↦ above
  ];
}
  where
    never : (c : Value) (m : ℕ) → operands.Const c ≡ operands.From m → ⊥
    never c m e = cc

    go : (p : List Value) → w.prefix ≡ p → (n m : ℕ) → n < length w.prefix → walk ops n ≡ operands.From m → ⊥
    go [] same n m below reads = omega (arith, ap length same, below)
    go (c ∷ rest) same n m below reads = never (get_or w.prefix n c) m (sym (in_prefix w n c below) ∙ is.at n ∙ reads)

-- there is one such job
pub one_first : (ops : List Op) (p q : ℕ) → IsFirstReader ops p → IsFirstReader ops q → p ≡ q
one_first ops p q first other =
    let a = other.reads q (omega arith) in
    let b = first.reads p (omega arith) in
    omega (arith, first.first q a.0 a.1, other.first p b.0 b.1)

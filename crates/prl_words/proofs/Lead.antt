-- The `*^` and `~>` at the consumer's end.
use Rattle.prl_base.proofs.Standard.{◌≡◌, ◌+◌, ◌*◌, ◌/◌, ◌<◌, ◌≤◌, ℕ, List, ◌∷◌, drop, length, get_or, sym, ◌∙◌, ap, subst, arith, div-div-eq-div-mul, mul-le-mul_left, drop_more}
use Rattle.prl_base.specs.declared.operators.Op.{Op}
use Rattle.prl_base.specs.declared.ratios.Ratio.{Ratio}
use Rattle.prl_base.specs.declared.operators.Op.TheVariants as operators
use Rattle.prl_plan.specs.Operands.{walk}
use Rattle.prl_words.specs.Vocabulary.{HaveCounts, IsLeading}
use Rattle.prl_words.proofs.SoFar.{counts_here}
use Rattle.prl_words.proofs.Turns.{first_some}

-- the operators from this place on begin with this one
split_at : (ops : List Op) (i : ℕ) (op : Op) → i < length ops → op ≡ get_or ops i op → drop i ops ≡ op ∷ drop (i + 1) ops
split_at ops i op below is = drop_more ops i op below ∙ ap (λ (o : Op). o ∷ drop (i + 1) ops) (sym is)

-- how often the clocks come, behind one more
counts_more : (ops : List Op) (i k times : ℕ) → drop i ops ≡ operators.Up k ∷ drop (i + 1) ops → IsLeading ops i times → (jobs : ℕ) → HaveCounts ops jobs →
    (before : ℕ) × HaveCounts (drop (i + 1) ops) before × (jobs ≡ times * k * before)
counts_more ops i k times split is jobs counts =
    let b = is.counts jobs counts in
    let c : HaveCounts (operators.Up k ∷ drop (i + 1) ops) b.0 = subst (λ (xs : List Op). HaveCounts xs b.0) split b.1 in (
      c.1.0,
      c.1.2,
      b.2 ∙ ap (λ (x : ℕ). times * x) c.1.1 ∙ (let e : times * (k * c.1.0) ≡ times * k * c.1.0 = omega arith in e),
    )

-- the factors of jobs of a hyperperiod are within the longest
pub times_within : (ops : List Op) (i k times : ℕ) → drop i ops ≡ operators.Up k ∷ drop (i + 1) ops → IsLeading ops i times → (jobs : ℕ) → HaveCounts ops jobs →
    (times * k ≤ 10000000) × (1 ≤ times * k)
times_within ops i k times split is jobs counts =
    let m = counts_more ops i k times split is jobs counts in
    let fit = counts_here ops jobs counts in
    let before = counts_here (drop (i + 1) ops) m.0 m.1 in
    let up : times * k * 1 ≤ times * k * m.0 = mul-le-mul_left (times * k) before.0 in
    let e = m.2 in
    (omega (arith, up, e, fit.1), first_some (times * k) m.0 jobs e fit.0)

pub one_leading : (ops : List Op) (i k times : ℕ) → i < length ops → operators.Up k ≡ get_or ops i (operators.Up k) → (jobs : ℕ) → HaveCounts ops jobs → IsLeading ops i times →
    IsLeading ops (i + 1) (times * k)
one_leading ops i k times below at jobs counts is =
    let split = split_at ops i (operators.Up k) below at in
    record {
      within = omega (arith, below);
      some = (times_within ops i k times split is jobs counts).1;
      walks = λ n.
          is.walks n ∙ ap (λ (xs : List Op). walk xs (n / times)) split
          ∙ ap (λ (x : ℕ). walk (drop (i + 1) ops) x) (div-div-eq-div-mul n times k);
      counts = counts_more ops i k times split is;
    }

-- one that leaves each instance its number
pub shift_leading : (ops : List Op) (i : ℕ) (q : Ratio) (times : ℕ) → i < length ops → operators.Shift q ≡ get_or ops i (operators.Shift q) → IsLeading ops i times →
    IsLeading ops (i + 1) times
shift_leading ops i q times below at is =
    let split = split_at ops i (operators.Shift q) below at in
    record {
      within = omega (arith, below);
      some = is.some;
      walks = λ n. is.walks n ∙ ap (λ (xs : List Op). walk xs (n / times)) split;
      counts = λ jobs counts. (let b = is.counts jobs counts in
          let c : HaveCounts (operators.Shift q ∷ drop (i + 1) ops) b.0 = subst (λ (xs : List Op). HaveCounts xs b.0) split b.1 in
          (c.1.0, c.1.2, b.2 ∙ ap (λ (x : ℕ). times * x) (sym c.1.1)));
    }

pub split_up : (ops : List Op) (i k : ℕ) → i < length ops → operators.Up k ≡ get_or ops i (operators.Up k) → drop i ops ≡ operators.Up k ∷ drop (i + 1) ops
split_up ops i k below at = split_at ops i (operators.Up k) below at

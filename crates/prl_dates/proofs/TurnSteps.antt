-- Turns: after how many jobs the jobs that precede them come again.
use Rattle.prl_base.proofs.Standard.{◌≡◌, ◌+◌, ◌-◌, ◌*◌, ◌/◌, ◌<◌, ◌≤◌, ◌^◌, ◌++◌, w64, to_z, of_z, ℕ, zero, suc, List, [], ◌∷◌, take, length, get_or, refl, sym, ◌∙◌, ap, subst, arith, ℤ, pos, negsuc}
use Rattle.prl_base.proofs.Standard.{◌+ℤ◌, ◌*ℤ◌, IsGcd, div-mul_cancel, div-le_self, mul-le-mul_left, ints, to_z-of_z, to_z_pos, get_or_default, take_more}
use lib.IntN.{suc_ℤ, pred_ℤ}
use Rattle.prl_base.specs.Operators.{preceding_number, floor_div}
use Rattle.prl_base.specs.declared.operators.Op.{Op}
use Rattle.prl_base.specs.declared.operators.Op.TheVariants as operators
use Rattle.prl_plan.specs.Vocabulary.{preceding, Fits64, HasFactor, PrecedingFits}
use Rattle.prl_plan.proofs.Floors.{suc_is}
use Rattle.prl_plan.proofs.Periods.{floor_shift, mul_plus}
use Rattle.prl_dates.specs.Vocabulary.{Turn, AreFitting, StepsBy, IsTurnUnder}
use Rattle.prl_dates.proofs.LaneSteps.{fits_low, fits_high, fits_between}
use Rattle.prl_dates.proofs.Readings.{fits_rest, pred_same}

-- a product that is not 0 has no factor 0
first_some : (a b whole : ℕ) → a * b ≡ whole → 1 ≤ whole → 1 ≤ a
first_some zero b whole is some = absurd (let e : zero * b ≡ 0 = omega arith in omega (arith, is, some, e))
first_some (suc a) b whole is some = omega arith

pub divisor_some : (k h g : ℕ) → 1 ≤ k → IsGcd k h g → 1 ≤ g
divisor_some k h g some gcd = first_some g (k / g) k ((let e : g * (k / g) ≡ k / g * g = omega arith in e) ∙ div-mul_cancel g gcd.0) some

-- several turns on
steps_times : (ops : List Op) (jobs higher : ℕ) → StepsBy ops jobs higher → (times : ℕ) → StepsBy ops (jobs * times) (higher * times)
steps_times ops jobs higher steps zero n =
    let none : jobs * 0 ≡ 0 = omega arith in
    let still : higher * 0 ≡ 0 = omega arith in
    ap (λ (z : ℤ). preceding ops z) (let e : n +ℤ pos (jobs * 0) ≡ n = omega (arith, ints, none) in e) ∙ omega (arith, ints, still)
steps_times ops jobs higher steps (suc times) n =
    let more : jobs * suc times ≡ jobs * times + jobs = omega arith in
    let up : higher * suc times ≡ higher * times + higher = omega arith in
    ap (λ (z : ℤ). preceding ops z) (let e : n +ℤ pos (jobs * suc times) ≡ (n +ℤ pos (jobs * times)) +ℤ pos jobs = omega (arith, ints, more) in e)
    ∙ omega (arith, ints, steps (n +ℤ pos (jobs * times)), steps_times ops jobs higher steps times n, up)

preceding_append : (ops : List Op) (op : Op) (n : ℤ) → preceding (ops ++ op ∷ []) n ≡ preceding_number op (preceding ops n)
preceding_append [] op n = refl
preceding_append (x ∷ ops) op n = preceding_append ops op (preceding_number x n)

-- one more operator at the producer's end
steps_append : (front : List Op) (op : Op) (turn after : Turn) → StepsBy front turn.jobs turn.higher → IsTurnUnder op turn after → StepsBy (front ++ op ∷ []) after.jobs after.higher
steps_append front op turn after steps under n =
    preceding_append front op (n +ℤ pos after.jobs)
    ∙ ap (λ (j : ℕ). preceding_number op (preceding front (n +ℤ pos j))) under.jobs
    ∙ ap (λ (z : ℤ). preceding_number op z) (steps_times front turn.jobs turn.higher steps under.times n)
    ∙ under.steps (preceding front n)
    ∙ ap (λ (z : ℤ). z +ℤ pos after.higher) (sym (preceding_append front op n))

pub some_under : (op : Op) (turn after : Turn) → 1 ≤ turn.jobs → IsTurnUnder op turn after → 1 ≤ after.jobs
some_under op turn after some under =
    omega (arith, under.jobs, some, mul-le-mul_left turn.jobs under.some)

pub steps_next : (ops : List Op) (i : ℕ) (op : Op) (turn after : Turn) → i < length ops → op ≡ get_or ops i op → StepsBy (take i ops) turn.jobs turn.higher →
    IsTurnUnder op turn after → StepsBy (take (i + 1) ops) after.jobs after.higher
steps_next ops i op turn after below is steps under =
    let split : take (i + 1) ops ≡ take i ops ++ op ∷ [] = take_more ops i op below ∙ ap (λ (o : Op). take i ops ++ o ∷ []) (sym is) in
    subst (λ (front : List Op). StepsBy front after.jobs after.higher) (sym split) (steps_append (take i ops) op turn after steps under)

pub under_up : (k g jobs higher : ℕ) → 1 ≤ k → IsGcd k higher g → (more : ℕ) → more ≡ jobs * (k / g) →
    IsTurnUnder (operators.Up k) (record { jobs = jobs; higher = higher }) (record { jobs = more; higher = higher / g })
under_up k g jobs higher some gcd more more_is =
    let factor : k / g * g ≡ k = div-mul_cancel g gcd.0 in
    let both : higher * (k / g) ≡ k * (higher / g) =
    ap (λ (x : ℕ). x * (k / g)) (sym (div-mul_cancel g gcd.1))
    ∙ (let e : higher / g * g * (k / g) ≡ k / g * g * (higher / g) = omega arith in e)
    ∙ ap (λ (x : ℕ). x * (higher / g)) factor in
    record {
      times = k / g;
      some = first_some (k / g) g k factor some;
      jobs = more_is;
      steps = λ n. ap (λ (h : ℕ). floor_div (n +ℤ pos h) k) both ∙ floor_shift n k (higher / g) some;
    }

pub under_down : (k jobs higher more : ℕ) → more ≡ higher * k →
    IsTurnUnder (operators.Down k) (record { jobs = jobs; higher = higher }) (record { jobs = jobs; higher = more })
under_down k jobs higher more more_is = record {
  times = 1;
  some = omega arith;
  jobs = omega arith;
  steps = λ n. mul_plus k (higher * 1) n ∙ ap (λ (h : ℕ). preceding_number (operators.Down k) n +ℤ pos h) ((let e : k * (higher * 1) ≡ higher * k = omega arith in e) ∙ sym more_is);
}

-- the factors on the way
factor_first : (op : Op) (ops : List Op) (n : ℤ) → PrecedingFits (op ∷ ops) n → HasFactor op
factor_first (operators.Up k) ops n fits = fits.0
factor_first (operators.Down k) ops n fits = fits.0
factor_first (operators.Shift q) ops n fits = tt
factor_first operators.Tail ops n fits = tt
factor_first (operators.Cons c) ops n fits = tt
factor_first (operators.Fby c) ops n fits = tt

pub factor_at : (ops : List Op) (n : ℤ) → PrecedingFits ops n → (i : ℕ) (d : Op) → i < length ops → HasFactor (get_or ops i d)
factor_at [] n fits i d below = absurd (omega arith)
factor_at (op ∷ ops) n fits zero d below = factor_first op ops n fits
factor_at (op ∷ ops) n fits (suc i) d below = factor_at ops (preceding_number op n) (fits_rest op ops n fits) i d (omega (arith, below))

-- the number of the job that precedes fits
floor_fits : (n : ℤ) (k : ℕ) → Fits64 n → Fits64 (floor_div n k)
floor_fits (pos n) k fits = fits_between (pos (n / k)) (omega (arith, ints)) (omega (arith, ints, fits_high (pos n) fits, div-le_self n k))
floor_fits (negsuc n) k fits = fits_between (negsuc (n / k)) (omega (arith, ints, fits_low (negsuc n) fits, div-le_self n k)) (omega (arith, ints))

pub preceding_small : (ops : List Op) (n : ℤ) → Fits64 n → PrecedingFits ops n → Fits64 (preceding ops n)
preceding_small [] n small fits = small
preceding_small (operators.Up k ∷ ops) n small fits = preceding_small ops (floor_div n k) (floor_fits n k small) fits.1
preceding_small (operators.Down k ∷ ops) n small fits = preceding_small ops (pos k *ℤ n) fits.1 fits.2
preceding_small (operators.Shift q ∷ ops) n small fits = preceding_small ops n small fits
preceding_small (operators.Tail ∷ ops) n small fits =
    preceding_small ops (suc_ℤ n) (subst (λ (z : ℤ). Fits64 z) (sym (suc_is n)) fits.0) (fits_rest operators.Tail ops n fits)
preceding_small (operators.Cons c ∷ ops) n small fits =
    preceding_small ops (pred_ℤ n) (subst (λ (z : ℤ). Fits64 z) (pred_same n) fits.0) (fits_rest (operators.Cons c) ops n fits)
preceding_small (operators.Fby c ∷ ops) n small fits =
    preceding_small ops (pred_ℤ n) (subst (λ (z : ℤ). Fits64 z) (pred_same n) fits.0) (fits_rest (operators.Fby c) ops n fits)

-- one turn later
pub turned : (ops : List Op) (jobs turn higher n : ℕ) → AreFitting ops jobs → jobs < 2 ^ 32 → n < jobs → turn ≤ n → StepsBy ops turn higher →
    preceding ops (pos (n - turn)) +ℤ pos higher ≡ preceding ops (pos n)
turned ops jobs turn higher n fits few below past steps =
    sym (steps (pos (n - turn))) ∙ ap (λ (z : ℤ). preceding ops z) (let e : pos (n - turn) +ℤ pos turn ≡ pos n = omega (arith, ints, past) in e)

pub first_fits : (ops : List Op) (jobs n : ℕ) → AreFitting ops jobs → jobs < 2 ^ 32 → n < jobs → Fits64 (preceding ops (pos n))
first_fits ops jobs n fits few below = preceding_small ops (pos n) (fits_between (pos n) (omega (arith, ints)) (omega (arith, ints, few, below))) (fits n below)

-- the sum as it is computed
pub sum_computed : (before : ℤ) (higher : ℕ) → Fits64 before → higher < 2 ^ 63 → to_z w64 (of_z w64 before) +ℤ to_z w64 higher ≡ before +ℤ pos higher
sum_computed before higher fits small =
    ap (λ (z : ℤ). z +ℤ to_z w64 higher) (to_z-of_z w64 before fits) ∙ ap (λ (z : ℤ). before +ℤ z) (to_z_pos w64 higher small)

-- the number of the job that precedes, from that of a turn before
pub next_sum : (ops : List Op) (jobs n : ℕ) → AreFitting ops jobs → jobs < 2 ^ 32 → n < jobs → (turn : Turn) → 1 ≤ turn.jobs → turn.jobs ≤ n → turn.higher < 2 ^ 63 → StepsBy ops turn.jobs turn.higher →
    (numbers : List ℤ) → length numbers ≡ n → ((k : ℕ) → k < n → get_or numbers k (pos 0) ≡ preceding ops (pos k)) → (before : ℤ) → before ≡ get_or numbers (n - turn.jobs) before →
    to_z w64 (of_z w64 before) +ℤ to_z w64 turn.higher ≡ preceding ops (pos n)
next_sum ops jobs n fits few below turn some past small steps numbers long each before found =
    let at : ℕ = n - turn.jobs in
    let read : before ≡ preceding ops (pos at) = found ∙ get_or_default numbers at before (pos 0) (omega (arith, long, some, past)) ∙ each at (omega (arith, some, past)) in
    sum_computed before turn.higher (subst (λ (z : ℤ). Fits64 z) (sym read) (first_fits ops jobs at fits few (omega (arith, below)))) small
    ∙ ap (λ (z : ℤ). z +ℤ pos turn.higher) read ∙ turned ops jobs turn.jobs turn.higher n fits few below past steps

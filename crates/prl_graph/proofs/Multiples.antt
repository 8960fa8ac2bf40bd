-- Common multiples of the periods of clocks.
use Rattle.prl_base.proofs.Standard.{◌≡◌, ◌<◌, ◌≤◌, ◌+◌, ◌*◌, ℕ, zero, suc, List, [], ◌∷◌, length, take, slice_get, Some, sym, ◌∙◌, ap, subst, arith, ⊎_elim}
use Rattle.prl_base.proofs.Standard.{cases_lt, take_all, slice_get_within}
use Rattle.prl_plan.specs.Graphs.{Divides}
use Rattle.prl_plan.specs.declared.limits.TheConstants.{MAX_HYPER}
use Rattle.prl_numbers.specs.Multiples.{IsLeastMultiple}
use Rattle.prl_numbers.proofs.LeastMultiples.{divides_trans}
use Rattle.prl_graph.specs.Vocabulary.{IsHyperperiod, IsPastHyperperiod}
use Rattle.prl_base.specs.declared.operators.Clock.{Clock}
use Rattle.prl_flow.proofs.Lists.{slice_get_take}

-- an element of the first ones of a list
pub take_get : {A : Type 0} (n : ℕ) (xs : List A) (k : ℕ) (x : A) → slice_get (take n xs) k ≡ Some x → (k < n) × (slice_get xs k ≡ Some x)
take_get zero xs k x h = cc
take_get (suc n) [] k x h = cc
take_get (suc n) (y ∷ xs) zero x h = (omega arith, h)
take_get (suc n) (y ∷ xs) (suc k) x h = (let rest = take_get n xs k x h in let low = rest.0 in let e : suc k < suc n = omega arith in (e, rest.1))

-- of no clock the least common multiple is 1
pub hyper_none : (clocks : List Clock) → IsHyperperiod (take 0 clocks) 1
hyper_none clocks = record {
  positive = omega arith;
  multiple = λ i clock h. (let low = (take_get 0 clocks i clock h).0 in absurd (omega arith));
  least = λ n common. (let e : n ≡ n * 1 = omega arith in (n, e));
}

-- one clock more
pub hyper_more : (clocks : List Clock) (n hyper multiple : ℕ) (clock : Clock) → slice_get clocks n ≡ Some clock → IsHyperperiod (take n clocks) hyper → IsLeastMultiple hyper clock.period multiple
    → IsHyperperiod (take (n + 1) clocks) multiple
hyper_more clocks n hyper multiple clock found before next = record {
  positive = next.positive;
  multiple = λ i other h.
      (let at = take_get (n + 1) clocks i other h in
      ⊎_elim
      (λ less. divides_trans other.period hyper multiple (before.multiple i other (slice_get_take n clocks i less ∙ at.1)) next.first)
      (λ not_less.
      (let last : i ≡ n = omega arith in
      let same : clock ≡ other = (let e : Some clock ≡ Some other = sym found ∙ ap (slice_get clocks) (sym last) ∙ at.1 in cc) in
      subst (λ (k : Clock). Divides k.period multiple) same next.second))
      (cases_lt i n));
  least = λ m common.
      (let there : n < n + 1 = omega arith in
      next.least m
      (before.least m (λ i other h. (let at = take_get n clocks i other h in let low = at.0 in let e : i < n + 1 = omega arith in common i other (slice_get_take (n + 1) clocks i e ∙ at.1))))
      (common n clock (slice_get_take (n + 1) clocks n there ∙ found)));
}

pub hyper_all : (clocks : List Clock) (n hyper : ℕ) → length clocks ≤ n → IsHyperperiod (take n clocks) hyper → IsHyperperiod clocks hyper
hyper_all clocks n hyper most is = subst (λ l. IsHyperperiod l hyper) (take_all n clocks most) is

pub past_hyper : (clocks : List Clock) (n before found : ℕ) (clock : Clock) → slice_get clocks n ≡ Some clock → IsHyperperiod (take n clocks) before → before ≤ MAX_HYPER
    → IsLeastMultiple before clock.period found → MAX_HYPER < found → IsPastHyperperiod clocks found
past_hyper clocks n before found clock at is few next past = record {
  index = n;
  there = slice_get_within clocks n clock at;
  before = before;
  before_is = is;
  within = few;
  found_is = hyper_more clocks n before found clock at is next;
  past = past;
}

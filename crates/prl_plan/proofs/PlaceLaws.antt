-- The place of a used instance, by division and by the sums of the gaps.
use Rattle.prl_base.proofs.Standard.{◌≡◌, ◌+◌, ◌-◌, ◌*◌, ◌/◌, ◌%◌, ◌<◌, ◌≤◌, ℕ, Option, Some, None, length, get_or, take, sum, inl, inr, refl, sym, ◌∙◌, ap, arith, Bool, cond, cases_lt, div-mul-add}
use Rattle.prl_base.proofs.Standard.{mod-mul-add, mod_below, sum_by_more, mod-add-div', take_all}
use Rattle.prl_plan.specs.Vocabulary.{Edge, Used, used_at, place_up_to, place_of, EnumeratesUsed, IsOrdered, CountsUsed}
use Rattle.prl_plan.proofs.RepeatLaws.{next_gap, first_number, some_length}
use Rattle.prl_plan.proofs.UsedLaws.{rising_to, at_least, some_gaps, sum_all, test_same, place_found, place_stands}

-- where no instance at a place is it, it has no place
pub no_place : (used : Used) (m : ℕ) → ((k : ℕ) → used_at used k ≡ m → ⊥) → place_of used m ≡ None
no_place used m never = go (place_of used m) refl
  where
    go : (o : Option ℕ) → place_of used m ≡ o → place_of used m ≡ None
    go None is = is
    go (Some k) is = absurd (never k (place_stands used m k is))

pub none_without_gaps : (used : Used) (m : ℕ) → length used.gaps ≡ 0 → place_of used m ≡ None
none_without_gaps used m none = ap (λ (b : Bool). cond b None (place_up_to used m (m + 1))) (test_same (length used.gaps) 0 none)

module _ (edge : Edge) (used : Used) (all : EnumeratesUsed edge used) where
  some : 1 ≤ length used.gaps
  some = some_length (length used.gaps) (some_gaps edge used all)

  pub some_sum : 1 ≤ sum used.gaps
  some_sum =
      omega (arith, next_gap used some 0, rising_to edge used all (0 + 1) 0 (omega arith), sum_all used.gaps (0 % length used.gaps) (mod_below 0 (length used.gaps) some))

  at_place : (q r : ℕ) → r < length used.gaps → used_at used (q * length used.gaps + r) ≡ used.first + q * sum used.gaps + sum (take r used.gaps)
  at_place q r below =
      ap (λ (x : ℕ). used.first + x * sum used.gaps + sum (take ((q * length used.gaps + r) % length used.gaps) used.gaps)) (div-mul-add q (length used.gaps) r below)
      ∙ ap (λ (x : ℕ). used.first + q * sum used.gaps + sum (take x used.gaps)) (mod-mul-add q (length used.gaps) r below)

  not_below : (j k : ℕ) → j ≤ k → used_at used j ≤ used_at used k
  not_below j k order =
      elim (cases_lt j k) [
        | inl less ↦ omega (arith, rising_to edge used all k j less)
        | inr past ↦ (let same : j ≡ k = omega (arith, order, past) in omega (arith, ap (λ (x : ℕ). used_at used x) same))
      ]

  pub place_before : (m : ℕ) → m < used.first → place_of used m ≡ None
  place_before m less = no_place used m (λ k is. omega (arith, first_number used some, not_below 0 k (omega arith), is, less))

  pub place_at : (m q r : ℕ) → r < length used.gaps → m ≡ used.first + q * sum used.gaps + sum (take r used.gaps) → place_of used m ≡ Some (q * length used.gaps + r)
  place_at m q r below is = place_found edge used all m (q * length used.gaps + r) (at_place q r below ∙ sym is)

  pub place_small : (m q r : ℕ) → r < length used.gaps → m ≡ used.first + q * sum used.gaps + sum (take r used.gaps) → q * length used.gaps + r ≤ m
  place_small m q r below is = omega (arith, at_least edge used all (q * length used.gaps + r), at_place q r below, is)

  pub place_between : (m q r : ℕ) → r < length used.gaps → used.first + q * sum used.gaps + sum (take r used.gaps) < m →
      m < used.first + q * sum used.gaps + sum (take (r + 1) used.gaps) → place_of used m ≡ None
  place_between m q r below low high =
      let a = at_place q r below in
      let part = mod-mul-add q (length used.gaps) r below in
      let gap : get_or used.gaps ((q * length used.gaps + r) % length used.gaps) 0 ≡ get_or used.gaps r 0 = ap (λ (x : ℕ). get_or used.gaps x 0) part in
      let more = sum_by_more (λ (y : ℕ). y) used.gaps r 0 below in
      no_place used m (λ k is.
      elim (cases_lt (q * length used.gaps + r) k) [
        | inl later ↦ (let b = not_below (q * length used.gaps + r + 1) k (omega (arith, later)) in omega (arith, a, next_gap used some (q * length used.gaps + r), gap, more, b, is, high))
        | inr before ↦ (let b = not_below k (q * length used.gaps + r) before in omega (arith, a, b, is, low))
      ])

  -- so many used instances come up to x
  pub counts_at : (x q r : ℕ) → r < length used.gaps → used.first + q * sum used.gaps + sum (take r used.gaps) ≤ x →
      x < used.first + q * sum used.gaps + sum (take (r + 1) used.gaps) → CountsUsed used (x + 1) (q * length used.gaps + r + 1) × (q * length used.gaps + r ≤ x)
  counts_at x q r below low high =
      let a = at_place q r below in
      let part = mod-mul-add q (length used.gaps) r below in
      let gap : get_or used.gaps ((q * length used.gaps + r) % length used.gaps) 0 ≡ get_or used.gaps r 0 = ap (λ (y : ℕ). get_or used.gaps y 0) part in
      let more = sum_by_more (λ (y : ℕ). y) used.gaps r 0 below in
      let long = some in (
        record {
          none = λ zero_gaps. absurd (omega (arith, zero_gaps, long));
          below = λ _ k. (
            (λ inside. (let up = not_below k (q * length used.gaps + r) (omega (arith, inside)) in omega (arith, up, a, low))),
            (λ early.
                elim (cases_lt k (q * length used.gaps + r + 1)) [
                  | inl inside ↦ inside
                  | inr past ↦ absurd (let up = not_below (q * length used.gaps + r + 1) k past in omega (arith, up, a, next_gap used some (q * length used.gaps + r), gap, more, high, early))
                ]),
          );
        },
        omega (arith, at_least edge used all (q * length used.gaps + r), a, low),
      )

pub enumerated : (used : Used) (gaps : ℕ) → IsOrdered used → gaps ≡ length used.gaps → (gaps ≡ 0 → ⊥) → (edge : Edge) × EnumeratesUsed edge used
enumerated used gaps is long some = elim is.order [
  | inl none ↦ absurd (some (long ∙ none))
  | inr all ↦ all
]

-- what the calls tell
pub record Known (used : Used) (m gaps total : ℕ) : Type 0 where
  pub edge : Edge
  pub all : EnumeratesUsed edge used
  pub first : used.first ≤ m
  pub long : gaps ≡ length used.gaps
  pub whole : total ≡ sum used.gaps

pub known : (used now : Used) (m gaps total : ℕ) → now ≡ used → IsOrdered used → gaps ≡ length now.gaps → (gaps ≡ 0 → ⊥) → now.first ≤ m → total ≡ sum (take gaps used.gaps) → Known used m gaps total
known used now m gaps total same is long some first whole =
    let gaps_long : gaps ≡ length used.gaps = long ∙ ap (λ (u : Used). length u.gaps) same in
    let e = enumerated used gaps is gaps_long some in
    record {
      edge = e.0;
      all = e.1;
      first = omega (arith, ap (λ (u : Used). u.first) same, first);
      long = gaps_long;
      whole = whole ∙ ap sum (take_all gaps used.gaps (omega (arith, gaps_long)));
    }

module _ (used : Used) (m gaps total : ℕ) (k : Known used m gaps total) where
  split : (m - used.first) % total + (m - used.first) / total * total ≡ m - used.first
  split = mod-add-div' (m - used.first) total

  pub some_total : 1 ≤ total
  some_total = omega (arith, some_sum k.edge used k.all, k.whole)

  pub rest_below : (m - used.first) % total < sum used.gaps
  rest_below = omega (arith, mod_below (m - used.first) total some_total, k.whole)

  pub number : (rest : ℕ) → (m - used.first) % total ≡ rest → m ≡ used.first + (m - used.first) / total * sum used.gaps + rest
  number rest is = (let s = split in let f = k.first in omega (arith, s, f, ap (λ (x : ℕ). (m - used.first) / total * x) k.whole, is))

  pub is_at : (last : ℕ) → last < length used.gaps → sum (take last used.gaps) ≡ (m - used.first) % total →
      (Some ((m - used.first) / total * gaps + last) ≡ place_of used m) × ((m - used.first) / total * gaps + last ≤ m)
  is_at last below is =
      let n = number (sum (take last used.gaps)) (sym is) in
      let g : (m - used.first) / total * gaps + last ≡ (m - used.first) / total * length used.gaps + last = ap (λ (x : ℕ). (m - used.first) / total * x + last) k.long in
      let p = place_at k.edge used k.all m ((m - used.first) / total) last below n in
      (ap (λ (x : ℕ). Some x) g ∙ sym p, omega (arith, g, place_small k.edge used k.all m ((m - used.first) / total) last below n))

  pub is_not : (last : ℕ) → last < length used.gaps → (sum (take last used.gaps) ≡ (m - used.first) % total → ⊥) → sum (take last used.gaps) ≤ (m - used.first) % total →
      (m - used.first) % total < sum (take (last + 1) used.gaps) → ◌≡◌ {A = Option ℕ} None (place_of used m)
  is_not last below differs low high =
      let n = number ((m - used.first) % total) refl in
      elim (cases_lt (sum (take last used.gaps)) ((m - used.first) % total)) [
        | inl less ↦ sym (place_between k.edge used k.all m ((m - used.first) / total) last below (omega (arith, n, less)) (omega (arith, n, high)))
        | inr same ↦ absurd (differs (omega (arith, same, low)))
      ]

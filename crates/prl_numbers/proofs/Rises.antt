-- Releases of one hyperperiod that come again in each: they do not fall, and those before a date are counted by division.
use Rattle.prl_base.proofs.Standard.{◌≡◌, ◌+◌, ◌-◌, ◌*◌, ◌/◌, ◌%◌, ◌<◌, ◌≤◌, ◌↔◌, ℕ, List, length, inl, inr, ◌∙◌, ap, subst, arith, slice_index, mul-le-mul_right, mod-add-div', cases_lt, div-mul-add}
use Rattle.prl_base.proofs.Standard.{mod-mul-add, mod_below}
use Rattle.prl_numbers.specs.Counts.{at_turn, AreReleased, IsLeastTurn}

module _ (releases : List ℕ) (hyper : ℕ) (are : AreReleased releases hyper) where
  abbrev f : ℕ → ℕ
  f r = slice_index releases r

  abbrev K : ℕ
  K = length releases

  pub turn_at : (q r : ℕ) → r < length releases → at_turn releases hyper (q * length releases + r) ≡ slice_index releases r + q * hyper
  turn_at q r inside =
      let d = div-mul-add q (length releases) r inside in
      let m = mod-mul-add q (length releases) r inside in
      ap (λ (x : ℕ). slice_index releases x + (q * length releases + r) / length releases * hyper) m ∙ ap (λ (x : ℕ). slice_index releases r + x * hyper) d

  inside : (x : ℕ) → x % length releases < length releases
  inside x = mod_below x (length releases) are.some

  whole : (x : ℕ) → x % length releases + x / length releases * length releases ≡ x
  whole x = mod-add-div' x (length releases)

  -- a place in a later turn
  quotients : (x y : ℕ) → x ≤ y → x / length releases ≤ y / length releases
  quotients x y order =
      elim (cases_lt (y / length releases) (x / length releases)) [
        | inl below ↦ absurd
            (let e : (y / length releases + 1) * length releases ≡ y / length releases * length releases + length releases = omega arith in
            let a = whole x in
            let b = whole y in
            let i = inside y in
            omega (arith, mul-le-mul_right (length releases) (let g : y / length releases + 1 ≤ x / length releases = omega (arith, below) in g), e, a, b, i, order))
        | inr above ↦ above
      ]

  pub turns_rise : (x y : ℕ) → x ≤ y → at_turn releases hyper x ≤ at_turn releases hyper y
  turns_rise x y order =
      elim (cases_lt (x / length releases) (y / length releases)) [
        | inl below ↦
            (let e : (x / length releases + 1) * hyper ≡ x / length releases * hyper + hyper = omega arith in
            let a = are.within (x % length releases) (inside x) in
            let b = are.rises 0 (y % length releases) (omega arith) (inside y) in
            omega (arith, mul-le-mul_right hyper (let g : x / length releases + 1 ≤ y / length releases = omega (arith, below) in g), e, a, b))
        | inr above ↦
            (let same : x / length releases ≡ y / length releases = omega (arith, above, quotients x y order) in
            let a = whole x in
            let b = whole y in
            let r = are.rises (x % length releases) (y % length releases) (omega (arith, a, b, ap (λ (k : ℕ). k * length releases) same, order)) (inside y) in
            omega (arith, ap (λ (k : ℕ). k * hyper) same, r))
      ]

  -- the first place whose release is not before the date
  module _ (turns rest date : ℕ) (few : rest ≤ length releases) (low : slice_index releases 0 + turns * hyper < date)
      (high : date ≤ slice_index releases 0 + turns * hyper + hyper)
      (before : (x : ℕ) → x < rest → slice_index releases x < date - turns * hyper)
      (after : (x : ℕ) → rest ≤ x → x < length releases → date - turns * hyper ≤ slice_index releases x) where
    some_rest : 1 ≤ rest
    some_rest =
        elim (cases_lt 0 rest) [
          | inl more ↦ more
          | inr none ↦ absurd (omega (arith, after 0 none are.some, low))
        ]

    last_before : at_turn releases hyper (turns * length releases + (rest - 1)) < date
    last_before = omega (arith, before (rest - 1) (omega (arith, some_rest)), turn_at turns (rest - 1) (omega (arith, some_rest, few)), low)

    first_after : date ≤ at_turn releases hyper (turns * length releases + rest)
    first_after =
        elim (cases_lt rest (length releases)) [
          | inl less ↦
              (let a = after rest (omega arith) less in
              let at = turn_at turns rest less in
              omega (arith, a, at, low))
          | inr all ↦
              (let e : (turns + 1) * length releases + 0 ≡ turns * length releases + rest = (let g : (turns + 1) * length releases ≡ turns * length releases + length releases = omega arith in omega (arith, g, all, few)) in
              let at = turn_at (turns + 1) 0 are.some in
              let same = ap (λ (k : ℕ). at_turn releases hyper k) e in
              let t : (turns + 1) * hyper ≡ turns * hyper + hyper = omega arith in
              omega (arith, at, same, t, high))
        ]

    pub counted : (x : ℕ) → (x < turns * length releases + rest) ↔ (at_turn releases hyper x < date)
    counted x = (
      (λ below.
          omega (arith, turns_rise x (turns * length releases + (rest - 1)) (omega (arith, below, some_rest)), last_before)),
      (λ early.
          elim (cases_lt x (turns * length releases + rest)) [
            | inl below ↦ below
            | inr above ↦ absurd (omega (arith, turns_rise (turns * length releases + rest) x above, first_after, early))
          ]),
    )

-- one instance more
pub next_least : (releases : List ℕ) (hyper : ℕ) → AreReleased releases hyper → (ends : List ℕ) (k count next before : ℕ) → IsLeastTurn releases hyper ends k count →
    ((x : ℕ) → (x < before) ↔ (at_turn releases hyper x < slice_index ends k)) → count ≤ next → before ≤ k + next → ((fewer : ℕ) → count ≤ fewer → before ≤ k + fewer → next ≤ fewer) →
    IsLeastTurn releases hyper ends (k + 1) next
next_least releases hyper are ends k count next before is counts more reach least = record {
  some = omega (arith, is.some, more);
  fits = λ j below.
      elim (cases_lt j k) [
        | inl old ↦
            omega (arith, is.fits j old, turns_rise releases hyper are (j + count) (j + next) (omega (arith, more)))
        | inr here ↦
            (let same : k ≡ j = omega (arith, below, here) in
            subst (λ (i : ℕ). slice_index ends i ≤ at_turn releases hyper (i + next)) same
            (elim (cases_lt (at_turn releases hyper (k + next)) (slice_index ends k)) [
              | inl early ↦ absurd (omega (arith, (counts (k + next)).1 early, reach))
              | inr late ↦ late
            ]))
      ];
  least = λ fewer some over.
      (least fewer (is.least fewer some (λ j below. over j (omega (arith, below)))) (elim (cases_lt (k + fewer) before) [
        | inl inside ↦ absurd (omega (arith, (counts (k + fewer)).0 inside, over k (omega arith)))
        | inr past ↦ past
      ]));
}

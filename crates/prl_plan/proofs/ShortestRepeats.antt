-- The shortest list that repeats as a list does, found among the divisors of its length.
use Rattle.prl_base.proofs.Standard.{◌≡◌, ◌+◌, ◌-◌, ◌*◌, ◌/◌, ◌%◌, ◌<◌, ◌≤◌, ◌⊎◌, ℕ, zero, suc, List, [], ◌∷◌, length, take, inl, inr, refl, sym, ◌∙◌, ap, arith, slice_get, add-mul-mod_self_right}
use Rattle.prl_base.proofs.Standard.{mod-eq_of_lt, mod-add-div', cases_eq, cases_lt, mod_below}
use Rattle.std.proofs.Common.{length-take-le}
use Rattle.prl_plan.proofs.Searches.{all_or_least}
use Rattle.prl_plan.specs.Repeats.{repeated, ComesAgain, ComesWithin, IsShortestRepeat, IsLeastRepeat}

get_take : {A : Type 0} (list : List A) (r i : ℕ) → i < r → slice_get (take r list) i ≡ slice_get list i
get_take list zero i below = absurd (omega (arith, below))
get_take [] (suc r) i below = refl
get_take (x ∷ list) (suc r) zero below = refl
get_take (x ∷ list) (suc r) (suc i) below = get_take list r i (omega (arith, below))

module _ {A : Type 0} (list : List A) where
  within_often : (step : ℕ) → ComesWithin list step → (times i : ℕ) → i + times * step < length list → slice_get list (i + times * step) ≡ slice_get list i
  within_often step comes zero i inside = ap (λ (k : ℕ). slice_get list k) (let e : i + 0 * step ≡ i = omega arith in e)
  within_often step comes (suc times) i inside =
      let e : i + suc times * step ≡ i + times * step + step = omega arith in
      ap (λ (k : ℕ). slice_get list k) e ∙ comes (i + times * step) (omega (arith, e, inside)) ∙ within_often step comes times i (omega (arith, e, inside))

  -- a divisor of the length that serves within the list serves without end
  pub comes_again : (step : ℕ) → 1 ≤ step → 1 ≤ length list → length list % step ≡ 0 → ComesWithin list step → ComesAgain list step
  comes_again step some long divides comes n =
      let below : n % length list < length list = mod_below n (length list) long in
      let turns : length list % step + length list / step * step ≡ length list = mod-add-div' (length list) step in
      let whole : n % length list + n / length list * length list ≡ n = mod-add-div' n (length list) in
      elim (cases_lt (n % length list + step) (length list)) [
        | inl inside ↦
            (let at : n + step ≡ n % length list + step + n / length list * length list = omega (arith, whole) in
            let m : (n + step) % length list ≡ n % length list + step =
            ap (λ (k : ℕ). k % length list) at ∙ add-mul-mod_self_right (n % length list + step) (n / length list) (length list) ∙ mod-eq_of_lt inside in
            ap (λ (k : ℕ). slice_get list k) m ∙ comes (n % length list) inside)
        | inr past ↦
            (let q : ℕ = length list / step in
            let more : 1 ≤ length list / step = some_turn (length list / step) step (length list) long (omega (arith, turns, divides)) in
            let last : (length list / step - 1) * step + step ≡ length list / step * step = times_before (length list / step) step more in
            let small : n % length list + step - length list < length list = (let s : step ≤ length list = within step (length list / step) (length list) more (omega (arith, turns, divides)) in omega (arith, below, s)) in
            let at : n + step ≡ n % length list + step - length list + (n / length list + 1) * length list =
            (let e : (n / length list + 1) * length list ≡ n / length list * length list + length list = omega arith in omega (arith, whole, past, e)) in
            let m : (n + step) % length list ≡ n % length list + step - length list =
            ap (λ (k : ℕ). k % length list) at ∙ add-mul-mod_self_right (n % length list + step - length list) (n / length list + 1) (length list) ∙ mod-eq_of_lt small in
            let up : n % length list + step - length list + (length list / step - 1) * step ≡ n % length list = omega (arith, last, turns, divides, past) in
            let often = within_often step comes (length list / step - 1) (n % length list + step - length list) (omega (arith, up, below)) in
            ap (λ (k : ℕ). slice_get list k) m ∙ sym often ∙ ap (λ (k : ℕ). slice_get list k) up)
      ]
    where
      some_turn : (q s l : ℕ) → 1 ≤ l → q * s ≡ l → 1 ≤ q
      some_turn zero s l long is = absurd (let z : 0 * s ≡ 0 = omega arith in omega (arith, z, is, long))
      some_turn (suc q) s l long is = omega arith

      times_before : (q s : ℕ) → 1 ≤ q → (q - 1) * s + s ≡ q * s
      times_before zero s some = absurd (omega (arith, some))
      times_before (suc q) s some = (let e : suc q * s ≡ q * s + s = omega arith in let f : suc q - 1 ≡ q = omega arith in omega (arith, e, ap (λ (k : ℕ). k * s) f))

      within : (s q l : ℕ) → 1 ≤ q → q * s ≡ l → s ≤ l
      within s zero l some is = absurd (omega (arith, some))
      within s (suc q) l some is = (let e : suc q * s ≡ q * s + s = omega arith in omega (arith, e, is))

  again_often : (step : ℕ) → ComesAgain list step → (times n : ℕ) → repeated list (n + times * step) ≡ repeated list n
  again_often step again zero n = ap (λ (k : ℕ). repeated list k) (let e : n + 0 * step ≡ n = omega arith in e)
  again_often step again (suc times) n =
      ap (λ (k : ℕ). repeated list k) (let e : n + suc times * step ≡ n + times * step + step = omega arith in e) ∙ again (n + times * step) ∙ again_often step again times n

  own_length : (n : ℕ) → repeated list (n + length list) ≡ repeated list n
  own_length n =
      ap (λ (k : ℕ). slice_get list k)
      (ap (λ (k : ℕ). (n + k) % length list) (let e : length list ≡ 1 * length list = omega arith in e) ∙ add-mul-mod_self_right n 1 (length list))

  -- what is left of the length over a step that serves, serves
  rest_serves : (step : ℕ) → ComesAgain list step → ComesAgain list (length list % step)
  rest_serves step again n =
      let at : n + length list % step + length list / step * step ≡ n + length list = omega (arith, mod-add-div' (length list) step) in
      sym (again_often step again (length list / step) (n + length list % step)) ∙ ap (λ (k : ℕ). repeated list k) at ∙ own_length n

  -- and a step that serves without end serves within the list
  stays_within : (step : ℕ) → ComesAgain list step → ComesWithin list step
  stays_within step again i inside =
      ap (λ (k : ℕ). slice_get list k) (sym (mod-eq_of_lt inside)) ∙ again i ∙ ap (λ (k : ℕ). slice_get list k) (mod-eq_of_lt (omega (arith, inside)))

  module _ (shortest : ℕ) (some : 1 ≤ shortest) (fits : shortest ≤ length list) (divides : length list % shortest ≡ 0) (serves : ComesWithin list shortest)
      (none_less : (d : ℕ) → 1 ≤ d → d < shortest → length list % d ≡ 0 → ComesWithin list d → ⊥) where
    least_step : (most step : ℕ) → step ≤ most → 1 ≤ step → ComesAgain list step → shortest ≤ step
    least_step zero step bound positive again = absurd (omega (arith, bound, positive))
    least_step (suc most) step bound positive again =
        elim (cases_lt step shortest) [
          | inl less ↦
              elim (cases_lt 0 (length list % step)) [
                | inl left ↦
                    (let part : length list % step < step = mod_below (length list) step positive in
                    omega (arith, least_step most (length list % step) (omega (arith, part, bound)) left (rest_serves step again), part))
                | inr done ↦ absurd (none_less step positive less (omega (arith, done)) (stays_within step again))
              ]
          | inr above ↦ above
        ]

    pub least_repeat : IsLeastRepeat list shortest
    least_repeat = record {
      some = some;
      within = fits;
      divides = divides;
      again = comes_again shortest some (omega (arith, some, fits)) divides serves;
      shortest = record { least = λ step positive again. least_step step step (omega arith) positive again };
    }

  -- the whole list, where no divisor of its length serves
  pub whole_repeat : 1 ≤ length list → ((d : ℕ) → 1 ≤ d → d < length list → length list % d ≡ 0 → ComesWithin list d → ⊥) →
      IsLeastRepeat list (length list)
  whole_repeat some none_less =
      least_repeat (length list) some (omega arith)
      (ap (λ (k : ℕ). k % length list) (let e : length list ≡ 0 + 1 * length list = omega arith in e)
      ∙ add-mul-mod_self_right 0 1 (length list) ∙ mod-eq_of_lt (omega (arith, some)))
      (λ i inside. absurd (omega (arith, inside))) none_less

  -- where what stands at two places can be told apart, there is a least repeat
  module _ (tells : (i j : ℕ) → (slice_get list i ≡ slice_get list j) ⊎ (slice_get list i ≡ slice_get list j → ⊥)) where
    abbrev Same : ℕ → ℕ → Type 0
    Same step i = i + step < length list → slice_get list (i + step) ≡ slice_get list i

    same_or_not : (step i : ℕ) → Same step i ⊎ (Same step i → ⊥)
    same_or_not step i = elim (cases_lt (i + step) (length list)) [
      | inr past ↦ inl (λ inside. absurd (omega (arith, past, inside)))
      | inl inside ↦ elim (tells (i + step) i) [ inl same ↦ inl (λ _. same) | inr differ ↦ inr (λ same. differ (same inside)) ]
    ]

    within_or_not : (step : ℕ) → ComesWithin list step ⊎ (ComesWithin list step → ⊥)
    within_or_not step = elim (all_or_least (Same step) (λ i. Same step i → ⊥) (same_or_not step) (length list)) [
      | inl all ↦ inl (λ i inside. all i (omega (arith, inside)) inside)
      | inr least ↦ inr (λ comes. least.1.is (comes least.0))
    ]

    abbrev Serves : ℕ → Type 0
    Serves step = (1 ≤ step) × (length list % step ≡ 0) × ComesWithin list step

    serves_or_not : (step : ℕ) → (Serves step → ⊥) ⊎ Serves step
    serves_or_not step = elim (cases_lt 0 step) [
      | inr none ↦ inl (λ serves. absurd (omega (arith, none, serves.0)))
      | inl some ↦ elim (cases_eq (length list % step) 0) [
        | inr apart ↦ inl (λ serves. apart serves.1)
        | inl divides ↦ elim (within_or_not step) [
          | inl comes ↦ inr (omega (arith, some), divides, comes)
          | inr not ↦ inl (λ serves. not serves.2)
        ]
      ]
    ]

    pub some_repeat : 1 ≤ length list → (step : ℕ) × IsLeastRepeat list step
    some_repeat some = elim (all_or_least (λ step. Serves step → ⊥) Serves serves_or_not (length list)) [
      | inl none ↦ (length list, whole_repeat some (λ d positive less divides comes. none d less (positive, divides, comes)))
      | inr least ↦ (
        least.0,
        (let serves = least.1.is in least_repeat least.0 serves.0 (omega (arith, least.1.below)) serves.1 serves.2
            (λ d positive less divides comes. least.1.earlier d less (positive, divides, comes))),
      )
    ]

  module _ (step : ℕ) (is : IsLeastRepeat list step) where
    -- the list cut there repeats as the whole does
    pub cut_repeats : (n : ℕ) → repeated (take step list) n ≡ repeated list n
    cut_repeats n =
        let below : n % step < step = mod_below n step is.some in
        ap (λ (k : ℕ). slice_get (take step list) (n % k)) (length-take-le step list is.within) ∙ get_take list step (n % step) below
        ∙ ap (λ (k : ℕ). slice_get list k) (sym (mod-eq_of_lt (let e : n % step < length list = omega (arith, below, is.within) in e)))
        ∙ sym (again_often step is.again (n / step) (n % step)) ∙ ap (λ (k : ℕ). repeated list k) (mod-add-div' n step)

    -- and no shorter one does
    pub cut_is_shortest : IsShortestRepeat (take step list)
    cut_is_shortest = record {
      least = λ other positive again.
          (let mine : ComesAgain list other = λ n. sym (cut_repeats (n + other)) ∙ again n ∙ cut_repeats n in
          omega (arith, length-take-le step list is.within, is.shortest.least other positive mine));
    }

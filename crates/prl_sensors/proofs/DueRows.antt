-- The rows of the actuators that are due at a date are those of all actuators at it.
use Rattle.prl_base.proofs.Standard.{◌≡◌, ◌+◌, ◌<◌, ◌≤◌, ◌++◌, ◌⊎◌, ◌%◌, ◌/◌, ◌-◌, ◌*◌, inl, inr, ℕ, zero, suc, true, All, List, [], ◌∷◌, length, Option, None, Some, map, slice_get, slice_index_or}
use Rattle.prl_base.proofs.Standard.{take, slice_index, nat_le, refl, sym, ◌∙◌, ap, subst, arith, Contains, flat_map, IsStrictlyIncreasing, cases_Bool, cases_order, le-leb, append-nil, get_or_default}
use Rattle.prl_base.proofs.Standard.{length-map, take_more, mul-mod_left, get_or_from_slice_get, same_Some, slice_get-map, slice_get_within}
use Rattle.std.proofs.lemmas.List.{append_assoc}
use Rattle.std.proofs.lemmas.List.Concat.{flat_map-append}
use Rattle.prl_base.specs.Clocks.{IsClock, IsDate}
use Rattle.prl_base.specs.declared.operators.Clock.{Clock}
use Rattle.prl_base.specs.declared.values.Value.{Value}
use Rattle.prl_calendar.specs.Calendars.{AreAllClocks, AreDue, HasDate}
use Rattle.prl_flow.specs.Actuators.{Row, is_date, row_at, row_text}
use Rattle.prl_flow.specs.declared.programs.OutFlow.{OutFlow}
use Rattle.prl_sensors.specs.Ends.{EndsBefore}
use Rattle.prl_sensors.proofs.RowDates.{date_of}

contains_cases : (p : ℕ) (due : List ℕ) (i : ℕ) → Contains (p ∷ due) i → (p ≡ i) ⊎ Contains due i
contains_cases p due i (zero, below, is) = inl is
contains_cases p due i (suc k, below, is) = inr (k, omega (arith, below), is)

none_contained : (i : ℕ) → Contains [] i → ⊥
none_contained i (k, below, is) = omega (arith, below)

tail_contains : (p : ℕ) (due : List ℕ) (i : ℕ) → Contains due i → Contains (p ∷ due) i
tail_contains p due i (k, below, is) = (suc k, omega (arith, below), is)

tail_rising : (p : ℕ) (due : List ℕ) → IsStrictlyIncreasing (p ∷ due) → IsStrictlyIncreasing due
tail_rising p due rising = λ k below.
    let next : suc k + 1 ≡ suc (k + 1) = omega arith in
    subst (λ m. slice_index due k < slice_index (p ∷ due) m) next (rising (suc k) (omega (arith, below)))

-- the first of rising numbers is below all others
first_below : (p : ℕ) (due : List ℕ) → IsStrictlyIncreasing (p ∷ due) → (i : ℕ) → Contains due i → p < i
first_below p [] rising i there = absurd (none_contained i there)
first_below p (d ∷ due) rising i there =
    let less : p < d = rising 0 (omega arith) in
    elim (contains_cases d due i there) [
      | inl same ↦ omega (arith, less, same)
      | inr later ↦ omega (arith, less, first_below d due (tail_rising p (d ∷ due) rising) i later)
    ]

module _ {X A : Type 0} (f : ℕ → List A) (g : X → List A) where
  -- what is at rising places is what is in the whole list, where nothing is at the others
  due_of_all :
      (xs : List X) (b : ℕ) (due : List ℕ)
      → ((j : ℕ) (x : X) → slice_get xs j ≡ Some x → f (b + j) ≡ g x)
      → IsStrictlyIncreasing due
      → ((i : ℕ) → Contains due i → (b ≤ i) × (i < b + length xs))
      → ((j : ℕ) (x : X) → slice_get xs j ≡ Some x → Contains due (b + j) ⊎ (g x ≡ []))
      → flat_map f due ≡ flat_map g xs
  due_of_all [] b [] same rising each all = refl
  due_of_all [] b (p ∷ due) same rising each all = let h = each p (0, omega arith, refl) in absurd (omega (arith, h.0, h.1))
  due_of_all (x ∷ xs) b [] same rising each all =
      let none : g x ≡ [] = elim (all 0 x refl) [ inl there ↦ absurd (none_contained _ there) | inr none ↦ none ] in
      rw none (due_of_all xs (b + 1) [] (λ j y found. ap f (omega arith) ∙ same (suc j) y found) rising (λ i there. absurd (none_contained i there))
      (λ j y found. elim (all (suc j) y found) [ inl there ↦ absurd (none_contained _ there) | inr other ↦ inr other ]))
  due_of_all (x ∷ xs) b (p ∷ due) same rising each all = elim (cases_order p b) [
    | inl here ↦
        let first : f p ≡ g x = ap f (omega (arith, here)) ∙ same 0 x refl in
        let rest : flat_map f due ≡ flat_map g xs =
        due_of_all xs (b + 1) due (λ j y found. ap f (omega arith) ∙ same (suc j) y found) (tail_rising p due rising)
        (λ i there. (omega (arith, here, first_below p due rising i there), let h = each i (tail_contains p due i there) in omega (arith, h.1)))
        (λ j y found. elim (all (suc j) y found) [
          | inl there ↦ elim (contains_cases p due (b + suc j) there) [
            | inl is ↦ absurd (omega (arith, here, is))
            | inr later ↦ inl (subst (Contains due) (omega arith) later)
          ]
          | inr none ↦ inr none
        ]) in
        rw (first, rest) refl
    | inr apart ↦
        let past : b < p = elim apart [ inl less ↦ let h = each p (0, omega arith, refl) in absurd (omega (arith, less, h.0)) | inr more ↦ more ] in
        let none : g x ≡ [] = elim (all 0 x refl) [
          | inl there ↦ elim (contains_cases p due (b + 0) there) [
            | inl is ↦ absurd (omega (arith, past, is))
            | inr later ↦ absurd (omega (arith, past, first_below p due rising (b + 0) later))
          ]
          | inr none ↦ none
        ] in
        let rest : flat_map f (p ∷ due) ≡ flat_map g xs =
        due_of_all xs (b + 1) (p ∷ due) (λ j y found. ap f (omega arith) ∙ same (suc j) y found) rising
        (λ i there. (
          elim (contains_cases p due i there) [ inl is ↦ omega (arith, past, is) | inr later ↦ omega (arith, past, first_below p due rising i later) ],
          let h = each i there in omega (arith, h.1),
        ))
        (λ j y found. elim (all (suc j) y found) [ inl there ↦ inl (subst (Contains (p ∷ due)) (omega arith) there) | inr none ↦ inr none ]) in
        rw none rest
  ]

-- the row at a date of the actuator at a place, if there is one
abbrev pub row_of : ℕ → Option OutFlow → List Row
row_of t None = []
row_of t (Some out) = row_at t out

pub due_rows : (outs : List OutFlow) (t : ℕ) (due : List ℕ) → AreDue (map (λ out. out.clock) outs) t due
    → ((k : ℕ) (out : OutFlow) → slice_get outs k ≡ Some out → IsDate out.clock t ⊎ (row_at t out ≡ []))
    → flat_map (λ p. row_of t (slice_get outs p)) due ≡ flat_map (row_at t) outs
due_rows outs t due due_at dated =
    due_of_all (λ p. row_of t (slice_get outs p)) (row_at t) outs 0 due (λ j x found. ap (λ (o : Option OutFlow). row_of t o) (ap (slice_get outs) (omega arith) ∙ found)) due_at.rising
    (λ i there.
    let h = due_at.each i there in
    let within = slice_get_within (map (λ (out : OutFlow). out.clock) outs) i h.0 h.1 in
    (omega arith, omega (arith, within, length-map outs (λ (out : OutFlow). out.clock))))
    (λ j x found. elim (dated j x found) [
      | inl date ↦ inl (subst (Contains due) (omega arith) (due_at.all j (x.clock, slice_get-map (λ (out : OutFlow). out.clock) outs j ∙ rw found refl, date)))
      | inr none ↦ inr none
    ])

-- a date of the clock has its row
pub date_is : (c : Clock) (t : ℕ) → IsClock c → IsDate c t → is_date c t ≡ true
date_is c t clock (k, is) =
    let late : nat_le c.start t ≡ true = le-leb c.start t (omega (arith, is)) in
    let after : t - c.start ≡ k * c.period = omega (arith, is) in
    let whole : (t - c.start) % c.period ≡ 0 = ap (λ n. n % c.period) after ∙ mul-mod_left k c.period in
    rw (late, whole) refl

-- an actuator has a row at none but its dates
pub dated : (outs : List OutFlow) (t : ℕ) (k : ℕ) (out : OutFlow) → slice_get outs k ≡ Some out → IsDate out.clock t ⊎ (row_at t out ≡ [])
dated outs t k out found = elim (cases_Bool (is_date out.clock t)) [
  | inl date ↦ inl ((t - out.clock.start) / out.clock.period, date_of out.clock t date)
  | inr other ↦ inr (rw other refl)
]

-- no row where no actuator is due
pub none_due : (outs : List OutFlow) (t : ℕ) → ((i : ℕ) → HasDate (map (λ out. out.clock) outs) i t → ⊥) → flat_map (row_at t) outs ≡ []
none_due [] t none = refl
none_due (out ∷ outs) t none =
    let first : row_at t out ≡ [] = elim (dated (out ∷ outs) t 0 out refl) [ inl date ↦ absurd (none 0 (out.clock, refl, date)) | inr empty ↦ empty ] in
    rw (first, none_due outs t (λ i has. none (suc i) has)) refl

-- the text of the row of an actuator at one of its dates
pub row_some : (out : OutFlow) (t : ℕ) (v : Value) → is_date out.clock t ≡ true → slice_get out.values ((t - out.clock.start) / out.clock.period) ≡ Some v
    → flat_map row_text (row_at t out) ≡ row_text (record { name = out.name; instance = (t - out.clock.start) / out.clock.period; date = t; value = v })
row_some out t v date found = rw (date, found) (append-nil _)

pub row_none : (out : OutFlow) (t : ℕ) → is_date out.clock t ≡ true → slice_get out.values ((t - out.clock.start) / out.clock.period) ≡ None
    → flat_map row_text (row_at t out) ≡ []
row_none out t date none = rw (date, none) refl

module _ (outs : List OutFlow) (t : ℕ) (due : List ℕ) (due_at : AreDue (map (λ out. out.clock) outs) t due) (k : ℕ) (below : k < length due) where
  due_has : HasDate (map (λ out. out.clock) outs) (slice_index_or due k 0) t
  due_has = due_at.each (slice_index_or due k 0) (k, below, get_or_default due k (slice_index_or due k 0) 0 below)

  pub due_within : slice_index_or due k 0 < length outs
  due_within =
      let within = slice_get_within (map (λ (out : OutFlow). out.clock) outs) (slice_index_or due k 0) due_has.0 due_has.1 in
      omega (arith, within, length-map outs (λ (out : OutFlow). out.clock))

  pub due_place : (out : OutFlow) → slice_get outs (slice_index_or due k 0) ≡ Some out → IsDate out.clock t
  due_place out found =
      let mapped : slice_get (map (λ (o : OutFlow). o.clock) outs) (slice_index_or due k 0) ≡ Some out.clock = slice_get-map (λ (o : OutFlow). o.clock) outs (slice_index_or due k 0) ∙ rw found refl in
      subst (λ (c : Clock). IsDate c t) (same_Some due_has.0 out.clock (sym due_has.1 ∙ mapped)) due_has.2

-- one row more
pub rows_more : (bytes : List ℕ) (outs : List OutFlow) (t : ℕ) (due : List ℕ) (k : ℕ) → k < length due → (out : OutFlow) → slice_get outs (slice_index_or due k 0) ≡ Some out
    → (bytes ++ flat_map row_text (flat_map (λ p. row_of t (slice_get outs p)) (take k due))) ++ flat_map row_text (row_at t out)
    ≡ bytes ++ flat_map row_text (flat_map (λ p. row_of t (slice_get outs p)) (take (k + 1) due))
rows_more bytes outs t due k below out found =
    let f : ℕ → List Row = λ p. row_of t (slice_get outs p) in
    let own : f (slice_index_or due k 0) ≡ row_at t out = rw found refl in
    let last : take (k + 1) due ≡ take k due ++ slice_index_or due k 0 ∷ [] = take_more due k 0 below in
    let more : flat_map f (take (k + 1) due) ≡ flat_map f (take k due) ++ row_at t out =
    ap (flat_map f) last ∙ flat_map-append f (take k due) (slice_index_or due k 0 ∷ []) ∙ ap (λ (rows : List Row). flat_map f (take k due) ++ rows) (append-nil _ ∙ own) in
    append_assoc bytes (flat_map row_text (flat_map f (take k due))) (flat_map row_text (row_at t out))
    ∙ ap (λ (text : List ℕ). bytes ++ text) (sym (ap (flat_map row_text) more ∙ flat_map-append row_text (flat_map f (take k due)) (row_at t out)))

mapped_back : {A B : Type 0} (f : A → B) (xs : List A) (j : ℕ) (y : B) → slice_get (map f xs) j ≡ Some y → (x : A) × (slice_get xs j ≡ Some x) × (f x ≡ y)
mapped_back f [] j y e = absurd (cc)
mapped_back f (x ∷ xs) zero y e = (x, refl, same_Some (f x) y e)
mapped_back f (x ∷ xs) (suc j) y e = mapped_back f xs j y e

-- the actuators' clocks are clocks
pub clocks_are : (end : ℕ) (outs : List OutFlow) → All (EndsBefore end) outs → AreAllClocks (map (λ out. out.clock) outs)
clocks_are end outs ends i c found =
    let (out, at, is) = mapped_back (λ (o : OutFlow). o.clock) outs i c found in
    let within = slice_get_within outs i out at in
    let own : slice_index_or outs i out ≡ out = get_or_from_slice_get outs i out out at in
    subst IsClock (ap (λ (o : OutFlow). o.clock) own ∙ is) (ends i out within).clock

-- Turns of one date, moved on one after another.
use Rattle.prl_base.proofs.Standard.{◌≡◌, ◌+◌, ◌*◌, ◌^◌, ◌<◌, ◌≤◌, ◌⊎◌, inl, inr, ℕ, suc, true, false, List, [], ◌∷◌, length, slice_index_or, refl, sym, ◌∙◌, ap, subst, arith, cond, eqb, leb, sum_by}
use Rattle.prl_base.proofs.Standard.{Contains, IsDistinct, IsNonDecreasing, IsPermutation, lt_of_mul-lt-mul_right, mul-le-mul_right, cases_eq, cases_lt, eq-eqb, le-leb, lt-leb, ne_eqb, All-cons}
use Rattle.prl_base.proofs.Standard.{All-contains, All-from_recursion, All-tail, All-permutation, Contains-permutation, IsPermutation-sym, sum_by_popped, sum_by_pushed, IsDistinct-IsPermutation}
use Rattle.prl_base.proofs.Standard.{IsDistinct-cons, IsDistinct-head, IsDistinct-tail, IsStrictlyIncreasing-from_distinct, get_or_from_slice_get, same_Some, slice_get_within}
use Rattle.std.specs.List.{All}
use Rattle.prl_base.specs.Clocks.{date_at}
use Rattle.prl_base.specs.declared.operators.Clock.{Clock}
use Rattle.prl_calendar.specs.Calendars.{AreAllClocks, AreDue, HasDate, HasNoDate, IsNextDate}
use Rattle.prl_calendar.specs.Kinds.{AddsKind, AreSame, IsFirst}
use Rattle.prl_calendar.specs.Turns.{AreTurning, AreTurns, HasTurned, IsTurn, Turn, date_after, date_of, place_of, same_place}
use Rattle.prl_calendar.proofs.Places.{contains_cases, contains_head, contains_none, contains_tail, distinct_none, first_same, has_same}

eqb_flips : (x y : ℕ) → eqb x y ≡ eqb y x
eqb_flips x y = elim (cases_eq x y) [
  | inl same ↦ rw same refl
  | inr other ↦ rw (ne_eqb x y other, ne_eqb y x (λ e. other (sym e))) refl
]

pub same_place_flips : (x y : Turn) → same_place x y ≡ same_place y x
same_place_flips x y = eqb_flips (place_of x) (place_of y)

date_there : (clocks : List Clock) (i t : ℕ) → HasDate clocks i t → i < length clocks
date_there clocks i t (c, found, date) = slice_get_within clocks i c found

-- the turn of a place before the end has a date that is no later than any of the clock's
turn_le : (clocks : List Clock) (until from : ℕ) (turns : List Turn) → AreTurns clocks until from turns → (i s : ℕ) → HasDate clocks i s → from ≤ s → s < until
    → (e : Turn) × Contains turns e × AreSame clocks (place_of e) i × (date_of e ≤ s)
turn_le clocks until from turns h i s dated late before =
    let (e, there, same) = h.all i (date_there clocks i s dated) in
    (e, there, same, (All-contains (IsTurn clocks until from) turns e h.each there).next s (has_same clocks (place_of e) i s same dated) late before)

pub turning_none : (clocks : List Clock) (until from t : ℕ) (turns : List Turn) → AreTurns clocks until from turns → from ≤ t → t < until → All (λ e. t ≤ date_of e) turns
    → AreTurning clocks until t turns []
turning_none clocks until from t turns h late before least = record {
  first = λ k d below. (h.each k d below).first;
  late = least;
  dated = λ k d below. (h.each k d below).due;
  next = λ k d below s dated after end. (h.each k d below).next s dated (omega (arith, late, after)) end;
  apart = h.apart;
  all = h.all;
  found = λ i there. absurd (contains_none i there);
  left = λ i dated.
      let (e, there, same, le) = turn_le clocks until from turns h i t dated late before in
      let ge : t ≤ date_of e = All-contains (λ f. t ≤ date_of f) turns e least there in
      inr (e, there, same, omega (arith, le, ge));
  not_yet = λ e i there date due same. contains_none i due;
  distinct = distinct_none eqb;
}

-- the next date of a clock after one of its dates
module _ (clocks : List Clock) (clocked : AreAllClocks clocks) (until t h : ℕ) (before : t < until) (fits : until < 2 ^ 64) (dated : HasDate clocks h t) where
  period_is : (slice_index_or clocks h (record { period = 1; start = 0 })).period ≡ dated.0.period
  period_is = ap (λ (c : Clock). c.period) (get_or_from_slice_get clocks h dated.0 (record { period = 1; start = 0 }) dated.1)

  positive : 1 ≤ dated.0.period
  positive = clocked h dated.0 dated.1

  pub after_later : t < date_after clocks h t
  after_later = omega (arith, period_is, positive, before, fits)

  pub after_dated : date_after clocks h t < until → HasDate clocks h (date_after clocks h t)
  after_dated less =
      let (k, is) = dated.2 in
      let sum : date_after clocks h t ≡ t + dated.0.period = omega (arith, period_is, less, fits) in
      let next : t + dated.0.period ≡ date_at dated.0 (suc k) = omega (arith, is) in
      (dated.0, dated.1, (suc k, sum ∙ next))

  pub after_next : (s : ℕ) → HasDate clocks h s → t < s → s < until → date_after clocks h t ≤ s
  after_next s (c, found, (m, is)) later end =
      let same : c ≡ dated.0 = same_Some c dated.0 (sym found ∙ dated.1) in
      let (k, at) = dated.2 in
      let s_is : s ≡ date_at dated.0 m = is ∙ ap (λ (d : Clock). date_at d m) same in
      let less : k * dated.0.period < m * dated.0.period = omega (arith, s_is, at, later) in
      let fewer : suc k ≤ m = let l : k < m = lt_of_mul-lt-mul_right dated.0.period less in omega (arith, l) in
      let grows : suc k * dated.0.period ≤ m * dated.0.period = mul-le-mul_right dated.0.period fewer in
      omega (arith, period_is, s_is, at, grows)

turned_there : (t h : ℕ) (clocks : List Clock) (turns new : List Turn) → HasTurned clocks t h turns new → Contains turns (record { 0 = (t, h) })
turned_there t h clocks turns new turned =
    Contains-permutation (record { 0 = (t, h) } ∷ turned.rest) turns (record { 0 = (t, h) }) (IsPermutation-sym turns (record { 0 = (t, h) } ∷ turned.rest) turned.popped)
    (contains_head (record { 0 = (t, h) }) turned.rest)

pub turned_first : (clocks : List Clock) (until t h : ℕ) (turns new : List Turn) (due : List ℕ) → AreTurning clocks until t turns due → HasTurned clocks t h turns new → IsFirst clocks h
turned_first clocks until t h turns new due a turned = All-contains (λ e. IsFirst clocks (place_of e)) turns (record { 0 = (t, h) }) a.first (turned_there t h clocks turns new turned)

pub turned_later : (clocks : List Clock) → AreAllClocks clocks → (until t h : ℕ) (turns new : List Turn) (due : List ℕ) → t < until → until < 2 ^ 64 → AreTurning clocks until t turns due
    → HasTurned clocks t h turns new → t < date_after clocks h t
turned_later clocks clocked until t h turns new due before fits a turned =
    after_later clocks clocked until t h before fits
    (All-contains (λ e. date_of e < until → HasDate clocks (place_of e) (date_of e)) turns (record { 0 = (t, h) }) a.dated (turned_there t h clocks turns new turned) before)

pub turning_step : (clocks : List Clock) → AreAllClocks clocks → (until t h : ℕ) (turns new : List Turn) (due more : List ℕ) → t < until → until < 2 ^ 64
    → AreTurning clocks until t turns due → HasTurned clocks t h turns new → AddsKind clocks h due more → AreTurning clocks until t new more
turning_step clocks clocked until t h turns new due more before fits a turned adds =
    let x : Turn = record { 0 = (t, h) } in
    let y : Turn = record { 0 = (date_after clocks h t, h) } in
    let rest = turned.rest in
    let x_there : Contains turns x = Contains-permutation (x ∷ rest) turns x (IsPermutation-sym turns (x ∷ rest) turned.popped) (contains_head x rest) in
    let rest_there : (e : Turn) → Contains rest e → Contains turns e = λ e there. Contains-permutation (x ∷ rest) turns e (IsPermutation-sym turns (x ∷ rest) turned.popped) (contains_tail x rest e there) in
    let new_from : (e : Turn) → Contains new e → (y ≡ e) ⊎ Contains rest e =
    λ e there. contains_cases y rest e (Contains-permutation new (y ∷ rest) e (IsPermutation-sym (y ∷ rest) new turned.pushed) there) in
    let y_there : Contains new y = Contains-permutation (y ∷ rest) new y turned.pushed (contains_head y rest) in
    let rest_new : (e : Turn) → Contains rest e → Contains new e = λ e there. Contains-permutation (y ∷ rest) new e turned.pushed (contains_tail y rest e there) in
    let h_first : IsFirst clocks h = All-contains (λ e. IsFirst clocks (place_of e)) turns x a.first x_there in
    let h_dated : HasDate clocks h t = All-contains (λ e. date_of e < until → HasDate clocks (place_of e) (date_of e)) turns x a.dated x_there before in
    let later : t < date_after clocks h t = after_later clocks clocked until t h before fits h_dated in
    let distinct : IsDistinct same_place (x ∷ rest) = IsDistinct-IsPermutation same_place same_place_flips turns (x ∷ rest) turned.popped a.apart in
    let renewed : (P : Turn → Type 0) → All P turns → P y → All P new = λ P all here.
    All-permutation P (y ∷ rest) new turned.pushed (All-cons P y rest here (All-tail P x rest (All-permutation P turns (x ∷ rest) turned.popped all))) in
    record {
      first = renewed (λ e. IsFirst clocks (place_of e)) a.first h_first;
      late = renewed (λ e. t ≤ date_of e) a.late (omega (arith, later));
      dated = renewed (λ e. date_of e < until → HasDate clocks (place_of e) (date_of e)) a.dated (after_dated clocks clocked until t h before fits h_dated);
      next = renewed (λ e. (s : ℕ) → HasDate clocks (place_of e) s → t < s → s < until → date_of e ≤ s) a.next (after_next clocks clocked until t h before fits h_dated);
      apart = IsDistinct-IsPermutation same_place same_place_flips (y ∷ rest) new turned.pushed
          (IsDistinct-cons same_place y rest (IsDistinct-head same_place x rest distinct) (IsDistinct-tail same_place x rest distinct));
      all = λ i below.
          let (e, there, same) = a.all i below in
          elim (contains_cases x rest e (Contains-permutation turns (x ∷ rest) e turned.popped there)) [
            | inl is ↦ (y, y_there, subst (λ (f : Turn). AreSame clocks (place_of f) i) (sym is) same)
            | inr in_rest ↦ (e, rest_new e in_rest, same)
          ];
      found = λ i there. elim (adds.each i there) [
        | inl old ↦ a.found i old
        | inr fresh ↦ has_same clocks i h t fresh.1 h_dated
      ];
      left = λ i dated. elim (a.left i dated) [
        | inl old ↦ inl (adds.kept i old)
        | inr turn ↦
            let (e, there, same, date) = turn in
            elim (contains_cases x rest e (Contains-permutation turns (x ∷ rest) e turned.popped there)) [
              | inl is ↦ inl (adds.all i (date_there clocks i t dated) (sym (subst (λ (f : Turn). AreSame clocks (place_of f) i) (sym is) same)))
              | inr in_rest ↦ inr (e, rest_new e in_rest, same, date)
            ]
      ];
      not_yet = λ e i there date in_due same. elim (new_from e there) [
        | inl is ↦ let moved : date_after clocks h t ≡ t = ap date_of is ∙ date in omega (arith, moved, later)
        | inr in_rest ↦ elim (adds.each i in_due) [
          | inl old ↦ a.not_yet e i (rest_there e in_rest) date old same
          | inr fresh ↦
              let e_first : IsFirst clocks (place_of e) = All-contains (λ f. IsFirst clocks (place_of f)) turns e a.first (rest_there e in_rest) in
              let one : h ≡ place_of e = first_same clocks h (place_of e) h_first e_first (sym fresh.1 ∙ same) in
              let apart : same_place x e ≡ false =
              All-contains (λ f. same_place x f ≡ false) rest e (All-from_recursion (λ f. same_place x f ≡ false) rest (IsDistinct-head same_place x rest distinct)) in_rest in
              let equal : same_place x e ≡ true = eq-eqb h (place_of e) one in
              absurd (let wrong : true ≡ false = sym equal ∙ apart in cc)
        ]
      ];
      distinct = adds.apart a.distinct (λ i in_due same. a.not_yet x i x_there refl in_due same);
    }

pub turning_due : (clocks : List Clock) (until t : ℕ) (turns : List Turn) (due sorted : List ℕ) → AreTurning clocks until t turns due → All (λ e. t < date_of e) turns
    → IsPermutation due sorted → IsNonDecreasing sorted → AreDue clocks t sorted
turning_due clocks until t turns due sorted a over same rises = record {
  rising = IsStrictlyIncreasing-from_distinct sorted rises (IsDistinct-IsPermutation eqb eqb_flips due sorted same a.distinct);
  each = λ i there. a.found i (Contains-permutation sorted due i (IsPermutation-sym due sorted same) there);
  all = λ i dated. elim (a.left i dated) [
    | inl there ↦ Contains-permutation due sorted i same there
    | inr turn ↦
        let (e, there, same_clock, date) = turn in
        let less : t < date_of e = All-contains (λ f. t < date_of f) turns e over there in
        absurd (omega (arith, less, date))
  ];
}

-- the date of the first turn is the next
pub next_is : (clocks : List Clock) (end until from t h : ℕ) (turns : List Turn) → until ≤ end → AreTurns clocks end from turns → All (λ e. t ≤ date_of e) turns
    → Contains turns (record { 0 = (t, h) }) → t < until → IsNextDate (record { clocks = clocks; from = from; until = until }) t
next_is clocks end until from t h turns within a least there before =
    let turn = All-contains (IsTurn clocks end from) turns (record { 0 = (t, h) }) a.each there in
    record {
      from = turn.late;
      before = before;
      has = (h, turn.due (omega (arith, before, within)));
      first = λ i s dated late. elim (cases_lt s until) [
        | inl early ↦
            let (e, e_there, same, le) = turn_le clocks end from turns a i s dated late (omega (arith, early, within)) in
            let ge : t ≤ date_of e = All-contains (λ f. t ≤ date_of f) turns e least e_there in
            omega (arith, le, ge)
        | inr past ↦ omega (arith, past, before)
      ];
    }

-- no date is left where the first turn is past the end, or there is none
pub none_left : (clocks : List Clock) (end until from : ℕ) (turns : List Turn) → until ≤ end → AreTurns clocks end from turns → All (λ e. until ≤ date_of e) turns
    → HasNoDate (record { clocks = clocks; from = from; until = until })
none_left clocks end until from turns within a late i s dated from_le = elim (cases_lt s until) [
  | inl early ↦
      let (e, there, same, le) = turn_le clocks end from turns a i s dated from_le (omega (arith, early, within)) in
      let ge : until ≤ date_of e = All-contains (λ f. until ≤ date_of f) turns e late there in
      absurd (omega (arith, le, ge, early))
  | inr past ↦ past
]

-- how many turns are of the date or earlier
pub turns_left : ℕ → List Turn → ℕ
turns_left t turns = sum_by (λ e. cond (leb (date_of e) t) 1 0) turns

pub turns_fall : (clocks : List Clock) (t h : ℕ) (turns new : List Turn) → HasTurned clocks t h turns new → t < date_after clocks h t → turns_left t new < turns_left t turns
unfolding turns_left
turns_fall clocks t h turns new turned later =
    let f : Turn → ℕ = λ e. cond (leb (date_of e) t) 1 0 in
    let x : Turn = record { 0 = (t, h) } in
    let y : Turn = record { 0 = (date_after clocks h t, h) } in
    let out = sum_by_popped f x turns turned.rest turned.popped in
    let back = sum_by_pushed f y turned.rest new turned.pushed in
    let one : f x ≡ 1 = rw (le-leb t t (omega arith)) refl in
    let zero : f y ≡ 0 = rw (lt-leb (date_after clocks h t) t later) refl in
    omega (arith, out, back, one, zero)

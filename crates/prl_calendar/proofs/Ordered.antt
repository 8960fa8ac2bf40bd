-- The heap of turns gives the earliest, and the first turns of the kinds.
use Rattle.prl_base.proofs.Standard.{◌≡◌, ◌<◌, ℕ, zero, suc, false, List, [], ◌∷◌, length, map, Some, slice_get, slice_index, slice_index_or, sym, ◌∙◌, ap, arith, eqb}
use Rattle.prl_base.proofs.Standard.{AllByRecursion, Contains, IsDistinct, IsPermutation, All-from_recursion, All-permutation, Contains-permutation}
use Rattle.prl_base.proofs.Standard.{IsDistinct-IsPermutation, IsDistinct-cons, IsDistinct-head, IsDistinct-tail, same_Some, slice_get-get_or}
use Rattle.prl_base.specs.declared.operators.Clock.{Clock}
use Rattle.prl_calendar.specs.Kinds.{AreFirsts, IsFirst}
use Rattle.prl_calendar.specs.Turns.{AreTurns, IsTurn, Turn, first_turn, last, same_place}
use Rattle.prl_calendar.proofs.Places.{contains_head, contains_tail, distinct_none}
use Rattle.prl_calendar.proofs.Turning.{same_place_flips}

module _ (clocks : List Clock) where
  abbrev begin : ℕ → Turn
  begin h = first_turn clocks h

  apart_map : (h : ℕ) (hs : List ℕ) → AllByRecursion (λ g. eqb h g ≡ false) hs → AllByRecursion (λ e. same_place (begin h) e ≡ false) (map begin hs)
  apart_map h [] all = tt
  apart_map h (g ∷ hs) all = (all.0, apart_map h hs all.1)

  distinct_map : (hs : List ℕ) → IsDistinct eqb hs → IsDistinct same_place (map begin hs)
  distinct_map [] distinct = distinct_none same_place
  distinct_map (h ∷ hs) distinct =
      IsDistinct-cons same_place (begin h) (map begin hs) (apart_map h hs (IsDistinct-head eqb h hs distinct)) (distinct_map hs (IsDistinct-tail eqb h hs distinct))

  clock_there : (xs : List Clock) (h : ℕ) → h < length xs → slice_get xs h ≡ Some (slice_index_or xs h (record { period = 0; start = 0 }))
  clock_there xs h below = slice_get-get_or xs h (record { period = 0; start = 0 }) below

  first_is_turn : (h : ℕ) → IsFirst clocks h → IsTurn clocks last 0 (begin h)
  first_is_turn h first =
      let c : Clock = slice_index_or clocks h (record { period = 0; start = 0 }) in
      let found = clock_there clocks h first.0 in
      record {
        first = first;
        late = omega arith;
        due = λ before. (c, found, (0, omega arith));
        next = λ s (d, d_found, (k, is)) from before.
            let same : d ≡ c = same_Some d c (sym d_found ∙ found) in
            let start : d.start ≡ c.start = ap (λ (x : Clock). x.start) same in
            omega (arith, is, start);
      }

  all_begin : (hs : List ℕ) → ((k : ℕ) → k < length hs → IsFirst clocks (slice_index hs k)) → AllByRecursion (IsTurn clocks last 0) (map begin hs)
  all_begin [] each = tt
  all_begin (h ∷ hs) each = (first_is_turn h (each 0 (omega arith)), all_begin hs (λ k below. each (suc k) (omega (arith, below))))

  contains_begin : (hs : List ℕ) (k : ℕ) → k < length hs → Contains (map begin hs) (begin (slice_index hs k))
  contains_begin [] k below = absurd (omega (arith, below))
  contains_begin (h ∷ hs) zero below = contains_head (begin h) (map begin hs)
  contains_begin (h ∷ hs) (suc k) below = contains_tail (begin h) (map begin hs) (begin (slice_index hs k)) (contains_begin hs k (omega (arith, below)))

  pub first_turns_are : (firsts : List ℕ) (turns : List Turn) → AreFirsts clocks (length clocks) firsts → IsPermutation (map begin firsts) turns → AreTurns clocks last 0 turns
  first_turns_are firsts turns a same = record {
    each = All-permutation (IsTurn clocks last 0) (map begin firsts) turns same (All-from_recursion (IsTurn clocks last 0) (map begin firsts) (all_begin firsts (λ k below. (a.each k below).0)));
    apart = IsDistinct-IsPermutation same_place same_place_flips (map begin firsts) turns same (distinct_map firsts a.apart);
    all = λ i below.
        let (k, within, clock) = a.all i below in
        (begin (slice_index firsts k), Contains-permutation (map begin firsts) turns (begin (slice_index firsts k)) same (contains_begin firsts k within), clock);
  }

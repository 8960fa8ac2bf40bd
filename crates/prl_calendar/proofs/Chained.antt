-- Chains of the places of equal clocks, made one clock after another, and walked.
use Rattle.prl_base.proofs.Standard.{◌≡◌, ◌+◌, ◌<◌, inl, inr, ℕ, true, false, cond, List, [], ◌∷◌, ◌++◌, length, set, replicate, Option, Some, None, slice_get, slice_index, refl, sym, ◌∙◌, ap}
use Rattle.prl_base.proofs.Standard.{subst, arith, eqb, Contains, is_eq, cases_Bool, cases_eq, cases_lt, cases_order, get_or-replicate, get_or-set_other, get_or_append_left, get_or_default}
use Rattle.prl_base.proofs.Standard.{get_or_push, length-replicate, length_push, nat_tests, same_Some, slice_get_within}
use Rattle.std.proofs.lemmas.List.{get_or-set_same, length-set}
use Rattle.prl_base.specs.declared.operators.Clock.{Clock}
use Rattle.prl_calendar.specs.Kinds.{AreChained, AreFollowing, AreLasts, AreSame, IsAdding, IsLast, IsNext, pair_order}
use Rattle.prl_calendar.proofs.Places.{contains_left, contains_push, contains_push_cases, distinct_none, distinct_push}

pub adding_step : (clocks : List Clock) (following : List ℕ) (h : ℕ) (old : List ℕ) (place : ℕ) (new : List ℕ) → AreFollowing clocks following → place < length clocks
    → IsAdding clocks h old place new → IsAdding clocks h old (slice_index following place) (new ++ place ∷ [])
adding_step clocks following h old place new chains within a =
    let next = chains.next place within in
    let here : AreSame clocks place h = a.at within in
    record {
      from = omega (arith, a.from, next.later);
      at = λ below. next.same below ∙ here;
      kept = λ i there. contains_left new place i (a.kept i there);
      each = λ i there. elim (contains_push_cases new place i there) [
        | inl is ↦ inr (omega (arith, is, next.later), omega (arith, is, within), subst (λ k. AreSame clocks k h) is here)
        | inr before ↦ elim (a.each i before) [
          | inl old_there ↦ inl old_there
          | inr added ↦ inr (omega (arith, added.0, next.later), added.1, added.2)
        ]
      ];
      all = λ i less below same. elim (cases_order i place) [
        | inl is ↦ subst (Contains (new ++ place ∷ [])) (sym is) (contains_push new place)
        | inr other ↦ elim other [
          | inl before ↦ contains_left new place i (a.all i before below same)
          | inr after ↦ absurd (next.none i after less below (same ∙ sym here))
        ]
      ];
      apart = λ distinct none. distinct_push new place (a.apart distinct none) (λ there. elim (a.each place there) [
        | inl before ↦ none place before here
        | inr added ↦ omega (arith, added.0)
      ]);
    }

-- pairs that are equal in the order of a table
pair_same : (x y : ℕ × ℕ) → is_eq (pair_order x y) ≡ true → (x.0 ≡ y.0) × (x.1 ≡ y.1)
pair_same x y e = elim (cases_eq x.0 y.0) [
  | inl first ↦ elim (cases_eq x.1 y.1) [
    | inl second ↦ (first, second)
    | inr other ↦ absurd (grind (arith, nat_tests))
  ]
  | inr other ↦ absurd (grind (arith, nat_tests))
]

pair_at : (x y : ℕ × ℕ) → x.0 ≡ y.0 → x.1 ≡ y.1 → is_eq (pair_order x y) ≡ true
pair_at x y first second = grind (arith, nat_tests)

clock_same : (c d : Clock) → c.period ≡ d.period → c.start ≡ d.start → c ≡ d
clock_same c d period start = ap (λ p. record { period = p; start = c.start }) period ∙ ap (λ s. record { period = d.period; start = s }) start

module _ (clocks : List Clock) (i : ℕ) (own : Clock) (here : slice_get clocks i ≡ Some own) where
  within : i < length clocks
  within = slice_get_within clocks i own here

  last_kept : (c : Clock) (o : Option ℕ) → (c ≡ own → ⊥) → IsLast clocks i c o → IsLast clocks (i + 1) c o
  last_kept c None other none = λ m less found. elim (cases_eq m i) [
    | inl is ↦ other (same_Some c own (sym found ∙ ap (slice_get clocks) is ∙ here))
    | inr earlier ↦ none m (omega (arith, less, earlier)) found
  ]
  last_kept c (Some j) other (below, at, none) = (
    omega (arith, below),
    at,
    λ m after less found. elim (cases_eq m i) [
      | inl is ↦ other (same_Some c own (sym found ∙ ap (slice_get clocks) is ∙ here))
      | inr earlier ↦ none m after (omega (arith, less, earlier)) found
    ],
  )

  pub lasts_step : (f g : ℕ × ℕ → Option ℕ) → ((q : ℕ × ℕ) → g q ≡ cond (is_eq (pair_order (own.period, own.start) q)) (Some i) (f q)) → AreLasts clocks i f → AreLasts clocks (i + 1) g
  lasts_step f g put old c = elim (cases_Bool (is_eq (pair_order (own.period, own.start) (c.period, c.start)))) [
    | inl equal ↦
        let both = pair_same (own.period, own.start) (c.period, c.start) equal in
        let same : own ≡ c = clock_same own c both.0 both.1 in
        let value : g (c.period, c.start) ≡ Some i = put (c.period, c.start) ∙ ap (λ t. cond t (Some i) (f (c.period, c.start))) equal in
        subst (IsLast clocks (i + 1) c) (sym value) (omega arith, here ∙ ap Some same, λ m after less found. omega (arith, after, less))
    | inr differ ↦
        let other : c ≡ own → ⊥ = λ e.
        let equal = pair_at (own.period, own.start) (c.period, c.start) (ap (λ (d : Clock). d.period) (sym e)) (ap (λ (d : Clock). d.start) (sym e)) in
        let wrong : true ≡ false = sym equal ∙ differ in
        absurd (cc) in
        let value : g (c.period, c.start) ≡ f (c.period, c.start) = put (c.period, c.start) ∙ ap (λ t. cond t (Some i) (f (c.period, c.start))) differ in
        subst (IsLast clocks (i + 1) c) (sym value) (last_kept c (f (c.period, c.start)) other (old c))
  ]

  -- the clock at place `i` has no later one yet
  next_own : (k : ℕ) → k ≡ length clocks → IsNext clocks (i + 1) i k
  next_own k is = record {
    later = omega (arith, is, within);
    none = λ m after before less. absurd (omega (arith, after, less));
    same = λ less. absurd (omega (arith, is, within, less));
    past = λ le. is;
  }

  -- a chain that the clock at place `i` does not go on
  next_kept : (j k : ℕ) → j < i → (AreSame clocks i j → k < i) → IsNext clocks i j k → IsNext clocks (i + 1) j k
  next_kept j k less inner next = record {
    later = next.later;
    none = λ m after before below same. elim (cases_eq m i) [
      | inl is ↦ let k_less : k < i = inner (subst (λ t. AreSame clocks t j) is same) in omega (arith, is, before, k_less)
      | inr earlier ↦ next.none m after before (omega (arith, below, earlier)) same
    ];
    same = λ below. elim (cases_lt k i) [
      | inl earlier ↦ next.same earlier
      | inr late ↦ let is : k ≡ length clocks = next.past late in absurd (omega (arith, is, below, within))
    ];
    past = λ le. next.past (omega (arith, le));
  }

  module _ (following firsts : List ℕ) (a : AreChained clocks i following firsts) where
    -- the clock is the first one of its kind
    pub chained_first : IsLast clocks i own None → AreChained clocks (i + 1) following (firsts ++ i ∷ [])
    chained_first none = record {
      count = a.count;
      next = λ j less. elim (cases_eq j i) [
        | inl is ↦ subst (λ t. IsNext clocks (i + 1) t (slice_index following t)) (sym is) (next_own (slice_index following i) (a.rest i (omega arith) within))
        | inr earlier ↦
            let below : j < i = omega (arith, less, earlier) in
            next_kept j (slice_index following j) below (λ same. absurd (none j below (sym same ∙ here))) (a.next j below)
      ];
      rest = λ j late below. a.rest j (omega (arith, late)) below;
      begins = record {
        apart = distinct_push firsts i a.begins.apart (λ (k, below, is).
            let less : slice_index firsts k < i = (a.begins.each k below).1 in
            let value : slice_index firsts k ≡ i = get_or_default firsts k 0 i below ∙ is in
            omega (arith, less, value));
        each = λ k below. elim (cases_lt k (length firsts)) [
          | inl earlier ↦
              let old = a.begins.each k earlier in
              let value : slice_index (firsts ++ i ∷ []) k ≡ slice_index firsts k = get_or_append_left firsts (i ∷ []) 0 k earlier in
              rw value (old.0, omega (arith, old.1))
          | inr late ↦
              let is : length firsts ≡ k = omega (arith, late, below, length_push firsts i) in
              let value : slice_index (firsts ++ i ∷ []) k ≡ i = get_or_push firsts i 0 k is in
              rw value ((within, λ m less same. none m less (same ∙ here)), omega arith)
        ];
        all = λ j less. elim (cases_eq j i) [
          | inl is ↦
              let value : slice_index (firsts ++ i ∷ []) (length firsts) ≡ i = get_or_push firsts i 0 (length firsts) refl in
              (length firsts, omega (arith, length_push firsts i), ap (slice_get clocks) (value ∙ sym is))
          | inr earlier ↦
              let (k, below, same) = a.begins.all j (omega (arith, less, earlier)) in
              let value : slice_index (firsts ++ i ∷ []) k ≡ slice_index firsts k = get_or_append_left firsts (i ∷ []) 0 k below in
              (k, omega (arith, below, length_push firsts i), ap (slice_get clocks) value ∙ same)
        ];
      };
    }

    -- or it goes on the chain of the last one that equals it
    pub chained_next : (e : ℕ) → IsLast clocks i own (Some e) → AreChained clocks (i + 1) (set following e i) firsts
    chained_next e (e_less, e_at, none) =
        let e_same : AreSame clocks e i = e_at ∙ sym here in
        record {
          count = length-set following e i ∙ a.count;
          next = λ j less. elim (cases_eq j i) [
            | inl is ↦
                let value : slice_index (set following e i) i ≡ slice_index following i = get_or-set_other following e i i 0 (λ t. omega (arith, t, e_less)) in
                subst (λ t. IsNext clocks (i + 1) t (slice_index (set following e i) t)) (sym is)
                (next_own (slice_index (set following e i) i) (value ∙ a.rest i (omega arith) within))
            | inr earlier ↦
                let below : j < i = omega (arith, less, earlier) in
                elim (cases_eq j e) [
                  | inl is ↦
                      let value : slice_index (set following e i) e ≡ i = get_or-set_same following e i 0 (omega (arith, e_less, within, a.count)) in
                      subst (λ t. IsNext clocks (i + 1) t (slice_index (set following e i) t)) (sym is)
                      (rw value (record {
                        later = e_less;
                        none = λ m after before under same. none m after before (same ∙ e_at);
                        same = λ under. sym e_same;
                        past = λ le. absurd (omega (arith, le));
                      }))
                  | inr other ↦
                      let value : slice_index (set following e i) j ≡ slice_index following j = get_or-set_other following e j i 0 other in
                      let next = a.next j below in
                      rw value (next_kept j (slice_index following j) below (λ same. elim (cases_lt j e) [
                        | inl lower ↦ elim (cases_lt (slice_index following j) i) [
                          | inl inner ↦ inner
                          | inr late ↦ absurd (next.none e lower (omega (arith, e_less, late)) e_less (e_same ∙ same))
                        ]
                        | inr higher ↦ absurd (none j (omega (arith, higher, other)) below (sym same ∙ here))
                      ]) next)
                ]
          ];
          rest = λ j late below.
              get_or-set_other following e j i 0 (λ t. omega (arith, t, e_less, late)) ∙ a.rest j (omega (arith, late)) below;
          begins = record {
            apart = a.begins.apart;
            each = λ k below. let old = a.begins.each k below in (old.0, omega (arith, old.1));
            all = λ j less. elim (cases_eq j i) [
              | inl is ↦
                  let (k, below, same) = a.begins.all e e_less in
                  (k, below, same ∙ e_same ∙ ap (slice_get clocks) (sym is))
              | inr earlier ↦ a.begins.all j (omega (arith, less, earlier))
            ];
          };
        }

pub chained_none : (clocks : List Clock) → AreChained clocks 0 (replicate (length clocks) (length clocks)) []
chained_none clocks = record {
  count = length-replicate (length clocks) (length clocks);
  next = λ j less. absurd (omega (arith, less));
  rest = λ j late below. get_or-replicate (length clocks) j (length clocks) 0 below;
  begins = record {
    apart = distinct_none eqb;
    each = λ k below. absurd (omega (arith, below));
    all = λ j less. absurd (omega (arith, less));
  };
}

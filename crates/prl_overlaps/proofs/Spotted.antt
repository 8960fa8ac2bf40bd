-- Spots of entries, and which of them meet.
use Rattle.prl_base.proofs.Standard.{◌≡◌, ◌≢◌, ◌+◌, ◌*◌, ◌/◌, ◌%◌, ◌<◌, ◌≤◌, ◌^◌, ◌⊎◌, ℕ, Bool, true, false, List, [], ◌∷◌, ◌++◌, length, length-append, get_or, Option, Some, None, inl, inr, refl}
use Rattle.prl_base.proofs.Standard.{sym, ◌∙◌, ap, subst, arith, slice_get, max, IfSome, OnFalse, OnTrue, swap, IsPermutation, mul-le-mul_right, cases_lt, IsPermutation-keeps, get_or_from_slice_get}
use Rattle.prl_base.proofs.Standard.{slice_get-get_or, slice_get_within}
use Rattle.prl_overlaps.specs.Vocabulary.{Spot, Entry, IsFirstClash, Clash, Overlap, lower, no_spot, spot_of, with_meeting, AreShort, AreSorted, AreSpots, IsFirstMeeting, IsFirstMet}
use Rattle.prl_overlaps.specs.Vocabulary.{IsHighest, IsLeastMeeting, IsShort, Meet, Meets, MeetsSome}
use Rattle.prl_overlaps.proofs.FourTests as tests
use Rattle.prl_overlaps.proofs.Listed.{pushed}
use Rattle.prl_overlaps.proofs.Swaps.{at_place, one_place, to_place}

same_some : {X : Type 0} (x y : X) → Some x ≡ Some y → x ≡ y
same_some x y e = cc

-- one spot more, that of the next entry, while the first k entries have theirs in order
pub record HaveSpots (hyper : ℕ) (entries : List Entry) (spots : List Spot) (k : ℕ) : Type 0 where
  pub long : length spots ≡ k
  pub each : (p : ℕ) (spot : Spot) → slice_get spots p ≡ Some spot → (entry : Entry) × (slice_get entries p ≡ Some entry) × (spot ≡ spot_of hyper p entry)

pub one_more_spot : (hyper : ℕ) (entries : List Entry) (spots : List Spot) (k : ℕ) (entry : Entry) (spot : Spot) → HaveSpots hyper entries spots k → slice_get entries k ≡ Some entry →
    spot ≡ spot_of hyper k entry → HaveSpots hyper entries (spots ++ spot ∷ []) (k + 1)
one_more_spot hyper entries spots k entry spot so_far at is = record {
  long = (let l = length-append spots (spot ∷ []) in let n = so_far.long in omega (arith, l, n));
  each = pushed (λ p s. (e : Entry) × (slice_get entries p ≡ Some e) × (s ≡ spot_of hyper p e)) spots spot so_far.each
      (subst (λ (p : ℕ). (e : Entry) × (slice_get entries p ≡ Some e) × (spot ≡ spot_of hyper p e)) (sym so_far.long) (entry, at, is));
}

pub are_spots : (hyper : ℕ) (entries : List Entry) (spots : List Spot) → HaveSpots hyper entries spots (length entries) → AreSpots hyper entries spots
are_spots hyper entries spots have = record {
  each = λ p spot at.
      (let e = have.each p spot at in
      let number : p ≡ spot.entry = sym (ap (λ (s : Spot). s.entry) e.2) in (
        e.0,
        subst (λ (q : ℕ). slice_get entries q ≡ Some e.0) number e.1,
        subst (λ (q : ℕ). spot ≡ spot_of hyper q e.0) number e.2,
      ));
  all = λ k entry at.
      (let inside : k < length spots = (let w = slice_get_within entries k entry at in let l = have.long in omega (arith, w, l)) in
      let there = slice_get-get_or spots k no_spot inside in
      let e = have.each k (get_or spots k no_spot) there in
      let same : e.0 ≡ entry = same_some e.0 entry (sym e.1 ∙ at) in
      (k, there ∙ ap Some (e.2 ∙ ap (spot_of hyper k) same)));
  once = λ p q one other at_p at_q same.
      (let a = ap (λ (s : Spot). s.entry) (have.each p one at_p).2 in
      let b = ap (λ (s : Spot). s.entry) (have.each q other at_q).2 in
      sym a ∙ same ∙ b);
}

module _ (l : List Spot) (i j : ℕ) (i_in : i < length l) (j_in : j < length l) where
  pub spots_swapped : (hyper : ℕ) (entries : List Entry) → AreSpots hyper entries l → AreSpots hyper entries (swap l i j)
  spots_swapped hyper entries are = record {
    each = λ p spot at. (let a = at_place no_spot l i j i_in j_in p in are.each a.0 spot (sym a.1 ∙ at));
    all = λ k entry at. (let there = are.all k entry at in let a = to_place no_spot l i j i_in j_in there.0 in (a.0, a.1 ∙ there.1));
    once = λ p q one other at_p at_q same.
        (let a = at_place no_spot l i j i_in j_in p in
        let b = at_place no_spot l i j i_in j_in q in
        one_place no_spot l i j i_in j_in p q a.0 b.0 a.2 b.2 (are.once a.0 b.0 one other (sym a.1 ∙ at_p) (sym b.1 ∙ at_q) same));
  }

pub spots_permuted : (hyper : ℕ) (entries : List Entry) (xs ys : List Spot) → IsPermutation xs ys → AreSpots hyper entries xs → AreSpots hyper entries ys
spots_permuted hyper entries xs ys permuted are =
    IsPermutation-keeps xs (AreSpots hyper entries) are (λ l i j i_in j_in so_far. spots_swapped l i j i_in j_in hyper entries so_far) ys permuted

module _ (hyper : ℕ) (entries : List Entry) (spots : List Spot) (short : AreShort hyper entries) (are : AreSpots hyper entries spots) (sorted : AreSorted spots) where
  place : ℕ → ℕ
  place p = (get_or spots p no_spot).from

  end : ℕ → ℕ
  end p = (get_or spots p no_spot).to

  order : (p q : ℕ) → p ≤ q → q < length spots → (get_or spots p no_spot).from ≤ (get_or spots q no_spot).from
  order p q less inside = sorted p q no_spot less inside

  pub room : (p : ℕ) → p < length spots → hyper < 2 ^ 32
  room p inside =
      (let e = are.each p (get_or spots p no_spot) (slice_get-get_or spots p no_spot inside) in
      (short (get_or spots p no_spot).entry e.0 e.1).long.1)

  pub long : (p : ℕ) → p < length spots → ((get_or spots p no_spot).from < (get_or spots p no_spot).to)
      × ((get_or spots p no_spot).to ≤ (get_or spots p no_spot).from + hyper) × ((get_or spots p no_spot).from < hyper)
  long p inside =
      let e = are.each p (get_or spots p no_spot) (slice_get-get_or spots p no_spot inside) in
      let f = ap (λ (s : Spot). s.from) e.2 in
      let t = ap (λ (s : Spot). s.to) e.2 in
      let s = short (get_or spots p no_spot).entry e.0 e.1 in
      let l = s.long.0 in let u = s.units.0 in let v = s.units.1 in
      (omega (arith, f, t, u), omega (arith, f, t, v), omega (arith, f, l))

  abbrev pub Tests : ℕ → Type 0
  Tests p = ((q : ℕ) × (q < p) × ((get_or spots p no_spot).from < (get_or spots q no_spot).to))
      ⊎ (((p + 1 < length spots) × ((get_or spots (p + 1) no_spot).from < (get_or spots p no_spot).to))
      ⊎ (((get_or spots 0 no_spot).from + hyper < (get_or spots p no_spot).to)
      ⊎ ((q : ℕ) × (q < length spots) × ((get_or spots p no_spot).from + hyper < (get_or spots q no_spot).to))))

  pub to_test : (p : ℕ) → MeetsSome hyper spots p → Tests p
  to_test p some =
      let one = get_or_from_slice_get spots p some.0 no_spot some.1 in
      let other = get_or_from_slice_get spots some.2.0 some.2.1 no_spot some.2.3 in
      let meets : Meets hyper (get_or spots p no_spot) (get_or spots some.2.0 no_spot) =
      subst (λ (x : Spot). Meets hyper x (get_or spots some.2.0 no_spot)) (sym one) (subst (Meets hyper some.0) (sym other) some.2.4) in
      tests.seen hyper (length spots) (λ q. (get_or spots q no_spot).from) (λ q. (get_or spots q no_spot).to) order long p some.2.0
      (slice_get_within spots p some.0 some.1) (slice_get_within spots some.2.0 some.2.1 some.2.3) some.2.2 meets

  pub from_test : (p : ℕ) → p < length spots → Tests p → MeetsSome hyper spots p
  from_test p inside test =
      let clash = tests.is_clash hyper (length spots) (λ q. (get_or spots q no_spot).from) (λ q. (get_or spots q no_spot).to) order long p inside test in
      (get_or spots p no_spot, slice_get-get_or spots p no_spot inside, (clash.0, get_or spots clash.0 no_spot, clash.2, slice_get-get_or spots clash.0 no_spot clash.1, clash.3))

  -- one of the first spots ends past what the highest end is past
  reaches : (n high low : ℕ) → IsHighest spots n high → low < high → (q : ℕ) × (q < n) × (low < (get_or spots q no_spot).to)
  reaches n high low highest less = elim highest.attained [
    | inl none ↦ absurd (omega (arith, none, less))
    | inr there ↦ (let t = ap (λ (s : Spot). s.to) (get_or_from_slice_get spots there.0 there.1 no_spot there.3) in (there.0, there.2, omega (arith, less, t, there.4)))
  ]

  -- the four tests, by the highest ends
  pub by_before : (p before : ℕ) → p < length spots → IsHighest spots p before → (get_or spots p no_spot).from < before → MeetsSome hyper spots p
  by_before p before inside highest less = from_test p inside (inl (reaches p before (get_or spots p no_spot).from highest less))

  pub by_next : (p : ℕ) → p < length spots → p + 1 < length spots → (get_or spots (p + 1) no_spot).from < (get_or spots p no_spot).to → MeetsSome hyper spots p
  by_next p inside next less = from_test p inside (inr (inl (next, less)))

  pub by_first : (p : ℕ) → p < length spots → (get_or spots 0 no_spot).from + hyper < (get_or spots p no_spot).to → MeetsSome hyper spots p
  by_first p inside less = from_test p inside (inr (inr (inl less)))

  pub by_high : (p high : ℕ) → p < length spots → IsHighest spots (length spots) high → (get_or spots p no_spot).from + hyper < high → MeetsSome hyper spots p
  by_high p high inside highest less = from_test p inside (inr (inr (inr (reaches (length spots) high ((get_or spots p no_spot).from + hyper) highest less))))

  pub by_none : (p before high : ℕ) → p < length spots → IsHighest spots p before → IsHighest spots (length spots) high →
      before ≤ (get_or spots p no_spot).from → (p + 1 < length spots → (get_or spots p no_spot).to ≤ (get_or spots (p + 1) no_spot).from) →
      (get_or spots p no_spot).to ≤ (get_or spots 0 no_spot).from + hyper → high ≤ (get_or spots p no_spot).from + hyper → MeetsSome hyper spots p → ⊥
  by_none p before high inside is_before is_high first next around over some =
      elim (to_test p some) [
        | inl earlier ↦
            (let above = is_before.above earlier.0 (get_or spots earlier.0 no_spot) earlier.1 (slice_get-get_or spots earlier.0 no_spot (omega (arith, earlier.1, inside))) in
            let e = earlier.2 in omega (arith, above, e, first))
        | inr (inl later) ↦ (let n = next later.0 in let l = later.1 in omega (arith, n, l))
        | inr (inr (inl past)) ↦ omega (arith, past, around)
        | inr (inr (inr far)) ↦
            (let f = far.2 in omega (arith, is_high.above far.0 (get_or spots far.0 no_spot) far.1 (slice_get-get_or spots far.0 no_spot far.1), f, over))
      ]

  -- a spot that meets another one, and its entry
  pub some_meet : (p : ℕ) (one : Spot) → slice_get spots p ≡ Some one → MeetsSome hyper spots p → (l : ℕ) × Meet hyper entries one.entry l
  some_meet p one at some =
      let same : some.0 ≡ one = same_some some.0 one (sym some.1 ∙ at) in
      let a = are.each p one at in
      let b = are.each some.2.0 some.2.1 some.2.3 in
      let meets : Meets hyper one some.2.1 = subst (λ (x : Spot). Meets hyper x some.2.1) same some.2.4 in (
        some.2.1.entry,
        record {
          one = a.0;
          other = b.0;
          first = a.1;
          second = b.1;
          differ = λ e. some.2.2 (are.once some.2.0 p some.2.1 one some.2.3 at e);
          meets = subst (λ (x : Spot). Meets hyper x (spot_of hyper some.2.1.entry b.0)) a.2 (subst (Meets hyper one) b.2 meets);
        },
      )

  pub meet_some : (k l : ℕ) (meet : Meet hyper entries k l) → (p : ℕ) × (slice_get spots p ≡ Some (spot_of hyper k meet.one)) × MeetsSome hyper spots p
  meet_some k l meet =
      let a = are.all k meet.one meet.first in
      let b = are.all l meet.other meet.second in (
        a.0,
        a.1,
        (
          spot_of hyper k meet.one,
          a.1,
          (
            b.0,
            spot_of hyper l meet.other,
            (λ e. meet.differ (ap (λ (s : Spot). s.entry) (same_some (spot_of hyper l meet.other) (spot_of hyper k meet.one) (sym b.1 ∙ ap (slice_get spots) e ∙ a.1)))),
            b.1,
            meet.meets,
          ),
        ),
      )

module _ (hyper : ℕ) (entries : List Entry) (short : AreShort hyper entries) where
  times : (s t : ℕ) → s < t → s * hyper + hyper ≤ t * hyper
  times s t less = (let m = mul-le-mul_right hyper (let g : s + 1 ≤ t = omega (arith, less) in g) in let e : (s + 1) * hyper ≡ s * hyper + hyper = omega arith in omega (arith, m, e))

  pub meet_of_clash : (k l : ℕ) → Clash hyper entries k l → Meet hyper entries k l
  meet_of_clash k l clash =
      let a = short k clash.one clash.first in
      let starts = clash.overlap.starts in
      let ends = clash.overlap.ends in
      let some = a.long.0 in
      let a_units = a.units.1 in
      let b_units = (short l clash.other clash.second).units.1 in
      let a_split : clash.one.at ≡ clash.one.at % hyper + clash.one.at / hyper * hyper = omega arith in
      let b_split : clash.other.at ≡ clash.other.at % hyper + clash.other.at / hyper * hyper = omega arith in
      let a_moved : (clash.a + clash.one.at / hyper) * hyper ≡ clash.a * hyper + clash.one.at / hyper * hyper = omega arith in
      let b_moved : (clash.b + clash.other.at / hyper) * hyper ≡ clash.b * hyper + clash.other.at / hyper * hyper = omega arith in
      record {
        one = clash.one;
        other = clash.other;
        first = clash.first;
        second = clash.second;
        differ = λ same.
            (let entry : clash.other ≡ clash.one = (let e : Some clash.other ≡ Some clash.one = sym clash.second ∙ ap (slice_get entries) same ∙ clash.first in cc e) in
            let at = ap (λ (e : Entry). e.at) entry in
            let units = ap (λ (e : Entry). e.units) entry in
            elim (cases_lt clash.a clash.b) [
              | inl less ↦ (let t = times clash.a clash.b less in omega (arith, t, ends, at, a_units))
              | inr not_less ↦ (elim (cases_lt clash.b clash.a) [
                | inl more ↦ (let t = times clash.b clash.a more in omega (arith, t, starts, at, units, a_units))
                | inr not_more ↦ clash.differ (sym same) (omega (arith, not_less, not_more))
              ])
            ]);
        meets = tests.meets hyper (clash.one.at % hyper) clash.one.units (clash.other.at % hyper) clash.other.units (clash.a + clash.one.at / hyper) (clash.b + clash.other.at / hyper)
            (omega (arith, some)) (omega (arith, some)) a_units b_units (omega (arith, starts, a_split, b_split, a_moved, b_moved)) (omega (arith, ends, a_split, b_split, a_moved, b_moved));
      }

  pub clash_of_meet : (k l : ℕ) → Meet hyper entries k l → Clash hyper entries k l
  clash_of_meet k l meet =
      let a_split : meet.one.at ≡ meet.one.at % hyper + meet.one.at / hyper * hyper = omega arith in
      let b_split : meet.other.at ≡ meet.other.at % hyper + meet.other.at / hyper * hyper = omega arith in
      let some = (short k meet.one meet.first).long.0 in
      let a_low : meet.one.at % hyper < hyper = omega (arith, some) in
      let b_low : meet.other.at % hyper < hyper = omega (arith, some) in
      let a_next : (meet.one.at / hyper + 1) * hyper ≡ meet.one.at / hyper * hyper + hyper = omega arith in
      let b_next : (meet.other.at / hyper + 1) * hyper ≡ meet.other.at / hyper * hyper + hyper = omega arith in
      elim meet.meets [
        | inl both ↦
            (let s = both.0 in let e = both.1 in
            made (meet.other.at / hyper) (meet.one.at / hyper) (record { starts = omega (arith, s, a_split, b_split); ends = omega (arith, e, a_split, b_split) }))
        | inr (inl over) ↦
            made (meet.other.at / hyper + 1) (meet.one.at / hyper) (record {
              starts = omega (arith, over, a_split, b_split, b_next);
              ends = omega (arith, b_low, (short k meet.one meet.first).units.0, a_split, b_split, b_next);
            })
        | inr (inr over) ↦
            made (meet.other.at / hyper) (meet.one.at / hyper + 1) (record {
              starts = omega (arith, a_low, (short l meet.other meet.second).units.0, a_split, b_split, a_next);
              ends = omega (arith, over, a_split, b_split, a_next);
            })
      ]
    where
      made : (x y : ℕ) → Overlap hyper meet.one meet.other x y → Clash hyper entries k l
      made x y overlap = record {
        one = meet.one;
        other = meet.other;
        first = meet.first;
        second = meet.second;
        a = x;
        b = y;
        overlap = overlap;
        differ = λ same _. meet.differ (sym same);
      }

  pub turned : (k l : ℕ) → Meet hyper entries k l → Meet hyper entries l k
  turned k l meet = record {
    one = meet.other;
    other = meet.one;
    first = meet.second;
    second = meet.first;
    differ = λ same. meet.differ (sym same);
    meets = elim meet.meets [
      | inl both ↦ inl (both.1, both.0)
      | inr (inl over) ↦ inr (inr over)
      | inr (inr over) ↦ inr (inl over)
    ];
  }

earlier_or_last : (spots : List Spot) (n p : ℕ) (spot d : Spot) → p < n + 1 → slice_get spots p ≡ Some spot → (p < n) ⊎ (get_or spots n d ≡ spot)
earlier_or_last spots n p spot d below at = elim (cases_lt p n) [
  | inl earlier ↦ inl earlier
  | inr not_earlier ↦ (let same : n ≡ p = omega (arith, below, not_earlier) in inr (ap (λ (k : ℕ). get_or spots k d) same ∙ get_or_from_slice_get spots p spot d at))
]

pub more_highest : (spots : List Spot) (n high : ℕ) (d : Spot) → n < length spots → IsHighest spots n high → IsHighest spots (n + 1) (max high (get_or spots n d).to)
more_highest spots n high d inside so_far = record {
  above = λ p spot below at. elim (earlier_or_last spots n p spot d below at) [
    | inl earlier ↦ (let a = so_far.above p spot earlier at in omega (arith, a))
    | inr is ↦ (let t = ap (λ (s : Spot). s.to) is in omega (arith, t))
  ];
  attained = elim (cases_lt high (get_or spots n d).to) [
    | inl higher ↦ inr (n, get_or spots n d, omega arith, slice_get-get_or spots n d inside, omega (arith, higher))
    | inr not_higher ↦ elim so_far.attained [
      | inl none ↦ inl (omega (arith, none, not_higher))
      | inr there ↦
          (let below = there.2 in let is = there.4 in
          inr (there.0, there.1, omega (arith, below), there.3, omega (arith, is, not_higher)))
    ]
  ];
}

-- the least of the first spots that meet others and of the next one
least_with : (hyper : ℕ) (spots : List Spot) (n k : ℕ) (d : Spot) (p : ℕ) (one : Spot) → p < n + 1 → slice_get spots p ≡ Some one → k ≡ one.entry → MeetsSome hyper spots p →
    ((q : ℕ) (other : Spot) → q < n → slice_get spots q ≡ Some other → MeetsSome hyper spots q → k ≤ other.entry) → k ≤ (get_or spots n d).entry → IsLeastMeeting hyper spots (n + 1) (Some k)
least_with hyper spots n k d p one below stands entry meets early last = record {
  p = p;
  one = one;
  below = below;
  stands = stands;
  entry = entry;
  meets = meets;
  least = λ q other under at some. elim (earlier_or_last spots n q other d under at) [
    | inl earlier ↦ early q other earlier at some
    | inr is ↦ (let e = ap (λ (s : Spot). s.entry) is in omega (arith, e, last))
  ];
}

-- one spot more, which meets another one, or not
pub meets_more : (hyper : ℕ) (spots : List Spot) (n : ℕ) (least : Option ℕ) (d : Spot) → n < length spots → IsLeastMeeting hyper spots n least → MeetsSome hyper spots n →
    IsLeastMeeting hyper spots (n + 1) (Some (lower least (get_or spots n d).entry))
meets_more hyper spots n None d inside so_far meets =
    least_with hyper spots n (get_or spots n d).entry d n (get_or spots n d) (omega arith) (slice_get-get_or spots n d inside) refl meets
    (λ q other earlier at some. absurd (so_far q earlier some)) (omega arith)
meets_more hyper spots n (Some k) d inside so_far meets = elim (cases_lt (get_or spots n d).entry k) [
  | inl lower_now ↦
      least_with hyper spots n (lower (Some k) (get_or spots n d).entry) d n (get_or spots n d) (omega arith) (slice_get-get_or spots n d inside) (omega (arith, lower_now)) meets
      (λ q other earlier at some. (let l = so_far.least q other earlier at some in omega (arith, l, lower_now))) (omega (arith, lower_now))
  | inr not_lower ↦
      least_with hyper spots n (lower (Some k) (get_or spots n d).entry) d so_far.p so_far.one (omega (arith, so_far.below)) so_far.stands (omega (arith, so_far.entry, not_lower)) so_far.meets
      (λ q other earlier at some. (let l = so_far.least q other earlier at some in omega (arith, l, not_lower))) (omega (arith, not_lower))
]

pub meets_none : (hyper : ℕ) (spots : List Spot) (n : ℕ) (least : Option ℕ) → IsLeastMeeting hyper spots n least → (MeetsSome hyper spots n → ⊥) →
    IsLeastMeeting hyper spots (n + 1) least
meets_none hyper spots n None so_far not = λ q below some. elim (cases_lt q n) [
  | inl earlier ↦ so_far q earlier some
  | inr not_earlier ↦ not (subst (MeetsSome hyper spots) (let same : q ≡ n = omega (arith, below, not_earlier) in same) some)
]
meets_none hyper spots n (Some k) so_far not = record {
  p = so_far.p;
  one = so_far.one;
  below = (let b = so_far.below in omega (arith, b));
  stands = so_far.stands;
  entry = so_far.entry;
  meets = so_far.meets;
  least = λ q other below at some. elim (cases_lt q n) [
    | inl earlier ↦ so_far.least q other earlier at some
    | inr not_earlier ↦ absurd (not (subst (MeetsSome hyper spots) (let same : q ≡ n = omega (arith, below, not_earlier) in same) some))
  ];
}

pub meets_step : (hyper : ℕ) (spots : List Spot) (n : ℕ) (least : Option ℕ) (d : Spot) → n < length spots → IsLeastMeeting hyper spots n least →
    (b : Bool) → OnTrue b (MeetsSome hyper spots n) → OnFalse b (MeetsSome hyper spots n → ⊥) →
    IsLeastMeeting hyper spots (n + 1) (with_meeting least b (get_or spots n d).entry)
meets_step hyper spots n least d inside so_far true yes_it no_it = meets_more hyper spots n least d inside so_far yes_it
meets_step hyper spots n least d inside so_far false yes_it no_it = meets_none hyper spots n least so_far no_it

-- an entry that is met after none before it
pub first_met : (hyper : ℕ) (entries : List Entry) (k l : ℕ) → ((m : ℕ) → m < l → Meet hyper entries k m → ⊥) → Meet hyper entries k l → IsFirstMet hyper entries k l
first_met hyper entries k l none meet = record {
  meet = meet;
  least = λ m other. elim (cases_lt m l) [ inl earlier ↦ absurd (none m earlier other) | inr not_earlier ↦ not_earlier ];
}

pub none_met : (hyper : ℕ) (entries : List Entry) (k l : ℕ) → ((m : ℕ) → m < l → Meet hyper entries k m → ⊥) → (Meet hyper entries k l → ⊥) →
    (m : ℕ) → m < l + 1 → Meet hyper entries k m → ⊥
none_met hyper entries k l none not m below meet =
    elim (cases_lt m l) [
      | inl earlier ↦ none m earlier meet
      | inr not_earlier ↦ not (subst (Meet hyper entries k) (let same : m ≡ l = omega (arith, below, not_earlier) in same) meet)
    ]

pub met_within : (hyper : ℕ) (entries : List Entry) (k n : ℕ) → length entries ≤ n → ((m : ℕ) → m < n → Meet hyper entries k m → ⊥) → (l : ℕ) × Meet hyper entries k l → ⊥
met_within hyper entries k n all none some =
    none some.0 (let w = slice_get_within entries some.0 some.1.other some.1.second in omega (arith, w, all)) some.1

-- the entries of a meeting by their places
pub meet_at : (hyper : ℕ) (entries : List Entry) (k l : ℕ) (d : Entry) → k < length entries → l < length entries → k ≢ l →
    Meets hyper (spot_of hyper k (get_or entries k d)) (spot_of hyper l (get_or entries l d)) → Meet hyper entries k l
meet_at hyper entries k l d k_in l_in differ meets = record {
  one = get_or entries k d;
  other = get_or entries l d;
  first = slice_get-get_or entries k d k_in;
  second = slice_get-get_or entries l d l_in;
  differ = λ same. differ (sym same);
  meets = meets;
}

pub meets_at : (hyper : ℕ) (entries : List Entry) (k l : ℕ) (d : Entry) → Meet hyper entries k l →
    Meets hyper (spot_of hyper k (get_or entries k d)) (spot_of hyper l (get_or entries l d))
meets_at hyper entries k l d meet =
    subst (λ (e : Entry). Meets hyper (spot_of hyper k e) (spot_of hyper l (get_or entries l d))) (sym (get_or_from_slice_get entries k meet.one d meet.first))
    (subst (λ (e : Entry). Meets hyper (spot_of hyper k meet.one) (spot_of hyper l e)) (sym (get_or_from_slice_get entries l meet.other d meet.second)) meet.meets)

pub spot_fits : (hyper : ℕ) (entry : Entry) → IsShort hyper entry → entry.at % hyper + hyper < 2 ^ 64
spot_fits hyper entry short = (let some = short.long.0 in let few = short.long.1 in omega (arith, some, few))

-- the entries of the spots, and clashes
module _ (hyper : ℕ) (entries : List Entry) (spots : List Spot) (short : AreShort hyper entries) (are : AreSpots hyper entries spots) (sorted : AreSorted spots) where
  pub none_clash : IsLeastMeeting hyper spots (length spots) None → (k l : ℕ) → Clash hyper entries k l → ⊥
  none_clash none k l clash =
      let meet = meet_of_clash hyper entries short k l clash in
      let some = meet_some hyper entries spots short are sorted k l meet in
      none some.0 (slice_get_within spots some.0 (spot_of hyper k meet.one) some.1) some.2

  pub first_meets : (k : ℕ) → IsFirstMeeting hyper spots (length spots) k → (l : ℕ) × Meet hyper entries k l
  first_meets k first =
      (let m = some_meet hyper entries spots short are sorted first.p first.one first.stands first.meets in
      subst (λ (x : ℕ). (l : ℕ) × Meet hyper entries x l) (sym first.entry) m)

  pub is_first_clash : (k l : ℕ) → IsFirstMeeting hyper spots (length spots) k → IsFirstMet hyper entries k l → IsFirstClash hyper entries (k + 3) (l + 3)
  is_first_clash k l first met = record {
    k = k;
    l = l;
    first_line = refl;
    second_line = refl;
    ordered = least_of l k (turned hyper entries short k l met.meet);
    clash = clash_of_meet hyper entries short k l met.meet;
    least = λ m n _ clash. (
      least_of m n (meet_of_clash hyper entries short m n clash),
      (λ same. met.least n (subst (λ (x : ℕ). Meet hyper entries x n) same (meet_of_clash hyper entries short m n clash))),
    );
  }
    where
      least_of : (m n : ℕ) → Meet hyper entries m n → k ≤ m
      least_of m n meet =
          (let some = meet_some hyper entries spots short are sorted m n meet in
          first.least some.0 (spot_of hyper m meet.one) (slice_get_within spots some.0 (spot_of hyper m meet.one) some.1) some.1 some.2)

pub least_within : (hyper : ℕ) (entries : List Entry) (spots : List Spot) (n : ℕ) → AreSpots hyper entries spots → (least : Option ℕ) → IsLeastMeeting hyper spots n least →
    IfSome least (λ k. k < length entries)
least_within hyper entries spots n are None first = tt
least_within hyper entries spots n are (Some k) first =
    (let e = are.each first.p first.one first.stands in
    let s = first.entry in omega (arith, slice_get_within entries first.one.entry e.0 e.1, s))

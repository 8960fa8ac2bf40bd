-- Dates of clocks that come one after another, and flows that have their values up to a date.
use Rattle.prl_base.proofs.Standard.{◌≡◌, ◌+◌, ◌*◌, ◌<◌, ◌≤◌, inl, inr, ℕ, zero, suc, List, [], ◌∷◌, map, length, Some, slice_get, slice_index, slice_index_or, refl, sym, ◌∙◌, add-one, ap, subst}
use Rattle.prl_base.proofs.Standard.{arith, Contains, IsStrictlyIncreasing, lt_of_mul-lt-mul_right, mul-le-mul_right, cases_eq, cases_lt, get_or_default, length-map, same_Some, slice_get-get_or}
use Rattle.prl_base.proofs.Standard.{slice_get_within}
use Rattle.prl_base.specs.Clocks.{IsClock, IsDate, date_at}
use Rattle.prl_base.specs.declared.numbers.FlowNo.{FlowNo}
use Rattle.prl_base.specs.declared.operators.Clock.{Clock}
use Rattle.prl_base.specs.declared.values.Value.{Value}
use Rattle.prl_calendar.specs.Calendars.{AreAllClocks, AreDue, HasDate}
use Rattle.prl_flow.specs.Vocabulary.{dates_before, IsWellDefined, clock_of}
use Rattle.prl_flow.specs.declared.programs.App.{App}
use Rattle.prl_flow.specs.declared.programs.Flow.{Flow}
use Rattle.prl_flow.specs.declared.programs.Def.TheVariants as definitions
use Rattle.prl_flow.proofs.ClockDates.{dates_before_number}
use Rattle.prl_causal.specs.Tables.{Reads}
use Rattle.prl_causal.proofs.Earlier.{reads_earlier}
use Rattle.prl_evaluation.specs.Vocabulary.{AreAt, AreFull, IsPart, IsRest, clocks_by, place_after, CanGrow, HasGrown, IsSet, len, Setting}

not_more : (a b : ℕ) → ((k : ℕ) → k < a → k < b) → a ≤ b
not_more a b each = elim (cases_lt b a) [
  | inl more ↦ let h : b < b = each b more in absurd (omega (arith, h))
  | inr le ↦ le
]

-- one clock's dates
module _ (c : Clock) (clock : IsClock c) where
  number : (u k : ℕ) → k < dates_before u c → date_at c k < u
  number u k = (dates_before_number u c k clock).0

  numbered : (u k : ℕ) → date_at c k < u → k < dates_before u c
  numbered u k = (dates_before_number u c k clock).1

  pub count_grows : (t u : ℕ) → t ≤ u → dates_before t c ≤ dates_before u c
  count_grows t u le = not_more (dates_before t c) (dates_before u c) (λ k below. let h = number t k below in numbered u k (omega (arith, h, le)))

  -- no date between
  pub count_same : (t u : ℕ) → t ≤ u → ((s : ℕ) → IsDate c s → t ≤ s → u ≤ s) → dates_before t c ≡ dates_before u c
  count_same t u le none =
      let one = count_grows t u le in
      let other : dates_before u c ≤ dates_before t c = not_more (dates_before u c) (dates_before t c) (λ k below.
      let h = number u k below in
      elim (cases_lt (date_at c k) t) [
        | inl early ↦ numbered t k early
        | inr late ↦ let past : u ≤ date_at c k = none (date_at c k) (k, refl) late in absurd (omega (arith, past, h))
      ]) in
      omega (arith, one, other)

  earlier_date : (k n : ℕ) → date_at c k < date_at c n → k < n
  earlier_date k n less = let h : k * c.period < n * c.period = omega (arith, less) in lt_of_mul-lt-mul_right c.period h

  later_date : (k n : ℕ) → k < n → date_at c k < date_at c n
  later_date k n less =
      let next : suc k ≤ n = omega (arith, less) in
      let grows : suc k * c.period ≤ n * c.period = mul-le-mul_right c.period next in
      omega (arith, grows, clock)

  -- before its n-th date a clock has n dates
  pub count_at : (t n : ℕ) → t ≡ date_at c n → dates_before t c ≡ n
  count_at t n is =
      let one : dates_before t c ≤ n = not_more (dates_before t c) n (λ k below. let h = number t k below in earlier_date k n (omega (arith, h, is))) in
      let other : n ≤ dates_before t c = not_more n (dates_before t c) (λ k below. let h = later_date k n below in numbered t k (omega (arith, h, is))) in
      omega (arith, one, other)

  pub count_after : (t n : ℕ) → t ≡ date_at c n → dates_before (t + 1) c ≡ n + 1
  count_after t n is =
      let one : dates_before (t + 1) c ≤ n + 1 = not_more (dates_before (t + 1) c) (n + 1) (λ k below.
      let h = number (t + 1) k below in
      elim (cases_lt k (n + 1)) [
        | inl less ↦ less
        | inr late ↦ let g = later_date n k (omega (arith, late)) in absurd (omega (arith, h, is, g))
      ]) in
      let other : n + 1 ≤ dates_before (t + 1) c = not_more (n + 1) (dates_before (t + 1) c) (λ k below.
      elim (cases_lt k n) [
        | inl less ↦ let g = later_date k n less in numbered (t + 1) k (omega (arith, g, is))
        | inr late ↦ let same : k ≡ n = omega (arith, late, below) in numbered (t + 1) k (subst (λ m. date_at c m < t + 1) (sym same) (omega (arith, is)))
      ]) in
      omega (arith, one, other)

rising_less : (xs : List ℕ) → IsStrictlyIncreasing xs → (j k : ℕ) → j < k → k < length xs → slice_index xs j < slice_index xs k
rising_less xs rising j zero less below = absurd (omega (arith, less))
rising_less xs rising j (suc k) less below =
    let plus : k + 1 ≡ suc k = omega arith in
    let step : slice_index xs k < slice_index xs (suc k) = subst (λ m. slice_index xs k < slice_index xs m) plus (rising k (omega (arith, below))) in
    elim (cases_lt j k) [
      | inl earlier ↦ let h = rising_less xs rising j k earlier (omega (arith, below)) in omega (arith, h, step)
      | inr late ↦ let same : j ≡ k = omega (arith, late, less) in subst (λ m. slice_index xs m < slice_index xs (suc k)) (sym same) step
    ]

mapped_at : {A B : Type 0} (f : A → B) (xs : List A) (j : ℕ) (x : A) → slice_get xs j ≡ Some x → slice_get (map f xs) j ≡ Some (f x)
mapped_at f [] j x e = absurd (cc)
mapped_at f (y ∷ xs) zero x e = ap (λ t. Some (f t)) (same_Some y x e)
mapped_at f (y ∷ xs) (suc j) x e = mapped_at f xs j x e

module _ (s : Setting) (set : IsSet s) (rest : List FlowNo) where
  clock_there : (i : ℕ) → i < length s.flat.now.flows → IsClock (clock_of s.clocks.now i)
  clock_there i within = set.agree.clock i (omega (arith, within, set.agree.count))

  has_date : (b t : ℕ) (x : FlowNo) → slice_get rest b ≡ Some x → IsDate (clock_of s.clocks.now x.0) t → HasDate (clocks_by s.clocks.now rest) b t
  has_date b t x found date = (clock_of s.clocks.now x.0, mapped_at (λ (y : FlowNo). clock_of s.clocks.now y.0) rest b x found, date)

  -- the flows stay as they are between dates
  pub at_later : (flows : List (List Value)) (from t : ℕ) → IsRest s rest flows → from ≤ t
      → ((i u : ℕ) → HasDate (clocks_by s.clocks.now rest) i u → from ≤ u → t ≤ u) → AreAt s rest flows from → AreAt s rest flows t
  at_later flows from t r le none at b x found =
      at b x found ∙ count_same (clock_of s.clocks.now x.0) (clock_there x.0 (r.within b x found)) from t le (λ u date late. none b u (has_date b u x found date) late)

  -- and at the end all are full
  pub full_at : (flows : List (List Value)) → IsRest s rest flows → AreAt s rest flows s.until → AreFull s flows
  full_at flows r at i within = elim (r.others i within) [
    | inl place ↦ at place.0 (record { 0 = i }) place.1
    | inr full ↦ full
  ]

  -- a flow of the rest has grown
  pub rest_grown : (old new : List (List Value)) (b : ℕ) (x : FlowNo) → slice_get rest b ≡ Some x → IsRest s rest old → HasGrown old new x.0 → IsRest s rest new
  rest_grown old new b x found r grown = record {
    within = r.within;
    once = r.once;
    after = r.after;
    others = λ i within. elim (cases_eq i x.0) [
      | inl same ↦ inl (b, found ∙ ap (λ n. Some (record { 0 = n })) (sym same))
      | inr other ↦ elim (r.others i within) [
        | inl place ↦ inl place
        | inr full ↦ inr (grown.others i other ∙ full)
      ]
    ];
  }

  module _ (flows : List (List Value)) (r : IsRest s rest flows) (t : ℕ) (before : t < s.until) (due : List ℕ) (d : AreDue (clocks_by s.clocks.now rest) t due) where
    -- no place is due between one that is and the next
    not_due : (q b : ℕ) → q ≤ length due → place_after due q ≤ b → ((k : ℕ) → q ≤ k → k < length due → b < slice_index due k) → Contains due b → ⊥
    not_due zero b few late early (k, below, is) =
        let less = early k (omega arith) below in
        let value : slice_index due k ≡ b = get_or_default due k 0 b below ∙ is in
        omega (arith, less, value)
    not_due (suc q) b few late early (k, below, is) =
        let value : slice_index due k ≡ b = get_or_default due k 0 b below ∙ is in
        elim (cases_lt k (suc q)) [
          | inl earlier ↦ elim (cases_eq k q) [
            | inl same ↦ let at : slice_index due q ≡ b = ap (slice_index due) (sym same) ∙ value in omega (arith, at, late)
            | inr other ↦
                let inside : q < length due = omega (arith, few) in
                let lower = rising_less due d.rising k q (omega (arith, earlier, other)) inside in
                omega (arith, lower, value, late)
          ]
          | inr later ↦ let less = early k later below in omega (arith, less, value)
        ]

    pub part_none : AreAt s rest flows t → IsPart s rest flows t (place_after due 0)
    part_none at = record { done = λ b x found less. absurd (omega (arith, less)); left = λ b x found le. at b x found }

    -- up to the next place that is due, or the end
    pub part_until : (q place : ℕ) → q ≤ length due → IsPart s rest flows t (place_after due q) → place_after due q ≤ place → ((k : ℕ) → q ≤ k → k < length due → place ≤ slice_index due k)
        → IsPart s rest flows t place
    part_until q place few part from_le early = record {
      done = λ b x found less. elim (cases_lt b (place_after due q)) [
        | inl earlier ↦ part.done b x found earlier
        | inr late ↦
            let none : IsDate (clock_of s.clocks.now x.0) t → ⊥ = λ date. not_due q b few late (λ k le below. let h = early k le below in omega (arith, h, less)) (d.all b (has_date b t x found date)) in
            part.left b x found late
            ∙ count_same (clock_of s.clocks.now x.0) (clock_there x.0 (r.within b x found)) t (t + 1) (omega arith) (λ u date le. elim (cases_lt t u) [
              | inl more ↦ omega (arith, more)
              | inr not_more ↦ let same : u ≡ t = omega (arith, le, not_more) in absurd (none (subst (IsDate (clock_of s.clocks.now x.0)) same date))
            ])
      ];
      left = λ b x found le. part.left b x found (omega (arith, from_le, le));
    }

    -- with all places behind
    pub part_all : (place : ℕ) → length rest ≤ place → IsPart s rest flows t place → AreAt s rest flows (t + 1)
    part_all place end part b x found = part.done b x found (omega (arith, end, slice_get_within rest b x found))

    module _ (place : ℕ) (part : IsPart s rest flows t place) (x : FlowNo) (found : slice_get rest place ≡ Some x) (dated : HasDate (clocks_by s.clocks.now rest) place t) where
      own_date : IsDate (clock_of s.clocks.now x.0) t
      own_date =
          let (c, at, date) = dated in
          let same : c ≡ clock_of s.clocks.now x.0 = same_Some c (clock_of s.clocks.now x.0) (sym at ∙ mapped_at (λ (y : FlowNo). clock_of s.clocks.now y.0) rest place x found) in
          subst (λ (e : Clock). IsDate e t) same date

      within : x.0 < length s.flat.now.flows
      within = r.within place x found

      own_clock : IsClock (clock_of s.clocks.now x.0)
      own_clock = clock_there x.0 within

      len_is : len flows x.0 ≡ own_date.0
      len_is = part.left place x found (omega arith) ∙ count_at (clock_of s.clocks.now x.0) own_clock t own_date.0 own_date.1

      date_is : date_at (clock_of s.clocks.now x.0) (len flows x.0) ≡ t
      date_is = ap (date_at (clock_of s.clocks.now x.0)) len_is ∙ sym own_date.1

      -- each flow has its values before the date
      at_least : (j : ℕ) → j < length s.flat.now.flows → dates_before t (clock_of s.clocks.now j) ≤ len flows j
      at_least j inside = elim (r.others j inside) [
        | inl at ↦ elim (cases_lt at.0 place) [
          | inl earlier ↦
              let is = part.done at.0 (record { 0 = j }) at.1 earlier in
              let grows = count_grows (clock_of s.clocks.now j) (clock_there j inside) t (t + 1) (omega arith) in
              omega (arith, is, grows)
          | inr late ↦ let is = part.left at.0 (record { 0 = j }) at.1 late in omega (arith, is)
        ]
        | inr full ↦
            let grows = count_grows (clock_of s.clocks.now j) (clock_there j inside) t s.until (omega (arith, before)) in
            omega (arith, full, grows)
      ]

      read_there : (flow : Flow) → slice_get s.flat.now.flows x.0 ≡ Some flow → (j m : ℕ) → Reads s.flat.now flow.def (len flows x.0) j m → m < len flows j
      read_there flow at j m reads =
          let (inside, earlier) = reads_earlier s.flat.now set.flat s.clocks.now set.agree x.0 flow at (len flows x.0) j m reads in
          let numbers = dates_before_number t (clock_of s.clocks.now j) m (clock_there j inside) in
          elim earlier [
            | inl less ↦
                let below = numbers.1 (omega (arith, less, date_is)) in
                let least = at_least j inside in
                omega (arith, below, least)
            | inr both ↦ elim (r.others j inside) [
              | inl there ↦
                  let lower : there.0 < place = r.after place there.0 x (record { 0 = j }) found there.1 both.1 in
                  let is = part.done there.0 (record { 0 = j }) there.1 lower in
                  let below = (dates_before_number (t + 1) (clock_of s.clocks.now j) m (clock_there j inside)).1 (omega (arith, both.0, date_is)) in
                  omega (arith, is, below)
              | inr full ↦
                  let below = (dates_before_number s.until (clock_of s.clocks.now j) m (clock_there j inside)).1 (omega (arith, both.0, date_is, before)) in
                  omega (arith, full, below)
            ]
          ]

      outs_there : (flow : Flow) → slice_get s.flat.now.flows x.0 ≡ Some flow → (k out o : ℕ) (app : App) (f : FlowNo) → flow.def ≡ definitions.Apply k out → slice_get s.flat.now.apps k ≡ Some app
          → slice_get app.outs o ≡ Some f → len flows x.0 ≤ len flows f.0
      outs_there flow at k out o app f is applied output =
          let (own, own_applied, own_output) = subst (IsWellDefined s.flat.now x.0 flow.ty) is (set.flat.flows x.0 flow at) in
          let same_app : own ≡ app = same_Some own app (sym own_applied ∙ applied) in
          let own_out : slice_get app.outs out ≡ Some (record { 0 = x.0 }) = ap (λ (a : App). slice_get a.outs out) (sym same_app) ∙ own_output in
          let one = set.agree.apps k app applied in
          let clock : clock_of s.clocks.now x.0 ≡ clock_of s.clocks.now f.0 = one.outs out (record { 0 = x.0 }) own_out ∙ sym (one.outs o f output) in
          let (g, g_found, g_is) = (set.flat.apps k app applied).outs o f output in
          let least = at_least f.0 (slice_get_within s.flat.now.flows f.0 g g_found) in
          let mine = part.left place x found (omega arith) in
          let same : dates_before t (clock_of s.clocks.now x.0) ≡ dates_before t (clock_of s.clocks.now f.0) = ap (dates_before t) clock in
          omega (arith, least, mine, same)

      pub can_grow : CanGrow s flows x.0
      can_grow = record {
        within = within;
        before = omega (arith, date_is, before);
        ready = λ flow at. record { reads = read_there flow at; outs = outs_there flow at };
      }

      -- then the part is one place longer
      pub part_grown : (new : List (List Value)) → HasGrown flows new x.0 → IsPart s rest new t (place + 1)
      part_grown new grown = record {
        done = λ b y at less. elim (cases_eq b place) [
          | inl same ↦
              let own : y ≡ x = same_Some y x (sym at ∙ ap (slice_get rest) same ∙ found) in
              let more = count_after (clock_of s.clocks.now x.0) own_clock t own_date.0 own_date.1 in
              let is : len new x.0 ≡ dates_before (t + 1) (clock_of s.clocks.now x.0) = omega (arith, grown.one, len_is, more) in
              subst (λ (z : FlowNo). len new z.0 ≡ dates_before (t + 1) (clock_of s.clocks.now z.0)) (sym own) is
          | inr other ↦ grown.others y.0 (apart b y at other) ∙ part.done b y at (omega (arith, less, other))
        ];
        left = λ b y at le. grown.others y.0 (apart b y at (λ e. omega (arith, e, le))) ∙ part.left b y at (omega (arith, le));
      }
        where
          apart : (b : ℕ) (y : FlowNo) → slice_get rest b ≡ Some y → (b ≡ place → ⊥) → y.0 ≡ x.0 → ⊥
          apart b y at other same =
              let own : y ≡ x = ap (λ n. record { 0 = n }) same in
              other (r.once b place x (at ∙ ap Some own) found)

module _ (s : Setting) (set : IsSet s) (rest : List FlowNo) (flows : List (List Value)) (r : IsRest s rest flows) (t : ℕ) (before : t < s.until) (due : List ℕ)
    (d : AreDue (clocks_by s.clocks.now rest) t due) where
  place_dated : (q : ℕ) → q < length due → HasDate (clocks_by s.clocks.now rest) (slice_index due q) t
  place_dated q below = d.each (slice_index due q) (q, below, get_or_default due q (slice_index due q) 0 below)

  pub place_within : (q : ℕ) → q < length due → slice_index due q < length rest
  place_within q below =
      let (c, found, date) = place_dated q below in
      let inside = slice_get_within (clocks_by s.clocks.now rest) (slice_index due q) c found in
      omega (arith, inside, length-map rest (λ (x : FlowNo). clock_of s.clocks.now x.0))

  after_within : (q : ℕ) → q ≤ length due → place_after due q ≤ length rest
  after_within zero few = omega arith
  after_within (suc q) few = let inside = place_within q (omega (arith, few)) in omega (arith, inside)

  after_le : (q : ℕ) → q < length due → place_after due q ≤ slice_index due q
  after_le zero below = omega arith
  after_le (suc q) below = let less = rising_less due d.rising q (suc q) (omega arith) below in omega (arith, less)

  at_or_later : (q k : ℕ) → q ≤ k → k < length due → slice_index due q ≤ slice_index due k
  at_or_later q k le below = elim (cases_eq q k) [
    | inl same ↦ let is : slice_index due q ≡ slice_index due k = ap (slice_index due) same in omega (arith, is)
    | inr other ↦ let less = rising_less due d.rising q k (omega (arith, le, other)) below in omega (arith, less)
  ]

  here : (q : ℕ) → q < length due → IsPart s rest flows t (place_after due q) → IsPart s rest flows t (slice_index due q)
  here q below part = part_until s set rest flows r t before due d q (slice_index due q) (omega (arith, below)) part (after_le q below) (at_or_later q)

  flow_found : (q : ℕ) → q < length due → slice_get rest (slice_index due q) ≡ Some (slice_index_or rest (slice_index due q) (record { 0 = 0 }))
  flow_found q below = slice_get-get_or rest (slice_index due q) (record { 0 = 0 }) (place_within q below)

  pub step_can_grow : (q : ℕ) → q < length due → IsPart s rest flows t (place_after due q) → CanGrow s flows (slice_index_or rest (slice_index due q) (record { 0 = 0 })).0
  step_can_grow q below part =
      can_grow s set rest flows r t before due d (slice_index due q) (here q below part) (slice_index_or rest (slice_index due q) (record { 0 = 0 })) (flow_found q below) (place_dated q below)

  pub step_part : (q : ℕ) → q < length due → IsPart s rest flows t (place_after due q) → (new : List (List Value))
      → HasGrown flows new (slice_index_or rest (slice_index due q) (record { 0 = 0 })).0 → IsPart s rest new t (place_after due (q + 1))
  step_part q below part new grown =
      rw add-one
      (part_grown s set rest flows r t before due d (slice_index due q) (here q below part) (slice_index_or rest (slice_index due q) (record { 0 = 0 })) (flow_found q below) (place_dated q below) new grown)

  pub step_rest : (q : ℕ) → q < length due → (new : List (List Value)) → HasGrown flows new (slice_index_or rest (slice_index due q) (record { 0 = 0 })).0 → IsRest s rest new
  step_rest q below new grown =
      rest_grown s set rest flows new (slice_index due q) (slice_index_or rest (slice_index due q) (record { 0 = 0 })) (flow_found q below) r grown

  pub all_behind : (q : ℕ) → q ≡ length due → IsPart s rest flows t (place_after due q) → AreAt s rest flows (t + 1)
  all_behind q end part =
      part_all s set rest flows r t before due d (length rest) (omega arith)
      (part_until s set rest flows r t before due d q (length rest) (omega (arith, end)) part (after_within q (omega (arith, end))) (λ k le below. absurd (omega (arith, end, le, below))))

mapped_back : {A B : Type 0} (f : A → B) (xs : List A) (j : ℕ) (y : B) → slice_get (map f xs) j ≡ Some y → (x : A) × (slice_get xs j ≡ Some x) × (f x ≡ y)
mapped_back f [] j y e = absurd (cc)
mapped_back f (x ∷ xs) zero y e = (x, refl, same_Some (f x) y e)
mapped_back f (x ∷ xs) (suc j) y e = mapped_back f xs j y e

-- the calendar's clocks are clocks
pub clocks_are : (s : Setting) → IsSet s → (rest : List FlowNo) (flows : List (List Value)) → IsRest s rest flows → AreAllClocks (clocks_by s.clocks.now rest)
clocks_are s set rest flows r i c found =
    let (x, at, is) = mapped_back (λ (y : FlowNo). clock_of s.clocks.now y.0) rest i c found in
    subst IsClock is (clock_there s set rest x.0 (r.within i x at))

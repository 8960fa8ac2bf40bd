-- A flow that is given all its values at once.
use Rattle.prl_base.proofs.Standard.{◌≡◌, ◌+◌, ◌<◌, ◌≤◌, inl, inr, ℕ, List, [], ◌∷◌, ◌++◌, length, set, Some, Result, Ok, Err, IfOk, slice_get, slice_index_or, refl, sym, ◌∙◌, ap, subst, arith}
use Rattle.prl_base.proofs.Standard.{cases_eq, cases_lt, get_or_append_left, get_or_push, length_push, get_or-set_other, get_or_default, same_Some, slice_get_within}
use Rattle.std.proofs.lemmas.List.{get_or-set_same, length-set}
use Rattle.prl_base.specs.Clocks.{IsClock, date_at}
use Rattle.prl_base.specs.declared.numbers.FlowNo.{FlowNo}
use Rattle.prl_base.specs.declared.values.Value.{Value}
use Rattle.prl_body.specs.declared.bodies.CheckedBody.{CheckedBody}
use Rattle.prl_flow.specs.Vocabulary.{dates_before, FlatProgram, clock_of, values_of}
use Rattle.prl_flow.specs.declared.programs.App.{App}
use Rattle.prl_flow.specs.declared.programs.Flow.{Flow}
use Rattle.prl_flow.proofs.ClockDates.{dates_before_number}
use Rattle.prl_causal.specs.Tables.{Reads, nothing, table_of, value_of}
use Rattle.prl_causal.proofs.Earlier.{reads_earlier, value_local}
use Rattle.prl_evaluation.specs.Vocabulary.{IsFull, IsPlain, IsSet, IsThere, UnderWay, len, AreWhole, IsGroup, Run, Setting}
use Rattle.prl_evaluation.proofs.Groups.{clock_there, names_of_reads}
use Rattle.prl_evaluation.proofs.There.{is_there_at}

-- one value more of a function's first values
pub one_value : (xs : List Value) (n : ℕ) (v : Value) (f : ℕ → Value) → length xs ≡ n → ((m : ℕ) → m < n → slice_index_or xs m nothing ≡ f m) → v ≡ f n
    → (length (xs ++ v ∷ []) ≡ n + 1) × ((m : ℕ) → m < n + 1 → slice_index_or (xs ++ v ∷ []) m nothing ≡ f m)
one_value xs n v f size each is = (
  length_push xs v ∙ ap (λ k. k + 1) size,
  λ m less. elim (cases_lt m n) [
    | inl earlier ↦ get_or_append_left xs (v ∷ []) nothing m (omega (arith, earlier, size)) ∙ each m earlier
    | inr late ↦
        let last : length xs ≡ m = omega (arith, late, less, size) in
        get_or_push xs v nothing m last ∙ is ∙ ap f (omega (arith, last, size))
  ],
)

-- what holds of a value that came, from what is known of it
pub ok_more : {A E : Type 0} (r : Result A E) (P Q : A → Type 0) → ((a : A) → P a → Q a) → IfOk r P → IfOk r Q
ok_more (Ok a) P Q f h = f a h
ok_more (Err e) P Q f h = tt

-- the values of a flow that was looked up
pub listed : (flows : List (List Value)) (k : ℕ) (found values : List Value) → k < length flows → found ≡ slice_index_or flows k found → values ≡ found → values ≡ values_of flows k
listed flows k found values within is same = same ∙ is ∙ get_or_default flows k found [] within

module _ (s : Setting) (given : IsSet s) (flows : List (List Value)) (x : FlowNo) (number : ℕ) (group : IsGroup s (x ∷ []) number flows)
    (flow : Flow) (found : slice_get s.flat.now.flows x.0 ≡ Some flow) (plain : IsPlain flow.def) (runs : List Run) (h : UnderWay s flows runs) where
  within : x.0 < length s.flat.now.flows
  within = slice_get_within s.flat.now.flows x.0 flow found

  clock_is : IsClock (clock_of s.clocks.now x.0)
  clock_is = clock_there s given x.0 within

  dates : dates_before s.until (clock_of s.clocks.now x.0) ≡ number
  dates = group.dates 0 x refl

  early : (n : ℕ) → n < number → date_at (clock_of s.clocks.now x.0) n < s.until
  early n less = (dates_before_number s.until (clock_of s.clocks.now x.0) n clock_is).0 (omega (arith, dates, less))

  -- what is read stands in a flow that is full
  reads_there : (n : ℕ) → n < number → (j m : ℕ) → Reads s.flat.now flow.def n j m → (j < length s.flat.now.flows) × (m < len flows j)
  reads_there n less j m reads =
      let (inside, earlier) = reads_earlier s.flat.now given.flat s.clocks.now given.agree x.0 flow found n j m reads in
      let full = group.uses 0 j x flow refl found (names_of_reads s.flat.now flow.def n j m reads) in
      let date = early n less in
      let soon : date_at (clock_of s.clocks.now j) m < s.until = elim earlier [ inl sooner ↦ omega (arith, sooner, date) | inr both ↦ omega (arith, both.0, date) ] in
      let below = (dates_before_number s.until (clock_of s.clocks.now j) m (clock_there s given j inside)).1 soon in
      (inside, omega (arith, full, below))

  pub all_there : (n : ℕ) → n < number → IsThere s.sensors.now flows flow.def n
  all_there n less =
      is_there_at s.flat.now s.sensors.now flows x.0 flow.ty flow.def n (given.flat.flows x.0 flow found) h.count
      (λ k defined. given.has_rows k (record { 0 = x.0 }) defined n (early n less)) (λ j m reads. (reads_there n less j m reads).1) plain

  -- no output of an application has this definition
  not_output : (k o : ℕ) (app : App) (f : FlowNo) → slice_get s.flat.now.apps k ≡ Some app → slice_get app.outs o ≡ Some f → f.0 ≡ x.0 → ⊥
  not_output k o app f applied output same =
      let (g, at, is) = (given.flat.apps k app applied).outs o f output in
      let one : g ≡ flow = same_Some g flow (sym at ∙ ap (slice_get s.flat.now.flows) same ∙ found) in
      subst IsPlain (ap (λ (y : Flow). y.def) (sym one) ∙ is) plain

  module _ (xs : List Value) (size : length xs ≡ number)
      (each : (p : FlatProgram) (bodies : List CheckedBody) (n : ℕ) → n < number → slice_index_or xs n nothing ≡ value_of p bodies s.sensors.now (table_of flows) flow.def n) where
    inside : x.0 < length flows
    inside = omega (arith, within, h.count)

    own : values_of (set flows x.0 xs) x.0 ≡ xs
    own = get_or-set_same flows x.0 xs [] inside

    other : (j : ℕ) → (j ≡ x.0 → ⊥) → values_of (set flows x.0 xs) j ≡ values_of flows j
    other j apart = get_or-set_other flows x.0 j xs [] apart

    own_front : (n : ℕ) → n < number → slice_index_or xs n nothing ≡ h.table x.0 n
    own_front n less =
        each s.flat.now s.bodies.now n less
        ∙ value_local s.flat.now s.bodies.now s.sensors.now (table_of flows) h.table flow.def n (λ j m reads.
        let there = reads_there n less j m reads in
        h.front j m there.0 there.1)
        ∙ sym (h.fixed x.0 flow found n (early n less))

    set_under_way : UnderWay s (set flows x.0 xs) runs
    set_under_way = record {
      table = h.table;
      fixed = h.fixed;
      typed = h.typed;
      count = length-set flows x.0 xs ∙ h.count;
      short = λ j below. elim (cases_eq j x.0) [
        | inl same ↦
            let all : length (values_of (set flows x.0 xs) x.0) ≤ dates_before s.until (clock_of s.clocks.now x.0) = omega (arith, ap length own, size, dates) in
            subst (λ t. len (set flows x.0 xs) t ≤ dates_before s.until (clock_of s.clocks.now t)) (sym same) all
        | inr apart ↦ let old = h.short j below in omega (arith, old, ap length (other j apart))
      ];
      front = λ j m below less. elim (cases_eq j x.0) [
        | inl same ↦
            let few : m < len (set flows x.0 xs) x.0 = subst (λ t. m < len (set flows x.0 xs) t) same less in
            let here : table_of (set flows x.0 xs) x.0 m ≡ h.table x.0 m =
            ap (λ (ys : List Value). slice_index_or ys m nothing) own ∙ own_front m (omega (arith, few, ap length own, size)) in
            subst (λ t. table_of (set flows x.0 xs) t m ≡ h.table t m) (sym same) here
        | inr apart ↦
            ap (λ (ys : List Value). slice_index_or ys m nothing) (other j apart) ∙ h.front j m below (omega (arith, less, ap length (other j apart)))
      ];
      run_count = h.run_count;
      run = h.run;
      steps = λ k o app r f applied there output.
          let old = h.steps k o app r f applied there output in
          let same = ap length (other f.0 (not_output k o app f applied output)) in
          (omega (arith, old.0, same), omega (arith, old.1, same));
    }

    set_whole : AreWhole s flows → AreWhole s (set flows x.0 xs)
    set_whole whole j below = elim (cases_eq j x.0) [
      | inl same ↦
          let full : IsFull s (set flows x.0 xs) x.0 = ap length own ∙ size ∙ sym dates in
          inl (subst (IsFull s (set flows x.0 xs)) (sym same) full)
      | inr apart ↦ elim (whole j below) [
        | inl full ↦ inl (ap length (other j apart) ∙ full)
        | inr none ↦ inr (ap length (other j apart) ∙ none)
      ]
    ]

    pub set_both : AreWhole s flows → UnderWay s (set flows x.0 xs) runs × AreWhole s (set flows x.0 xs)
    set_both whole = (set_under_way, set_whole whole)

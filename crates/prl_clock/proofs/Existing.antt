-- Each flat program has its clocks or a fault.
use Rattle.prl_base.proofs.Standard.{◌≡◌, ◌≢◌, ◌<◌, ◌++◌, ◌∷◌, ◌⊎◌, inl, inr, ℕ, zero, suc, ℤ, pos, negsuc, nat_abs, ◌≤ℤ◌, List, [], length, map, get_or, Option, Some, None, Result, Ok, Err, refl, sym, ap}
use Rattle.prl_base.proofs.Standard.{◌∙◌, subst, arith, range_with_len, slice_get, cases_lt, get_or-map-range_with_len, length-map-range_with_len, slice_get-get_or, slice_get_within}
use borrow.Author.Differences.{ints}
use Rattle.prl_base.specs.Vocabulary.{IsOperatorFor, Fraction}
use Rattle.prl_base.specs.declared.operators.Clock.{Clock}
use Rattle.prl_base.specs.declared.operators.Op.{Op}
use Rattle.prl_base.specs.declared.values.Ty.{Ty}
use Rattle.prl_base.specs.declared.operators.Op.TheVariants as operators
use Rattle.prl_ast.specs.InRange.{IfThere, IsRate}
use Rattle.prl_ast.specs.declared.declarations.Rate.{Rate}
use Rattle.prl_flow.specs.Vocabulary.{FlatProgram, IsFlat, IsWellDefined, IsApplication, clock_of}
use Rattle.prl_flow.specs.declared.programs.App.{App}
use Rattle.prl_flow.specs.declared.programs.Arg.{Arg}
use Rattle.prl_flow.specs.declared.programs.Def.{Def}
use Rattle.prl_flow.specs.declared.programs.Flow.{Flow}
use Rattle.prl_flow.specs.declared.programs.Def.TheVariants as definitions
use Rattle.prl_clock.specs.Vocabulary.{ClockFault, Standing, Refusal, Timing, Placed, same_clock, timing_of_operator, timing_of_rate, rate_constraints, argument_constraint, first_output}
use Rattle.prl_clock.specs.Vocabulary.{output_constraints, definition_constraints, flow_constraints, constraints_below, constraints_of, IsOutcome, IsWhole, IsWholeClock, IsReached, IsStopped, told}
use Rattle.prl_clock.specs.Vocabulary.{IsLink, HasClock, alone, standing_at}
use Rattle.prl_clock.specs.declared.calculus.ClockFault.TheVariants as faults
use Rattle.prl_clock.specs.declared.steps.Refusal.TheVariants as refusals
use Rattle.prl_clock.proofs.Fine.{fine_none}
use Rattle.prl_clock.proofs.Finishing.{stopped_mismatch, stopped_limit, free_is, not_whole_is, whole_are, clock_pushed}
use Rattle.prl_clock.proofs.Merging.{beyond, decide}
use Rattle.prl_clock.proofs.Outcoming.{AreGood, good_rate, good_link, steps_total}
use Rattle.prl_clock.proofs.Rated.{rate_link, rate_lowest}
use Rattle.prl_clock.proofs.Starting.{alone_solved}

same_good : IsLink same_clock
same_good = record { num = 1; is = refl; some = omega arith; parts = record { period = omega arith; start = omega arith } }

operator_good : (op : Op) (ty : Ty) → IsOperatorFor ty op → IsLink (timing_of_operator op)
operator_good (operators.Fby c) ty fits = same_good
operator_good (operators.Cons c) ty fits = record { num = 1; is = refl; some = omega arith; parts = record { period = omega arith; start = omega arith } }
operator_good operators.Tail ty fits = record { num = 1; is = refl; some = omega arith; parts = record { period = omega arith; start = omega arith } }
operator_good (operators.Up k) ty fits = record { num = 1; is = refl; some = omega arith; parts = record { period = fits.0; start = omega arith } }
operator_good (operators.Down k) ty fits = record { num = k; is = refl; some = fits.0; parts = record { period = omega arith; start = omega arith } }
operator_good (operators.Shift q) ty fits = record { num = 1; is = refl; some = omega arith; parts = record { period = omega arith; start = fits.0 } }

good_both : (n : ℕ) (cs ds : List Placed) → AreGood n cs → AreGood n ds → AreGood n (cs ++ ds)
good_both n [] ds a b = b
good_both n (c ∷ cs) ds a b = (a.0, good_both n cs ds a.1 b)

module _ (p : FlatProgram) (flat : IsFlat p) where
  good_rates : (i at : ℕ) (o : Option Rate) → i < length p.flows → IfThere IsRate o → AreGood (length p.flows) (rate_constraints i at o)
  good_rates i at None h is = tt
  good_rates i at (Some rate) h is = (good_rate i (timing_of_rate rate) h (rate_link rate is) (rate_lowest rate is), tt)

  good_arguments : (i : ℕ) (args : List Arg) → i < length p.flows → ((j : ℕ) (arg : Arg) → slice_get args j ≡ Some arg → arg.flow.0 < length p.flows)
      → AreGood (length p.flows) (map (argument_constraint i) args)
  good_arguments i [] h f = tt
  good_arguments i (a ∷ args) h f = (good_link i a.flow.0 same_clock h (f 0 a refl) same_good, good_arguments i args h (λ j arg e. f (suc j) arg e))

  good_output : (i at out k : ℕ) (app : App) → i < length p.flows → IsApplication p k app → AreGood (length p.flows) (output_constraints i at out (Some app))
  good_output i at zero k app h is = good_arguments i app.args h is.args
  good_output i at (suc out) k app h is =
      let o = is.outs 0 (get_or app.outs 0 (record { 0 = 0 })) (slice_get-get_or app.outs 0 (record { 0 = 0 }) (omega (arith, is.has_output))) in
      (good_link i (first_output app) same_clock h (slice_get_within p.flows (first_output app) o.0 o.1) same_good, tt)

  good_definition : (i at : ℕ) (ty : Ty) (def : Def) → i < length p.flows → IsWellDefined p i ty def → AreGood (length p.flows) (definition_constraints p i at def)
  good_definition i at ty (definitions.Sensor k) h is = tt
  good_definition i at ty (definitions.Copy of) h is = (good_link i of.0 same_clock h (slice_get_within p.flows of.0 is.0 is.1) same_good, tt)
  good_definition i at ty (definitions.Const v) h is = tt
  good_definition i at ty (definitions.Apply app out) h is =
      let P : Option App → Type 0 = λ o. AreGood (length p.flows) (output_constraints i at out o) in
      subst P (sym is.1) (good_output i at out app is.0 h (flat.apps app is.0 is.1))
  good_definition i at ty (definitions.Op op of) h is =
      (good_link i of.0 (timing_of_operator op) h (slice_get_within p.flows of.0 is.0.0 is.0.1) (operator_good op ty is.1), tt)

  good_flow : (i : ℕ) (o : Option Flow) → slice_get p.flows i ≡ o → AreGood (length p.flows) (flow_constraints p i o)
  good_flow i None e = tt
  good_flow i (Some flow) e =
      let h = slice_get_within p.flows i flow e in
      good_both (length p.flows) (rate_constraints i flow.at.at flow.rate) (definition_constraints p i flow.at.at flow.def)
      (good_rates i flow.at.at flow.rate h (flat.notes i flow e).0) (good_definition i flow.at.at flow.ty flow.def h (flat.flows i flow e))

  good_below : (n : ℕ) → AreGood (length p.flows) (constraints_below p n)
  good_below zero = tt
  good_below (suc n) = good_both (length p.flows) (constraints_below p n) (flow_constraints p n (slice_get p.flows n)) (good_below n) (good_flow n (slice_get p.flows n) refl)

-- so many lone flows
abbrev alones : ℕ → List Standing
alones n = map alone (range_with_len 0 n)

alones_are : (n x : ℕ) → standing_at (alones n) x ≡ alone x
alones_are n x =
    elim (cases_lt x n) [
      | inl below ↦ get_or-map-range_with_len alone 0 n x x (alone x) below (omega arith)
      | inr above ↦ beyond (alones n) x (let e = length-map-range_with_len alone 0 n in omega (arith, e, above))
    ]

-- the first number below another for which something is so, or it is for none
searched : (A B : ℕ → Type 0) → ((x : ℕ) → A x ⊎ B x) → (n : ℕ) → ((x : ℕ) → x < n → A x) ⊎ ((i : ℕ) × (i < n) × B i × ((x : ℕ) → x < i → A x))
searched A B f zero = inl (λ x h. absurd (omega (arith, h)))
searched A B f (suc n) =
    elim (searched A B f n) [
      | inr r ↦ let h = r.1 in inr (r.0, omega (arith, h), r.2, r.3)
      | inl all ↦ elim (f n) [
        | inr b ↦ inr (n, omega arith, b, all)
        | inl a ↦ inl (λ x h.
            elim (cases_lt x n) [
              | inl below ↦ all x below
              | inr above ↦ let e : n ≡ x = omega (arith, h, above) in subst A e a
            ])
      ]
    ]

timed_or : (st : List Standing) (x : ℕ) → HasClock st x ⊎ ((standing_at st x).clock ≡ None)
timed_or st x = by (standing_at st x).clock refl
  where
    by : (o : Option Timing) → (standing_at st x).clock ≡ o → HasClock st x ⊎ ((standing_at st x).clock ≡ None)
    by None e = inr e
    by (Some t) e = inl (t, e)

whole_or : (f g : Fraction) → IsWhole f g ⊎ (IsWhole f g → ⊥)
whole_or f g =
    elim (decide f.den 1) [
      | inr n ↦ inr (λ w. n w.0)
      | inl a ↦ elim (decide g.den 1) [
        | inr n ↦ inr (λ w. n w.1)
        | inl b ↦ elim (sign g.num) [ inl c ↦ inl (a, b, c) | inr n ↦ inr (λ w. n w.2) ]
      ]
    ]
  where
    sign : (z : ℤ) → (pos 0 ≤ℤ z) ⊎ (pos 0 ≤ℤ z → ⊥)
    sign (pos n) = inl (omega (arith, ints))
    sign (negsuc n) = inr (λ h. omega (arith, ints, h))

-- the clock of a flow is there and whole, or there and not whole, or not there
abbrev Whole : List Standing → ℕ → Type 0
Whole st x = (t : Timing) × ((standing_at st x).clock ≡ Some t) × IsWhole t.period t.start

abbrev NotWhole : List Standing → ℕ → Type 0
NotWhole st x = ((t : Timing) × ((standing_at st x).clock ≡ Some t) × (IsWhole t.period t.start → ⊥)) ⊎ ((standing_at st x).clock ≡ None)

whole_at : (st : List Standing) (x : ℕ) → Whole st x ⊎ NotWhole st x
whole_at st x =
    elim (timed_or st x) [
      | inr none ↦ inr (inr none)
      | inl c ↦ elim (whole_or c.0.period c.0.start) [ inl w ↦ inl (c.0, c.1, w) | inr n ↦ inr (inl (c.0, c.1, n)) ]
    ]

built : (st : List Standing) (n : ℕ) → ((x : ℕ) → x < n → Whole st x)
    → (clocks : List Clock) × (length clocks ≡ n) × ((x : ℕ) → x < n → (u : Timing) × ((standing_at st x).clock ≡ Some u) × IsWholeClock u (clock_of clocks x))
built st zero w = ([], refl, λ x h. absurd (omega (arith, h)))
built st (suc n) w =
    let r = built st n (λ x h. w x (omega (arith, h))) in
    let t = w n (omega arith) in
    let c : Clock = record { period = nat_abs t.0.period.num; start = nat_abs t.0.start.num } in
    let more = clock_pushed r.0 c st n t.0 r.1 t.1 (record { whole = t.2; period = refl; start = refl }) r.2 in
    (r.0 ++ c ∷ [], longer r.0 c n r.1, λ x h. more x (omega (arith, h)))
  where
    longer : (xs : List Clock) (c : Clock) (n : ℕ) → length xs ≡ n → length (xs ++ c ∷ []) ≡ suc n
    longer xs c n e = len xs ∙ ap suc e
      where
        len : (xs : List Clock) → length (xs ++ c ∷ []) ≡ suc (length xs)
        len [] = refl
        len (x ∷ xs) = ap suc (len xs)

module _ (p : FlatProgram) (flat : IsFlat p) where
  stopped_outcome : (e : ClockFault) → IsStopped [] (constraints_of p) e → e ≢ faults.Memory → IsOutcome p (Err e)
  stopped_outcome (faults.Mismatch at) s never = stopped_mismatch (constraints_of p) (faults.Mismatch at) s at refl
  stopped_outcome (faults.Limit limit) s never = stopped_limit (constraints_of p) (faults.Limit limit) s limit refl
  stopped_outcome (faults.Free label) s never = absurd (free s.refusal s.placed.at label (sym s.is))
    where
      free : (r : Refusal) (at : ℕ) (label : List ℕ) → told r at ≡ faults.Free label → ⊥
      free refusals.Mismatch at label h = cc
      free refusals.Limit at label h = cc
      free refusals.Memory at label h = cc
  stopped_outcome (faults.NotWhole label t u) s never = absurd (not_whole s.refusal s.placed.at label t u (sym s.is))
    where
      not_whole : (r : Refusal) (at : ℕ) (label : List ℕ) (t u : Fraction) → told r at ≡ faults.NotWhole label t u → ⊥
      not_whole refusals.Mismatch at label t u h = cc
      not_whole refusals.Limit at label t u h = cc
      not_whole refusals.Memory at label t u h = cc
  stopped_outcome faults.Memory s never = absurd (never refl)

  found : (i : ℕ) → i < length p.flows → (flow : Flow) × (slice_get p.flows i ≡ Some flow)
  found i h = of (slice_get p.flows i) refl
    where
      of : (o : Option Flow) → slice_get p.flows i ≡ o → (flow : Flow) × (slice_get p.flows i ≡ Some flow)
      of (Some flow) e = (flow, e)
      of None e = absurd (never p.flows i h e)
        where
          never : (xs : List Flow) (i : ℕ) → i < length xs → slice_get xs i ≡ None → ⊥
          never [] i h e = omega (arith, h)
          never (x ∷ xs) zero h e = cc
          never (x ∷ xs) (suc i) h e = never xs i (omega (arith, h)) e

  reached_outcome : (st : List Standing) → IsReached p (constraints_of p) st → (r : Result (List Clock) ClockFault) × IsOutcome p r
  reached_outcome st r =
      elim (searched (HasClock st) (λ x. (standing_at st x).clock ≡ None) (timed_or st) (length st)) [
        | inr f ↦
            let below : f.0 < length p.flows = let h = f.1 in let e = r.len in omega (arith, h, e) in
            let flow = found f.0 below in (
              Err (faults.Free flow.0.label),
              free_is p st r f.0 flow.0.label (record { within = f.1; free = f.2; earlier = f.3 }) (record { flow = flow.0; found = flow.1; is = refl }),
            )
        | inl timed ↦ elim (searched (Whole st) (NotWhole st) (whole_at st) (length st)) [
          | inl whole ↦ let b = built st (length st) whole in (Ok b.0, whole_are p flat st b.0 r b.1 b.2)
          | inr f ↦ elim f.2 [
            | inr none ↦ absurd (some_none (timed f.0 f.1).1 none)
            | inl t ↦
                let below : f.0 < length p.flows = let h = f.1 in let e = r.len in omega (arith, h, e) in
                let flow = found f.0 below in (
                  Err (faults.NotWhole flow.0.label t.0.period t.0.start),
                  not_whole_is p st r timed f.0 flow.0.label t.0 t.1 t.2 f.3 (record { flow = flow.0; found = flow.1; is = refl }),
                )
          ]
        ]
      ]
    where
      some_none : {o : Option Timing} {t : Timing} → o ≡ Some t → o ≡ None → ⊥
      some_none a b = cc

  pub has_outcome : (r : Result (List Clock) ClockFault) × IsOutcome p r
  has_outcome =
      let n = length p.flows in
      let start = alone_solved (alones n) (alones_are n) in
      elim (steps_total p [] (constraints_of p) (alones n) (record { len = length-map-range_with_len alone 0 n; fine = fine_none (alones n) start; solved = start })
      (good_below p flat n)) [
        | inl r ↦ reached_outcome r.0 r.1
        | inr e ↦ (Err e.0, stopped_outcome e.0 e.1 e.2)
      ]

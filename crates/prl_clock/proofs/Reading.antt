-- From assignments that meet the constraints of a flat program to its clocks, and back.
use Rattle.prl_base.proofs.Standard.{◌≡◌, ◌≤◌, ◌<◌, ◌*◌, ◌∷◌, inl, inr, ℕ, zero, suc, pos, List, [], length, map, get_or, Option, Some, None, refl, sym, ap, ◌∙◌, subst, arith, slice_get, cases_lt}
use Rattle.prl_base.proofs.Standard.{slice_get-get_or, slice_get_within}
use Rattle.prl_base.specs.Clocks.{IsClock}
use Rattle.prl_base.specs.declared.numbers.FlowNo.{FlowNo}
use Rattle.prl_base.specs.declared.operators.Clock.{Clock}
use Rattle.prl_base.specs.declared.values.Ty.{Ty}
use Rattle.prl_ast.specs.InRange.{IfThere, IsRate}
use Rattle.prl_ast.specs.declared.declarations.Rate.{Rate}
use Rattle.prl_flow.specs.Vocabulary.{FlatProgram, IsFlat, IsWellDefined, IsApplication, AreClocks, AgreesClock, HasOneClock, HasRate, clock_of}
use Rattle.prl_flow.specs.declared.programs.App.{App}
use Rattle.prl_flow.specs.declared.programs.Arg.{Arg}
use Rattle.prl_flow.specs.declared.programs.Def.{Def}
use Rattle.prl_flow.specs.declared.programs.Flow.{Flow}
use Rattle.prl_flow.specs.declared.programs.Def.TheVariants as definitions
use Rattle.prl_clock.specs.Vocabulary.{Timing, Assignment, tick, MeetsAll, same_clock, timing_of_operator, timing_of_rate, rate_constraints, argument_constraint, first_output, output_constraints}
use Rattle.prl_clock.specs.Vocabulary.{definition_constraints, flow_constraints, constraints_below, constraints_of, GivesClock, Point, IsOver}
use Rattle.prl_clock.proofs.Graphs.{meets_before, meets_after, meets_both}
use Rattle.prl_clock.proofs.Meeting.{point, plain, ticks, descaled, same_clocks, result_clock, clock_of_rate}

-- those of each flow are among all
pub of_flow : (p : FlatProgram) (s : Assignment) (n i : ℕ) → i < n → MeetsAll s (constraints_below p n) → MeetsAll s (flow_constraints p i (slice_get p.flows i))
of_flow p s zero i h m = absurd (omega arith)
of_flow p s (suc n) i h m =
    elim (cases_lt i n) [
      | inl below ↦ of_flow p s n i below (meets_before s (constraints_below p n) (flow_constraints p n (slice_get p.flows n)) m)
      | inr above ↦
          let e : n ≡ i = omega arith in
          let P : ℕ → Type 0 = λ k. MeetsAll s (flow_constraints p k (slice_get p.flows k)) in
          subst P e (meets_after s (constraints_below p n) (flow_constraints p n (slice_get p.flows n)) m)
    ]

pub of_each : (p : FlatProgram) (s : Assignment) (n : ℕ) → ((i : ℕ) → i < n → MeetsAll s (flow_constraints p i (slice_get p.flows i))) → MeetsAll s (constraints_below p n)
of_each p s zero f = tt
of_each p s (suc n) f =
    meets_both s (constraints_below p n) (flow_constraints p n (slice_get p.flows n)) (of_each p s n (λ i h. f i (omega (arith, h)))) (f n (omega arith))

mapped : (s : Assignment) (x : ℕ) (args : List Arg) (j : ℕ) (arg : Arg) → slice_get args j ≡ Some arg → MeetsAll s (map (argument_constraint x) args) → IsOver same_clock (s.flow x) (s.flow arg.flow.0)
mapped s x [] j arg h m = absurd (cc h)
mapped s x (a ∷ args) zero arg h m = let e : a ≡ arg = same h in let P : Arg → Type 0 = λ b. IsOver same_clock (s.flow x) (s.flow b.flow.0) in subst P e m.0
  where
    same : {a b : Arg} → Some a ≡ Some b → a ≡ b
    same e = cc
mapped s x (a ∷ args) (suc j) arg h m = mapped s x args j arg h m.1

pub mapped_in : (s : Assignment) (x : ℕ) (args : List Arg) → ((j : ℕ) (arg : Arg) → slice_get args j ≡ Some arg → IsOver same_clock (s.flow x) (s.flow arg.flow.0)) → MeetsAll s (map (argument_constraint x) args)
mapped_in s x [] f = tt
mapped_in s x (a ∷ args) f = (f 0 a refl, mapped_in s x args (λ j arg h. f (suc j) arg h))

module _ (p : FlatProgram) (flat : IsFlat p) (clocks : List Clock) (count : length clocks ≡ length p.flows) (s : Assignment)
    (gives : (i : ℕ) → i < length clocks → GivesClock s i (clock_of clocks i)) where
  at_point : (i : ℕ) → i < length p.flows → s.flow i ≡ point (clock_of clocks i) s.unit
  at_point i h = let g = gives i (omega (arith, h, count)) in λ k. record { period = g.period k; start = g.start k }

  at_tick : tick s ≡ point ticks s.unit
  at_tick = let a : s.unit ≡ 1 * s.unit = omega arith in let b : 0 ≡ 0 * s.unit = omega arith in λ k. record { period = a k; start = pos (b k) }

  down_to : (q : Timing) (y x : ℕ) → y < length p.flows → x < length p.flows → IsOver q (s.flow y) (s.flow x) → IsOver q (plain (clock_of clocks y)) (plain (clock_of clocks x))
  down_to q y x hy hx o =
      let P : Point → Type 0 = λ u. IsOver q u (s.flow x) in
      let Q : Point → Type 0 = λ u. IsOver q (point (clock_of clocks y) s.unit) u in
      descaled q (clock_of clocks y) (clock_of clocks x) s.unit s.some (subst Q (at_point x hx) (subst P (at_point y hy) o))

  to_tick : (q : Timing) (y : ℕ) → y < length p.flows → IsOver q (s.flow y) (tick s) → IsOver q (plain (clock_of clocks y)) (plain ticks)
  to_tick q y hy o =
      let P : Point → Type 0 = λ u. IsOver q u (tick s) in
      let Q : Point → Type 0 = λ u. IsOver q (point (clock_of clocks y) s.unit) u in
      descaled q (clock_of clocks y) ticks s.unit s.some (subst Q at_tick (subst P (at_point y hy) o))

  module _ (meets : MeetsAll s (constraints_of p)) where
    parts : (i : ℕ) (flow : Flow) → slice_get p.flows i ≡ Some flow
        → MeetsAll s (rate_constraints i flow.at.at flow.rate) × MeetsAll s (definition_constraints p i flow.at.at flow.def)
    parts i flow found =
        let P : Option Flow → Type 0 = λ o. MeetsAll s (flow_constraints p i o) in
        let m = subst P found (of_flow p s (length p.flows) i (slice_get_within p.flows i flow found) meets) in (
          meets_before s (rate_constraints i flow.at.at flow.rate) (definition_constraints p i flow.at.at flow.def) m,
          meets_after s (rate_constraints i flow.at.at flow.rate) (definition_constraints p i flow.at.at flow.def) m,
        )

    of_rate : (i : ℕ) (at : ℕ) → i < length p.flows → (o : Option Rate) → IfThere IsRate o → MeetsAll s (rate_constraints i at o) → HasRate (clock_of clocks i) o
    of_rate i at h None is m = tt
    of_rate i at h (Some rate) is m = clock_of_rate rate (clock_of clocks i) is (to_tick (timing_of_rate rate) i h m.0)

    of_definition : (i : ℕ) (at : ℕ) (ty : Ty) (def : Def) → i < length p.flows → IsWellDefined p i ty def → MeetsAll s (definition_constraints p i at def)
        → AgreesClock clocks (clock_of clocks i) def
    of_definition i at ty (definitions.Sensor k) h is m = tt
    of_definition i at ty (definitions.Copy of) h is m = same_clocks (clock_of clocks i) (clock_of clocks of.0) (down_to same_clock i of.0 h (slice_get_within p.flows of.0 is.0 is.1) m.0)
    of_definition i at ty (definitions.Const v) h is m = tt
    of_definition i at ty (definitions.Apply app out) h is m = tt
    of_definition i at ty (definitions.Op op of) h is m =
        result_clock op (clock_of clocks of.0) (clock_of clocks i) ty is.1 (down_to (timing_of_operator op) i of.0 h (slice_get_within p.flows of.0 is.0.0 is.0.1) m.0)

    module _ (k : ℕ) (app : App) (found : slice_get p.apps k ≡ Some app) where
      its : IsApplication p k app
      its = flat.apps k app found

      -- what an output's constraints say
      out_meets : (out : ℕ) (flow : FlowNo) → slice_get app.outs out ≡ Some flow → (at : ℕ) × MeetsAll s (output_constraints flow.0 at out (Some app))
      out_meets out flow h =
          let o = its.outs out flow h in
          let P : Def → Type 0 = λ d. MeetsAll s (definition_constraints p flow.0 o.0.at.at d) in
          let Q : Option App → Type 0 = λ a. MeetsAll s (output_constraints flow.0 o.0.at.at out a) in
          (o.0.at.at, subst Q found (subst P o.2 ((parts flow.0 o.0 o.1).1)))

      out_below : (out : ℕ) (flow : FlowNo) → slice_get app.outs out ≡ Some flow → flow.0 < length p.flows
      out_below out flow h = let o = its.outs out flow h in slice_get_within p.flows flow.0 o.0 o.1

      first : slice_get app.outs 0 ≡ Some (get_or app.outs 0 (record { 0 = 0 }))
      first = slice_get-get_or app.outs 0 (record { 0 = 0 }) (let h = its.has_output in omega (arith, h))

      of_output : (out : ℕ) (flow : FlowNo) → slice_get app.outs out ≡ Some flow → clock_of clocks flow.0 ≡ clock_of clocks (first_output app)
      of_output zero flow h = ap (λ (f : FlowNo). clock_of clocks f.0) (same (sym h ∙ first))
        where
          same : {a b : FlowNo} → Some a ≡ Some b → a ≡ b
          same e = cc
      of_output (suc out) flow h =
          same_clocks (clock_of clocks flow.0) (clock_of clocks (first_output app))
          (down_to same_clock flow.0 (first_output app) (out_below (suc out) flow h) (out_below 0 (get_or app.outs 0 (record { 0 = 0 })) first) (out_meets (suc out) flow h).1.0)

      pub of_application : HasOneClock clocks app
      of_application = record {
        clock = clock_of clocks (first_output app);
        args = λ j arg h.
            sym (same_clocks (clock_of clocks (first_output app)) (clock_of clocks arg.flow.0)
            (down_to same_clock (first_output app) arg.flow.0 (out_below 0 (get_or app.outs 0 (record { 0 = 0 })) first) (its.args j arg h)
            (mapped s (first_output app) app.args j arg h (out_meets 0 (get_or app.outs 0 (record { 0 = 0 })) first).1)));
        outs = of_output;
      }

    some_period : (i : ℕ) → i < length clocks → IsClock (clock_of clocks i)
    some_period i h =
        let g = (gives i h).period in let q = s.positive i in some (clock_of clocks i).period s.unit (s.flow i).period g q
      where
        some : (a u t : ℕ) → t ≡ a * u → 1 ≤ t → 1 ≤ a
        some zero u t e h = absurd (omega (arith, e, h))
        some (suc a) u t e h = omega arith

    pub are_clocks : AreClocks p clocks
    are_clocks = record {
      count = count;
      clock = some_period;
      rates = λ i flow found. of_rate i flow.at.at (slice_get_within p.flows i flow found) flow.rate (flat.notes i flow found).0 (parts i flow found).0;
      agree = λ i flow found. of_definition i flow.at.at flow.ty flow.def (slice_get_within p.flows i flow found) (flat.flows i flow found) (parts i flow found).1;
      apps = of_application;
    }

-- Clocks of a flat program meet its constraints, and so do those of its solutions.
use Rattle.prl_base.proofs.Standard.{◌≡◌, ◌≤◌, ◌<◌, ◌+◌, ◌++◌, ◌∷◌, ◌*◌, ℕ, zero, suc, pos, inl, inr, List, [], length, map, get_or, Option, Some, None, refl, sym, ap, ◌∙◌, subst, arith, add-zero}
use Rattle.prl_base.proofs.Standard.{slice_get, AllByRecursion, cases_lt, get_or-eq_default, slice_get-get_or}
use Rattle.std.proofs.Math.ListN.{get_or-map, length-map}
use Rattle.prl_base.specs.Vocabulary.{IsClock, IsResultClock}
use Rattle.prl_base.specs.declared.numbers.FlowNo.{FlowNo}
use Rattle.prl_base.specs.declared.operators.Clock.{Clock}
use Rattle.prl_base.specs.declared.values.Ty.{Ty}
use Rattle.prl_ast.specs.InRange.{IfThere, IsRate}
use Rattle.prl_ast.specs.declared.declarations.Rate.{Rate}
use Rattle.prl_body.specs.declared.bodies.CheckedBody.{CheckedBody}
use Rattle.prl_flow.specs.Vocabulary.{IsClockOf, FlatProgram, IsFlat, IsWellDefined, Rows, Rule, mark_rule, rate_rules, definition_rules, flow_rules, flows_rules, app_rule, apps_rules, flat_rules}
use Rattle.prl_flow.specs.Vocabulary.{State, Timed, IsTimed, HaveClock, Holds, IsSolution, flow_at, registers_at, AreClocks, AgreesClock, HasOneClock, HasRate, clock_of}
use Rattle.prl_flow.specs.declared.programs.App.{App}
use Rattle.prl_flow.specs.declared.programs.Arg.{Arg}
use Rattle.prl_flow.specs.declared.programs.Def.{Def}
use Rattle.prl_flow.specs.declared.programs.Flow.{Flow}
use Rattle.prl_flow.specs.declared.programs.Def.TheVariants as definitions
use Rattle.prl_clock.specs.Vocabulary.{MeetsAll, rate_constraints, output_constraints, definition_constraints, flow_constraints, constraints_of, first_output, AreOnlyClocks, ArePeriods}
use Rattle.prl_clock.specs.Vocabulary.{whole_assignment}
use Rattle.prl_clock.proofs.Graphs.{meets_both}
use Rattle.prl_clock.proofs.Meeting.{over_same, over_result, over_rate, equal_clocks}
use Rattle.prl_clock.proofs.Reading.{of_each, mapped_in, are_clocks}

module _ (p : FlatProgram) (flat : IsFlat p) (clocks : List Clock) (periods : ArePeriods clocks) (are : AreClocks p clocks) where
  met_rate : (i at : ℕ) (o : Option Rate) → IfThere IsRate o → HasRate (clock_of clocks i) o → MeetsAll (whole_assignment clocks periods) (rate_constraints i at o)
  met_rate i at None is h = tt
  met_rate i at (Some rate) is h = (over_rate rate (clock_of clocks i) is h, tt)

  met_output : (i at out : ℕ) (app : App) → HasOneClock clocks app → slice_get app.outs out ≡ Some (record { 0 = i }) → 1 ≤ length app.outs
      → MeetsAll (whole_assignment clocks periods) (output_constraints i at out (Some app))
  met_output i at zero app one found some =
      mapped_in (whole_assignment clocks periods) i app.args
      (λ j arg h. over_same (clock_of clocks i) (clock_of clocks arg.flow.0) (one.outs 0 (record { 0 = i }) found ∙ sym (one.args j arg h)))
  met_output i at (suc out) app one found some = (
    over_same (clock_of clocks i) (clock_of clocks (first_output app))
        (one.outs (suc out) (record { 0 = i }) found
        ∙ sym (one.outs 0 (get_or app.outs 0 (record { 0 = 0 })) (slice_get-get_or app.outs 0 (record { 0 = 0 }) (omega (arith, some))))),
    tt,
  )

  met_definition : (i at : ℕ) (ty : Ty) (def : Def) → IsWellDefined p i ty def → AgreesClock clocks (clock_of clocks i) def
      → MeetsAll (whole_assignment clocks periods) (definition_constraints p i at def)
  met_definition i at ty (definitions.Sensor k) is h = tt
  met_definition i at ty (definitions.Copy of) is h = (over_same (clock_of clocks i) (clock_of clocks of.0) h, tt)
  met_definition i at ty (definitions.Const v) is h = tt
  met_definition i at ty (definitions.Apply app out) is h =
      let P : Option App → Type 0 = λ o. MeetsAll (whole_assignment clocks periods) (output_constraints i at out o) in
      subst P (sym is.1) (met_output i at out is.0 (are.apps app is.0 is.1) is.2 (flat.apps app is.0 is.1).has_output)
  met_definition i at ty (definitions.Op op of) is h = (over_result op (clock_of clocks of.0) (clock_of clocks i) ty is.1 h, tt)

  met_flow : (i : ℕ) (o : Option Flow) → slice_get p.flows i ≡ o → MeetsAll (whole_assignment clocks periods) (flow_constraints p i o)
  met_flow i None e = tt
  met_flow i (Some flow) e =
      meets_both (whole_assignment clocks periods) (rate_constraints i flow.at.at flow.rate) (definition_constraints p i flow.at.at flow.def)
      (met_rate i flow.at.at flow.rate (flat.notes i flow e).0 (are.rates i flow e)) (met_definition i flow.at.at flow.ty flow.def (flat.flows i flow e) (are.agree i flow e))

  pub clocks_meet : MeetsAll (whole_assignment clocks periods) (constraints_of p)
  clocks_meet = of_each p (whole_assignment clocks periods) (length p.flows) (λ i h. met_flow i (slice_get p.flows i) refl)

pub meeting_are : (p : FlatProgram) → IsFlat p → (clocks : List Clock) (periods : ArePeriods clocks) → length clocks ≡ length p.flows
    → MeetsAll (whole_assignment clocks periods) (constraints_of p) → AreClocks p clocks
meeting_are p flat clocks periods count meets =
    are_clocks p flat clocks count (whole_assignment clocks periods) (λ i h. record { period = omega arith; start = ap pos (omega arith) }) meets

-- all of two lists, and of mapped ones
all_before : {A : Type 0} (P : A → Type 0) (xs ys : List A) → AllByRecursion P (xs ++ ys) → AllByRecursion P xs
all_before P [] ys h = tt
all_before P (x ∷ xs) ys h = (h.0, all_before P xs ys h.1)

all_after : {A : Type 0} (P : A → Type 0) (xs ys : List A) → AllByRecursion P (xs ++ ys) → AllByRecursion P ys
all_after P [] ys h = h
all_after P (x ∷ xs) ys h = all_after P xs ys h.1

all_map : {A B : Type 0} (P : B → Type 0) (f : A → B) (xs : List A) → AllByRecursion P (map f xs) → AllByRecursion (λ x. P (f x)) xs
all_map P f [] h = tt
all_map P f (x ∷ xs) h = (h.0, all_map P f xs h.1)

all_at : {A : Type 0} (P : A → Type 0) (xs : List A) (i : ℕ) (x : A) → slice_get xs i ≡ Some x → AllByRecursion P xs → P x
all_at P [] i x e h = absurd (cc e)
all_at P (y ∷ ys) zero x e h = let s : y ≡ x = same e in subst P s h.0
  where
    same : {A : Type 0} {a b : A} → Some a ≡ Some b → a ≡ b
    same e = cc
all_at P (y ∷ ys) (suc i) x e h = all_at P ys i x e h.1

-- the rules of one flow and of one application
flow_at_rules : (Q : Rule ℕ ℕ → Type 0) (n : ℕ) (flows : List Flow) (i : ℕ) (flow : Flow) → slice_get flows i ≡ Some flow → AllByRecursion Q (flows_rules n flows)
    → AllByRecursion Q (flow_rules (n + i) flow)
flow_at_rules Q n [] i flow e h = absurd (cc e)
flow_at_rules Q n (f ∷ flows) zero flow e h =
    let s : f ≡ flow = same e in
    let P : Flow → Type 0 = λ g. AllByRecursion Q (flow_rules (n + 0) g) in
    let R : ℕ → Type 0 = λ k. AllByRecursion Q (flow_rules k f) in subst P s (subst R (sym (add-zero n)) (all_before Q (flow_rules n f) (flows_rules (n + 1) flows) h))
  where
    same : {a b : Flow} → Some a ≡ Some b → a ≡ b
    same e = cc
flow_at_rules Q n (f ∷ flows) (suc i) flow e h =
    let R : ℕ → Type 0 = λ k. AllByRecursion Q (flow_rules k flow) in
    subst R (omega arith) (flow_at_rules Q (n + 1) flows i flow e (all_after Q (flow_rules n f) (flows_rules (n + 1) flows) h))

app_at_rule : (Q : Rule ℕ ℕ → Type 0) (n : ℕ) (apps : List App) (k : ℕ) (app : App) → slice_get apps k ≡ Some app → AllByRecursion Q (apps_rules n apps) → Q (app_rule (n + k) app)
app_at_rule Q n [] k app e h = absurd (cc e)
app_at_rule Q n (a ∷ apps) zero app e h =
    let s : a ≡ app = same e in
    let P : App → Type 0 = λ b. Q (app_rule (n + 0) b) in let R : ℕ → Type 0 = λ j. Q (app_rule j a) in subst P s (subst R (sym (add-zero n)) h.0)
  where
    same : {a b : App} → Some a ≡ Some b → a ≡ b
    same e = cc
app_at_rule Q n (a ∷ apps) (suc k) app e h =
    let R : ℕ → Type 0 = λ j. Q (app_rule j app) in subst R (omega arith) (app_at_rule Q (n + 1) apps k app e h.1)

-- the clocks of a solution's flows
module _ (p : FlatProgram) (bodies : List CheckedBody) (rows : Rows) (until : ℕ) (s : State) (is : IsSolution p bodies rows until s) where
  abbrev clocks : List Clock
  clocks = map (λ (f : Timed). f.clock) s.flows

  its : (i : ℕ) → clock_of clocks i ≡ (flow_at s i).clock
  its i = get_or-map (λ (f : Timed). f.clock) s.flows i (record { clock = record { period = 1; start = 0 }; values = [] })

  abbrev Keeps : Rule ℕ ℕ → Type 0
  Keeps rule = Holds bodies rows until (mark_rule (flow_at s) (registers_at s) rule)

  all : AllByRecursion Keeps (flat_rules p)
  all = all_map (Holds bodies rows until) (mark_rule (flow_at s) (registers_at s)) (flat_rules p) is.rules

  of_flow : (i : ℕ) (flow : Flow) → slice_get p.flows i ≡ Some flow → AllByRecursion Keeps (flow_rules i flow)
  of_flow i flow e =
      let P : ℕ → Type 0 = λ k. AllByRecursion Keeps (flow_rules k flow) in
      subst P (omega arith) (flow_at_rules Keeps 0 p.flows i flow e (all_before Keeps (flows_rules 0 p.flows) (apps_rules 0 p.apps) all))

  of_app : (k : ℕ) (app : App) → slice_get p.apps k ≡ Some app → Keeps (app_rule k app)
  of_app k app e =
      let P : ℕ → Type 0 = λ j. Keeps (app_rule j app) in
      subst P (omega arith) (app_at_rule Keeps 0 p.apps k app e (all_after Keeps (flows_rules 0 p.flows) (apps_rules 0 p.apps) all))

  of_rate : (i : ℕ) (o : Option Rate) → AllByRecursion Keeps (rate_rules o i) → HasRate (clock_of clocks i) o
  of_rate i None h = tt
  of_rate i (Some rate) h = let P : Clock → Type 0 = λ c. IsClockOf rate c in subst P (sym (its i)) h.0

  of_definition : (i : ℕ) (def : Def) → AllByRecursion Keeps (definition_rules i def) → AgreesClock clocks (clock_of clocks i) def
  of_definition i (definitions.Sensor k) h = tt
  of_definition i (definitions.Copy of) h = its i ∙ ap (λ (f : Timed). f.clock) h.0 ∙ sym (its of.0)
  of_definition i (definitions.Const v) h = tt
  of_definition i (definitions.Apply app out) h = tt
  of_definition i (definitions.Op op of) h =
      let P : Clock → Type 0 = λ x. IsResultClock op x (clock_of clocks i) in
      let Q : Clock → Type 0 = λ y. IsResultClock op (flow_at s of.0).clock y in subst P (sym (its of.0)) (subst Q (sym (its i)) h.0.clock)

  have : {A : Type 0} (number : A → ℕ) (clock : Clock) (xs : List A) → HaveClock clock (map (flow_at s) (map number xs)) → (j : ℕ) (x : A) → slice_get xs j ≡ Some x
      → clock_of clocks (number x) ≡ clock
  have number clock xs h j x e =
      its (number x)
      ∙ all_at (λ x. (flow_at s (number x)).clock ≡ clock) xs j x e
      (all_map (λ n. (flow_at s n).clock ≡ clock) number xs (all_map (λ (f : Timed). f.clock ≡ clock) (flow_at s) (map number xs) h))

  timed_is : (i : ℕ) → i < length clocks → IsClock (clock_of clocks i)
  timed_is i h =
      let below : i < length s.flows = let e = length-map s.flows (λ (f : Timed). f.clock) in omega (arith, h, e) in
      let d : Timed = record { clock = record { period = 1; start = 0 }; values = [] } in
      let t : IsTimed until (flow_at s i) = all_at (IsTimed until) s.flows i (get_or s.flows i d) (slice_get-get_or s.flows i d below) is.timed in
      let P : Clock → Type 0 = λ c. IsClock c in subst P (sym (its i)) t.0

  pub solution_clocks : AreClocks p clocks
  solution_clocks = record {
    count = length-map s.flows (λ (f : Timed). f.clock) ∙ is.flow_count;
    clock = timed_is;
    rates = λ i flow e. of_rate i flow.rate (all_before Keeps (rate_rules flow.rate i) (definition_rules i flow.def) (of_flow i flow e));
    agree = λ i flow e. of_definition i flow.def (all_after Keeps (rate_rules flow.rate i) (definition_rules i flow.def) (of_flow i flow e));
    apps = λ k app e.
        let a = of_app k app e in
        record {
          clock = a.clock;
          args = λ j arg h. have (λ (x : Arg). x.flow.0) a.clock app.args a.args_clock j arg h;
          outs = λ j flow h. have (λ (x : FlowNo). x.0) a.clock app.outs a.outs_clock j flow h;
        };
  }

-- past the end the period is 1
pub all_periods : (clocks : List Clock) → ((i : ℕ) → i < length clocks → IsClock (clock_of clocks i)) → ArePeriods clocks
all_periods clocks f i =
    elim (cases_lt i (length clocks)) [
      | inl below ↦ f i below
      | inr above ↦
          let e : clock_of clocks i ≡ record { period = 1; start = 0 } = get_or-eq_default clocks (record { period = 1; start = 0 }) above in
          let P : Clock → Type 0 = λ c. IsClock c in subst P (sym e) (omega arith)
    ]

-- clocks that agree everywhere are the same
same_clocks_all : (xs ys : List Clock) → length xs ≡ length ys → ((i : ℕ) → i < length xs → clock_of xs i ≡ clock_of ys i) → xs ≡ ys
same_clocks_all [] [] e f = refl
same_clocks_all [] (y ∷ ys) e f = absurd (omega (arith, e))
same_clocks_all (x ∷ xs) [] e f = absurd (omega (arith, e))
same_clocks_all (x ∷ xs) (y ∷ ys) e f =
    let h : x ≡ y = f 0 (omega arith) in
    let t : xs ≡ ys = same_clocks_all xs ys (omega (arith, e)) (λ i below. f (suc i) (omega (arith, below))) in cc

pub only_these : (p : FlatProgram) → IsFlat p → (clocks others : List Clock) → AreOnlyClocks p clocks → AreClocks p others → others ≡ clocks
only_these p flat clocks others only are =
    let periods = all_periods others are.clock in
    let count : length others ≡ length clocks = are.count ∙ sym only.are.count in
    same_clocks_all others clocks count
    (λ i h.
    let g = only.only (whole_assignment others periods) (clocks_meet p flat others periods are) i (omega (arith, h, count)) in
    let t = start_is (clock_of others i).start (clock_of clocks i).start g.start in
    equal_clocks (clock_of others i) (clock_of clocks i) (omega (arith, g.period)) t)
  where
    start_is : (a b : ℕ) → pos a ≡ pos (b * 1) → a ≡ b
    start_is a b e = let h : a ≡ b * 1 = cc in omega (arith, h)

pub solutions_have : (p : FlatProgram) → IsFlat p → (clocks : List Clock) → AreOnlyClocks p clocks → (bodies : List CheckedBody) (rows : Rows) (until : ℕ) (s : State)
    → IsSolution p bodies rows until s → map (λ (f : Timed). f.clock) s.flows ≡ clocks
solutions_have p flat clocks only bodies rows until s is =
    only_these p flat clocks (map (λ (f : Timed). f.clock) s.flows) only (solution_clocks p bodies rows until s is)

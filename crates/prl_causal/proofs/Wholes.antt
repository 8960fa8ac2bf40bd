-- The clocks of a solution agree, and its values are a solution over them.
use Rattle.prl_base.proofs.Standard.{◌≡◌, ◌<◌, ◌≤◌, ◌+◌, ◌*◌, ℕ, zero, suc, List, [], ◌∷◌, ◌++◌, map, length, Option, Some, None, slice_get, slice_index_or, refl, sym, ap, ◌∙◌, subst, arith}
use Rattle.prl_base.proofs.Standard.{mul-le-mul_right, take, AllByRecursion, length-map}
use Rattle.prl_base.specs.Vocabulary.{IsClock, IsDate, date_at, IsResultClock}
use Rattle.prl_base.specs.declared.numbers.FlowNo.{FlowNo}
use Rattle.prl_base.specs.declared.operators.Clock.{Clock}
use Rattle.prl_base.specs.declared.values.Value.{Value}
use Rattle.prl_ast.specs.declared.declarations.Rate.{Rate}
use Rattle.prl_body.specs.Bodies.{body_step}
use Rattle.prl_body.specs.declared.bodies.CheckedBody.{CheckedBody}
use Rattle.prl_flow.specs.Vocabulary.{nth_step, registers_before, values_at, IsClockOf, IsUpTo, value_at, OperatorByDate, FlatProgram, IsFlat, IsWellDefined, Rows, rows_of, Rule, mark_rule}
use Rattle.prl_flow.specs.Vocabulary.{rate_rules, definition_rules, flow_rules, flows_rules, app_rule, apps_rules, flat_rules, AgreesClock, AreClocks, HasOneClock, HasRate, IsOutputFlow}
use Rattle.prl_flow.specs.Vocabulary.{MeetsDefinition, Solves, argument_flows, clock_of, values_of, Timed, State, IsTimed, Holds, HaveClock, IsApplied, IsSolution, all_at, flow_at, registers_at}
use Rattle.prl_flow.specs.declared.programs.App.{App}
use Rattle.prl_flow.specs.declared.programs.Arg.{Arg}
use Rattle.prl_flow.specs.declared.programs.Def.{Def}
use Rattle.prl_flow.specs.declared.programs.Flow.{Flow}
use Rattle.prl_causal.proofs.Elements.{some_inner, all_first, all_second, of_mapped, at_place}
use Rattle.prl_flow.specs.declared.programs.Def.TheVariants as definitions

-- the rules of one flow, and of one application
flow_at_place : (P : Rule ℕ ℕ → Type 0) (k : ℕ) (fs : List Flow) (i j : ℕ) (f : Flow) → AllByRecursion P (flows_rules k fs) → slice_get fs i ≡ Some f → j ≡ k + i → AllByRecursion P (flow_rules j f)
flow_at_place P k [] i j f h e at = absurd (cc)
flow_at_place P k (g ∷ fs) zero j f h e at =
    let number : k ≡ j = omega (arith, at) in
    subst (λ (x : Flow). AllByRecursion P (flow_rules j x)) (some_inner g f e)
    (subst (λ m. AllByRecursion P (flow_rules m g)) number (all_first P (flow_rules k g) (flows_rules (k + 1) fs) h))
flow_at_place P k (g ∷ fs) (suc i) j f h e at = flow_at_place P (k + 1) fs i j f (all_second P (flow_rules k g) (flows_rules (k + 1) fs) h) e (omega (arith, at))

pub app_at_place : (P : Rule ℕ ℕ → Type 0) (k : ℕ) (us : List App) (i j : ℕ) (u : App) → AllByRecursion P (apps_rules k us) → slice_get us i ≡ Some u → j ≡ k + i → P (app_rule j u)
app_at_place P k [] i j u h e at = absurd (cc)
app_at_place P k (v ∷ us) zero j u h e at =
    let number : k ≡ j = omega (arith, at) in
    subst (λ (x : App). P (app_rule j x)) (some_inner v u e) (subst (λ m. P (app_rule m v)) number h.0)
app_at_place P k (v ∷ us) (suc i) j u h e at = app_at_place P (k + 1) us i j u h.1 e (omega (arith, at))

read_mapped : {A B : Type 0} (f : A → B) (xs : List A) (i : ℕ) (d : A) → slice_index_or (map f xs) i (f d) ≡ f (slice_index_or xs i d)
read_mapped f [] i d = refl
read_mapped f (x ∷ xs) zero d = refl
read_mapped f (x ∷ xs) (suc i) d = read_mapped f xs i d

abbrev pub clocks_in : State → List Clock
clocks_in s = map (λ (f : Timed). f.clock) s.flows

abbrev pub values_in : State → List (List Value)
values_in s = map (λ (f : Timed). f.values) s.flows

clock_is : (s : State) (i : ℕ) → clock_of (clocks_in s) i ≡ (flow_at s i).clock
clock_is s i = read_mapped (λ (f : Timed). f.clock) s.flows i (record { clock = record { period = 1; start = 0 }; values = [] })

values_are : (s : State) (i : ℕ) → values_of (values_in s) i ≡ (flow_at s i).values
values_are s i = read_mapped (λ (f : Timed). f.values) s.flows i (record { clock = record { period = 1; start = 0 }; values = [] })

-- the values that are read are those of the arguments
inputs_are : (s : State) (c : Clock) (n : ℕ) (us : List Arg) (inputs : List Value) → HaveClock c (map (λ (u : Arg). flow_at s u.flow.0) us)
    → all_at (map (λ (u : Arg). flow_at s u.flow.0) us) (date_at c n) ≡ map Some inputs → values_at c (map (λ (u : Arg). values_of (values_in s) u.flow.0) us) n ≡ inputs
inputs_are s c n [] [] clocks e = refl
inputs_are s c n [] (v ∷ inputs) clocks e = absurd (cc)
inputs_are s c n (u ∷ us) [] clocks e = absurd (cc)
inputs_are s c n (u ∷ us) (v ∷ inputs) clocks e =
    let f : Timed = flow_at s u.flow.0 in
    let first : value_at f.clock f.values (date_at c n) ≡ Some v = head_of (value_at f.clock f.values (date_at c n)) (Some v) _ _ e in
    let here : value_at c (values_of (values_in s) u.flow.0) (date_at c n) ≡ Some v =
    ap (λ (xs : List Value). value_at c xs (date_at c n)) (values_are s u.flow.0) ∙ ap (λ (d : Clock). value_at d f.values (date_at c n)) (sym clocks.0) ∙ first in
    let rest = inputs_are s c n us inputs clocks.1 (tail_of (value_at f.clock f.values (date_at c n)) (Some v) _ _ e) in
    rw (here, rest) refl
  where
    head_of : (x y : Option Value) (xs ys : List (Option Value)) → x ∷ xs ≡ y ∷ ys → x ≡ y
    head_of x y xs ys e = cc

    tail_of : (x y : Option Value) (xs ys : List (Option Value)) → x ∷ xs ≡ y ∷ ys → xs ≡ ys
    tail_of x y xs ys e = cc

mapped_twice : (s : State) (us : List Arg) → map (flow_at s) (map (λ (u : Arg). u.flow.0) us) ≡ map (λ (u : Arg). flow_at s u.flow.0) us
mapped_twice s [] = refl
mapped_twice s (u ∷ us) = ap (λ fs. flow_at s u.flow.0 ∷ fs) (mapped_twice s us)

outs_twice : (s : State) (fs : List FlowNo) → map (flow_at s) (map (λ (f : FlowNo). f.0) fs) ≡ map (λ (f : FlowNo). flow_at s f.0) fs
outs_twice s [] = refl
outs_twice s (f ∷ fs) = ap (λ gs. flow_at s f.0 ∷ gs) (outs_twice s fs)

-- dates before a date that is reached are reached
earlier : (c : Clock) (n until : ℕ) → date_at c (suc n) < until → date_at c n < until
earlier c n until h =
    let more : n ≤ suc n = omega arith in
    let grows : n * c.period ≤ suc n * c.period = mul-le-mul_right c.period more in
    omega (arith, h, grows)

module _ (p : FlatProgram) (flat : IsFlat p) (bodies : List CheckedBody) (rows : Rows) (until : ℕ) (s : State) (h : IsSolution p bodies rows until s) where
  abbrev Held : Rule ℕ ℕ → Type 0
  Held r = Holds bodies rows until (mark_rule (flow_at s) (registers_at s) r)

  all_held : AllByRecursion Held (flows_rules 0 p.flows ++ apps_rules 0 p.apps)
  all_held = of_mapped (Holds bodies rows until) (mark_rule (flow_at s) (registers_at s)) (flat_rules p) h.rules

  flow_held : (i : ℕ) (f : Flow) → slice_get p.flows i ≡ Some f → AllByRecursion Held (flow_rules i f)
  flow_held i f e = flow_at_place Held 0 p.flows i i f (all_first Held (flows_rules 0 p.flows) (apps_rules 0 p.apps) all_held) e (omega arith)

  app_held : (k : ℕ) (u : App) → slice_get p.apps k ≡ Some u → Held (app_rule k u)
  app_held k u e = app_at_place Held 0 p.apps k k u (all_second Held (flows_rules 0 p.flows) (apps_rules 0 p.apps) all_held) e (omega arith)

  rate_held : (i : ℕ) (o : Option Rate) → AllByRecursion Held (rate_rules o i) → HasRate (clock_of (clocks_in s) i) o
  rate_held i None g = tt
  rate_held i (Some rate) g = subst (λ (c : Clock). IsClockOf rate c) (sym (clock_is s i)) g.0

  def_held : (i : ℕ) (f : Flow) → slice_get p.flows i ≡ Some f → AllByRecursion Held (definition_rules i f.def)
  def_held i f e = all_second Held (rate_rules f.rate i) (definition_rules i f.def) (flow_held i f e)

  agrees : (i : ℕ) (d : Def) → AllByRecursion Held (definition_rules i d) → AgreesClock (clocks_in s) (clock_of (clocks_in s) i) d
  agrees i (definitions.Sensor k) g = tt
  agrees i (definitions.Copy of) g = clock_is s i ∙ ap (λ (f : Timed). f.clock) g.0 ∙ sym (clock_is s of.0)
  agrees i (definitions.Const v) g = tt
  agrees i (definitions.Apply app out) g = tt
  agrees i (definitions.Op op of) g =
      subst (λ (c : Clock). IsResultClock op c (clock_of (clocks_in s) i)) (sym (clock_is s of.0))
      (subst (λ (c : Clock). IsResultClock op (flow_at s of.0).clock c) (sym (clock_is s i)) g.0.clock)

  one_clock : (k : ℕ) (u : App) → slice_get p.apps k ≡ Some u → HasOneClock (clocks_in s) u
  one_clock k u e =
      let a = app_held k u e in
      let args : HaveClock a.clock (map (λ (x : Arg). flow_at s x.flow.0) u.args) = subst (λ (fs : List Timed). HaveClock a.clock fs) (mapped_twice s u.args) a.args_clock in
      let outs : HaveClock a.clock (map (λ (x : FlowNo). flow_at s x.0) u.outs) = subst (λ (fs : List Timed). HaveClock a.clock fs) (outs_twice s u.outs) a.outs_clock in
      record {
        clock = a.clock;
        args = λ j arg at. clock_is s arg.flow.0 ∙ at_place (λ (x : Arg). (flow_at s x.flow.0).clock ≡ a.clock) u.args j arg
            (of_mapped (λ (f : Timed). f.clock ≡ a.clock) (λ (x : Arg). flow_at s x.flow.0) u.args args) at;
        outs = λ j flow at. clock_is s flow.0 ∙ at_place (λ (x : FlowNo). (flow_at s x.0).clock ≡ a.clock) u.outs j flow
            (of_mapped (λ (f : Timed). f.clock ≡ a.clock) (λ (x : FlowNo). flow_at s x.0) u.outs outs) at;
      }

  timed_at : (i : ℕ) → i < length s.flows → IsTimed until (flow_at s i)
  timed_at i within = reads s.flows i within h.timed
    where
      reads : (fs : List Timed) (i : ℕ) → i < length fs → AllByRecursion (IsTimed until) fs → IsTimed until (slice_index_or fs i (record { clock = record { period = 1; start = 0 }; values = [] }))
      reads [] i within g = absurd (omega (arith, within))
      reads (f ∷ fs) zero within g = g.0
      reads (f ∷ fs) (suc i) within g = reads fs i (omega (arith, within)) g.1

  pub clocks_agree : AreClocks p (clocks_in s)
  clocks_agree = record {
    count = length-map s.flows (λ (f : Timed). f.clock) ∙ h.flow_count;
    clock = λ i within. subst IsClock (sym (clock_is s i)) (timed_at i (omega (arith, within, length-map s.flows (λ (f : Timed). f.clock)))).0;
    rates = λ i f e. rate_held i f.rate (all_first Held (rate_rules f.rate i) (definition_rules i f.def) (flow_held i f e));
    agree = λ i f e. agrees i f.def (def_held i f e);
    apps = one_clock;
  }

  -- an application's registers are what the steps before have made of the first values
  registers_held : (k : ℕ) (u : App) → (a : IsApplied bodies until u.name (map (flow_at s) (map (λ (x : Arg). x.flow.0) u.args)) (map (flow_at s) (map (λ (x : FlowNo). x.0) u.outs)) (registers_at s k))
      → (n : ℕ) → date_at a.clock n < until → slice_get (registers_at s k) n ≡ Some (registers_before a.body (values_at a.clock (argument_flows (values_in s) u)) n)
  registers_held k u a zero below = a.first
  registers_held k u a (suc n) below =
      let before = earlier a.clock n until below in
      let step = a.steps n before in
      let args : HaveClock a.clock (map (λ (x : Arg). flow_at s x.flow.0) u.args) = subst (λ (fs : List Timed). HaveClock a.clock fs) (mapped_twice s u.args) a.args_clock in
      let read : all_at (map (λ (x : Arg). flow_at s x.flow.0) u.args) (date_at a.clock n) ≡ map Some step.inputs = ap (λ (fs : List Timed). all_at fs (date_at a.clock n)) (sym (mapped_twice s u.args)) ∙ step.read in
      let inputs = inputs_are s a.clock n u.args step.inputs args read in
      let own = registers_held k u a n before in
      let held : step.before ≡ registers_before a.body (values_at a.clock (argument_flows (values_in s) u)) n = some_inner step.before _ (sym step.held ∙ own) in
      let place : n + 1 ≡ suc n = omega arith in
      ap (slice_get (registers_at s k)) (sym place) ∙ step.next ∙ ap Some (rw (inputs, held) refl)

  output_value : (u : App) (out : ℕ) (f : FlowNo) (t : ℕ) (outputs : List Value) → slice_get u.outs out ≡ Some f → all_at (map (flow_at s) (map (λ (x : FlowNo). x.0) u.outs)) t ≡ map Some outputs
      → value_at (flow_at s f.0).clock (flow_at s f.0).values t ≡ slice_get outputs out
  output_value u out f t outputs e given =
      reads u.outs out outputs e given
    where
      reads : (fs : List FlowNo) (out : ℕ) (outputs : List Value) → slice_get fs out ≡ Some f → all_at (map (flow_at s) (map (λ (x : FlowNo). x.0) fs)) t ≡ map Some outputs
          → value_at (flow_at s f.0).clock (flow_at s f.0).values t ≡ slice_get outputs out
      reads [] out outputs e g = absurd (cc)
      reads (x ∷ fs) out [] e g = absurd (cc)
      reads (x ∷ fs) zero (v ∷ outputs) e g =
          let is : x ≡ f = some_inner x f e in
          let first : value_at (flow_at s x.0).clock (flow_at s x.0).values t ≡ Some v = cc in
          subst (λ (y : FlowNo). value_at (flow_at s y.0).clock (flow_at s y.0).values t ≡ Some v) is first
      reads (x ∷ fs) (suc out) (v ∷ outputs) e g =
          let rest : all_at (map (flow_at s) (map (λ (x : FlowNo). x.0) fs)) t ≡ map Some outputs = cc in
          reads fs out outputs e rest

  output_flow : (i app out : ℕ) (u : App) → slice_get p.apps app ≡ Some u → slice_get u.outs out ≡ Some (record { 0 = i })
      → IsOutputFlow p.apps bodies until (values_in s) (clock_of (clocks_in s) i) (values_of (values_in s) i) app out
  output_flow i app out u there place =
      let a = app_held app u there in
      let outs : HaveClock a.clock (map (λ (x : FlowNo). flow_at s x.0) u.outs) = subst (λ (fs : List Timed). HaveClock a.clock fs) (outs_twice s u.outs) a.outs_clock in
      let own_clock : (flow_at s i).clock ≡ a.clock = at_place (λ (x : FlowNo). (flow_at s x.0).clock ≡ a.clock) u.outs out (record { 0 = i })
      (of_mapped (λ (f : Timed). f.clock ≡ a.clock) (λ (x : FlowNo). flow_at s x.0) u.outs outs) place in
      let clock : clock_of (clocks_in s) i ≡ a.clock = clock_is s i ∙ own_clock in
      let args : HaveClock a.clock (map (λ (x : Arg). flow_at s x.flow.0) u.args) = subst (λ (fs : List Timed). HaveClock a.clock fs) (mapped_twice s u.args) a.args_clock in
      record {
        app = u;
        body = a.body;
        applied = there;
        named = a.named;
        each = λ n before.
            let below : date_at a.clock n < until = subst (λ (c : Clock). date_at c n < until) clock before in
            let step = a.steps n below in
            let read : all_at (map (λ (x : Arg). flow_at s x.flow.0) u.args) (date_at a.clock n) ≡ map Some step.inputs = ap (λ (fs : List Timed). all_at fs (date_at a.clock n)) (sym (mapped_twice s u.args)) ∙ step.read in
            let inputs = inputs_are s a.clock n u.args step.inputs args read in
            let held : step.before ≡ registers_before a.body (values_at a.clock (argument_flows (values_in s) u)) n = some_inner step.before _ (sym step.held ∙ registers_held app u a n below) in
            let value : value_at (flow_at s i).clock (flow_at s i).values (date_at a.clock n) ≡ slice_get (body_step a.body step.inputs step.before).outputs out =
            output_value u out (record { 0 = i }) (date_at a.clock n) (body_step a.body step.inputs step.before).outputs place step.gives in
            let made : slice_get (body_step a.body step.inputs step.before).outputs out ≡ slice_get (nth_step a.body (values_at a.clock (argument_flows (values_in s) u)) n).outputs out = rw (inputs, held) refl in
            let here : value_at a.clock (values_of (values_in s) i) (date_at a.clock n) ≡ slice_get (nth_step a.body (values_at a.clock (argument_flows (values_in s) u)) n).outputs out =
            ap (λ (xs : List Value). value_at a.clock xs (date_at a.clock n)) (values_are s i) ∙ ap (λ (c : Clock). value_at c (flow_at s i).values (date_at a.clock n)) (sym own_clock) ∙ value ∙ made in
            subst (λ (c : Clock). value_at c (values_of (values_in s) i) (date_at c n) ≡ slice_get (nth_step a.body (values_at c (argument_flows (values_in s) u)) n).outputs out) (sym clock) here;
      }

  meets : (i : ℕ) (f : Flow) → slice_get p.flows i ≡ Some f → (d : Def) → f.def ≡ d → IsWellDefined p i f.ty d → AllByRecursion Held (definition_rules i d)
      → MeetsDefinition p (clocks_in s) bodies rows until (values_in s) (clock_of (clocks_in s) i) (values_of (values_in s) i) d
  meets i f e (definitions.Sensor k) is defined g = subst (λ (xs : List Value). xs ≡ take (length xs) (rows_of rows k)) (sym (values_are s i)) g.0
  meets i f e (definitions.Copy of) is defined g = values_are s i ∙ ap (λ (x : Timed). x.values) g.0 ∙ sym (values_are s of.0)
  meets i f e (definitions.Const v) is defined g =
      subst (λ (c : Clock). (t : ℕ) → IsDate c t → t < until → value_at c (values_of (values_in s) i) t ≡ Some v) (sym (clock_is s i))
      (subst (λ (xs : List Value). (t : ℕ) → IsDate (flow_at s i).clock t → t < until → value_at (flow_at s i).clock xs t ≡ Some v) (sym (values_are s i)) g.0)
  meets i f e (definitions.Apply app out) is defined g = output_flow i app out defined.0 defined.1 defined.2
  meets i f e (definitions.Op op of) is defined g =
      subst (λ (c : Clock). OperatorByDate op c (values_of (values_in s) of.0) (clock_of (clocks_in s) i) (values_of (values_in s) i) until) (sym (clock_is s of.0))
      (subst (λ (xs : List Value). OperatorByDate op (flow_at s of.0).clock xs (clock_of (clocks_in s) i) (values_of (values_in s) i) until) (sym (values_are s of.0))
      (subst (λ (c : Clock). OperatorByDate op (flow_at s of.0).clock (flow_at s of.0).values c (values_of (values_in s) i) until) (sym (clock_is s i))
      (subst (λ (xs : List Value). OperatorByDate op (flow_at s of.0).clock (flow_at s of.0).values (flow_at s i).clock xs until) (sym (values_are s i)) g.0)))

  pub values_solve : Solves p (clocks_in s) bodies rows until (values_in s)
  values_solve = record {
    count = length-map s.flows (λ (f : Timed). f.values) ∙ h.flow_count;
    up_to = λ i within.
        let timed = timed_at i (omega (arith, within, length-map s.flows (λ (f : Timed). f.values))) in
        subst (λ (c : Clock). IsUpTo until c (values_of (values_in s) i)) (sym (clock_is s i)) (subst (λ (xs : List Value). IsUpTo until (flow_at s i).clock xs) (sym (values_are s i)) timed.1);
    meets = λ i f e. meets i f e f.def refl (flat.flows i f e) (def_held i f e);
  }

-- Clocks that agree and a solution over them are a solution whole, with the registers that the steps make.
use Rattle.prl_base.proofs.Standard.{◌≡◌, ◌<◌, ◌+◌, ℕ, zero, suc, List, [], ◌∷◌, map, length, Option, Some, None, slice_get, slice_index_or, refl, sym, ap, ◌∙◌, subst, arith, true, false, cond}
use Rattle.prl_base.proofs.Standard.{AllByRecursion, range_with_len, option_map, bytes_eq, length-map, length-range_with_len, slice_get-map, slice_get_within, get_or_from_slice_get}
use Rattle.prl_base.specs.Clocks.{IsClock, date_at}
use Rattle.prl_base.specs.declared.numbers.FlowNo.{FlowNo}
use Rattle.prl_base.specs.declared.operators.Clock.{Clock}
use Rattle.prl_base.specs.declared.values.Ty.{Ty}
use Rattle.prl_base.specs.declared.values.Value.{Value}
use Rattle.prl_ast.specs.declared.declarations.Rate.{Rate}
use Rattle.prl_body.specs.Vocabulary.{body_named, input_types, output_types, register_types, value_expressions, IsWellTyped, Expression, value}
use Rattle.prl_body.specs.declared.bodies.CheckedBody.{CheckedBody}
use Rattle.prl_body.specs.Bodies as steps
use Rattle.prl_flow.specs.Vocabulary.{HaveBodies, nth_step, registers_before, values_at, dates_before, IsUpTo, value_at, FlatProgram, IsFlat, Rows, Rule, rated, constant, operator, applied, same}
use Rattle.prl_flow.specs.Vocabulary.{sensed, mark_rule, rate_rules, definition_rules, flow_rules, flows_rules, app_rule, apps_rules, flat_rules, AgreesClock, AreClocks, HasRate, MeetsDefinition}
use Rattle.prl_flow.specs.Vocabulary.{Solves, argument_flows, clock_of, values_of, Timed, State, IsTimed, Holds, IsApplied, IsSolution, all_at, flow_at, registers_at}
use Rattle.prl_flow.specs.declared.programs.App.{App}
use Rattle.prl_flow.specs.declared.programs.Arg.{Arg}
use Rattle.prl_flow.specs.declared.programs.Def.{Def}
use Rattle.prl_flow.specs.declared.programs.Flow.{Flow}
use Rattle.prl_flow.specs.declared.programs.Def.TheVariants as definitions
use Rattle.prl_flow.proofs.Applied.{length_HaveTypes}
use Rattle.prl_flow.proofs.ClockDates.{dates_before_number, value_at_date}
use Rattle.prl_causal.proofs.Elements.{some_inner, all_both, to_mapped, all_from, map_same}
use Rattle.prl_flow.proofs.Lists.{element_at, same_from_elements}

rule_same : (f g : ℕ → Timed) (r : ℕ → List (List Value)) → ((i : ℕ) → f i ≡ g i) → (rule : Rule ℕ ℕ) → mark_rule f r rule ≡ mark_rule g r rule
rule_same f g r e (rated rate x) = ap (rated rate) (e x)
rule_same f g r e (constant v x) = ap (constant v) (e x)
rule_same f g r e (operator op x y) = rw (e x, e y) refl
rule_same f g r e (applied name args outs x) = rw (map_same f g e args, map_same f g e outs) refl
rule_same f g r e (same x y) = rw (e x, e y) refl
rule_same f g r e (sensed k x) = ap (sensed k) (e x)

timed : List Clock → List (List Value) → List Timed
timed [] vs = []
timed (c ∷ cs) [] = []
timed (c ∷ cs) (v ∷ vs) = record { clock = c; values = v } ∷ timed cs vs

abbrev nothing : Timed
nothing = record { clock = record { period = 1; start = 0 }; values = [] }

timed_at : (cs : List Clock) (vs : List (List Value)) → length cs ≡ length vs → (i : ℕ) → slice_index_or (timed cs vs) i nothing ≡ record { clock = clock_of cs i; values = values_of vs i }
unfolding timed
timed_at [] [] e i = refl
timed_at [] (v ∷ vs) e i = absurd (omega (arith, e))
timed_at (c ∷ cs) [] e i = absurd (omega (arith, e))
timed_at (c ∷ cs) (v ∷ vs) e zero = refl
timed_at (c ∷ cs) (v ∷ vs) e (suc i) = timed_at cs vs (omega (arith, e)) i

timed_parts : (cs : List Clock) (vs : List (List Value)) → length cs ≡ length vs → (map (λ (f : Timed). f.clock) (timed cs vs) ≡ cs) × (map (λ (f : Timed). f.values) (timed cs vs) ≡ vs)
unfolding timed
timed_parts [] [] e = (refl, refl)
timed_parts [] (v ∷ vs) e = absurd (omega (arith, e))
timed_parts (c ∷ cs) [] e = absurd (omega (arith, e))
timed_parts (c ∷ cs) (v ∷ vs) e =
    let rest = timed_parts cs vs (omega (arith, e)) in
    (ap (λ ds. c ∷ ds) rest.0, ap (λ us. v ∷ us) rest.1)

all_timed : (until : ℕ) (cs : List Clock) (vs : List (List Value)) → length cs ≡ length vs → ((i : ℕ) → i < length cs → IsTimed until (record { clock = clock_of cs i; values = values_of vs i })) → AllByRecursion (IsTimed until) (timed cs vs)
unfolding timed
all_timed until [] vs e each = tt
all_timed until (c ∷ cs) [] e each = tt
all_timed until (c ∷ cs) (v ∷ vs) e each = (each 0 (omega arith), all_timed until cs vs (omega (arith, e)) (λ i within. each (suc i) (omega (arith, within))))

range_get : (a n i : ℕ) → i < n → slice_get (range_with_len a n) i ≡ Some (a + i)
range_get a zero i h = absurd (omega (arith, h))
range_get a (suc n) zero h = ap Some (omega arith)
range_get a (suc n) (suc i) h =
    let e : (a + 1) + i ≡ a + suc i = omega arith in
    range_get (a + 1) n i (omega (arith, h)) ∙ ap Some e

mapped_range : {A : Type 0} (g : ℕ → A) (n i : ℕ) → i < n → slice_get (map g (range_with_len 0 n)) i ≡ Some (g i)
mapped_range g n i h =
    let e : 0 + i ≡ i = omega arith in
    slice_get-map g (range_with_len 0 n) i ∙ ap (option_map g) (range_get 0 n i h) ∙ ap (λ j. Some (g j)) e

expression_count : (ins regs : List Ty) (es : List Expression) (ts : List Ty) → steps.HaveTypes ins regs es ts → length es ≡ length ts
expression_count ins regs [] [] h = refl
expression_count ins regs [] (t ∷ ts) h = absurd h
expression_count ins regs (e ∷ es) [] h = absurd h
expression_count ins regs (e ∷ es) (t ∷ ts) h = ap suc (expression_count ins regs es ts h.1)

named_typed : (bodies : List CheckedBody) (name : List ℕ) (b : CheckedBody) → AllByRecursion IsWellTyped bodies → body_named bodies name ≡ Some b → IsWellTyped b
named_typed [] name b h e = absurd (cc)
named_typed (x ∷ bodies) name b h e =
    elim (bytes_eq x.name name) as (λ t. cond t (Some x) (body_named bodies name) ≡ Some b → IsWellTyped b) [
      | true ↦ λ f. subst IsWellTyped (some_inner x b f) h.0
      | false ↦ λ f. named_typed bodies name b h.1 f
    ] e

abbrev first_out : List FlowNo → ℕ
first_out [] = 0
first_out (f ∷ fs) = f.0

module _ (p : FlatProgram) (flat : IsFlat p) (clocks : List Clock) (agree : AreClocks p clocks) (bodies : List CheckedBody) (have : HaveBodies p bodies) (typed : AllByRecursion IsWellTyped bodies)
    (rows : Rows) (until : ℕ) (flows : List (List Value)) (h : Solves p clocks bodies rows until flows) where
  abbrev own : ℕ → Timed
  own i = record { clock = clock_of clocks i; values = values_of flows i }

  abbrev body_registers : CheckedBody → App → ℕ → List Value
  body_registers body u n = registers_before body (values_at (clock_of clocks (first_out u.outs)) (argument_flows flows u)) n

  abbrev registers_with : App → Option CheckedBody → List (List Value)
  registers_with u None = []
  registers_with u (Some body) = map (body_registers body u) (range_with_len 0 (dates_before until (clock_of clocks (first_out u.outs)) + 1))

  abbrev registers_of : App → List (List Value)
  registers_of u = registers_with u (body_named bodies u.name)

  count : length clocks ≡ length flows
  count = agree.count ∙ sym h.count

  abbrev state : State
  state = record { flows = timed clocks flows; registers = map registers_of p.apps }

  abbrev Held : Rule ℕ ℕ → Type 0
  Held r = Holds bodies rows until (mark_rule own (λ k. slice_index_or (map registers_of p.apps) k []) r)

  rate_held : (i : ℕ) (o : Option Rate) → HasRate (clock_of clocks i) o → AllByRecursion Held (rate_rules o i)
  rate_held i None g = tt
  rate_held i (Some rate) g = (g, tt)

  def_held : (i : ℕ) (d : Def) → AgreesClock clocks (clock_of clocks i) d → MeetsDefinition p clocks bodies rows until flows (clock_of clocks i) (values_of flows i) d → AllByRecursion Held (definition_rules i d)
  def_held i (definitions.Sensor k) a m = (m, tt)
  def_held i (definitions.Copy of) a m = (rw (a, m) refl, tt)
  def_held i (definitions.Const v) a m = (m, tt)
  def_held i (definitions.Apply app out) a m = tt
  def_held i (definitions.Op op of) a m = (m, tt)

  flows_held : (k : ℕ) (fs : List Flow) → ((i j : ℕ) (f : Flow) → slice_get fs i ≡ Some f → j ≡ k + i → AllByRecursion Held (flow_rules j f)) → AllByRecursion Held (flows_rules k fs)
  flows_held k [] each = tt
  flows_held k (f ∷ fs) each =
      all_both Held (flow_rules k f) (flows_rules (k + 1) fs) (each 0 k f refl (omega arith)) (flows_held (k + 1) fs (λ i j g e at. each (suc i) j g e (omega (arith, at))))

  apps_held : (k : ℕ) (us : List App) → ((i j : ℕ) (u : App) → slice_get us i ≡ Some u → j ≡ k + i → Held (app_rule j u)) → AllByRecursion Held (apps_rules k us)
  apps_held k [] each = tt
  apps_held k (u ∷ us) each = (each 0 k u refl (omega arith), apps_held (k + 1) us (λ i j v e at. each (suc i) j v e (omega (arith, at))))

  flow_held : (i : ℕ) (f : Flow) → slice_get p.flows i ≡ Some f → AllByRecursion Held (flow_rules i f)
  flow_held i f e = all_both Held (rate_rules f.rate i) (definition_rules i f.def) (rate_held i f.rate (agree.rates i f e)) (def_held i f.def (agree.agree i f e) (h.meets i f e))

  -- the values of the arguments at a date
  read_args : (c : Clock) (n : ℕ) (us : List Arg) → IsClock c → date_at c n < until → ((j : ℕ) (u : Arg) → slice_get us j ≡ Some u → (clock_of clocks u.flow.0 ≡ c) × (u.flow.0 < length flows))
      → all_at (map own (map (λ (u : Arg). u.flow.0) us)) (date_at c n) ≡ map Some (values_at c (map (λ (u : Arg). values_of flows u.flow.0) us) n)
  read_args c n [] clock below each = refl
  read_args c n (u ∷ us) clock below each =
      let here = each 0 u refl in
      let up : IsUpTo until c (values_of flows u.flow.0) = subst (λ (d : Clock). IsUpTo until d (values_of flows u.flow.0)) here.0 (h.up_to u.flow.0 here.1) in
      let v = element_at (values_of flows u.flow.0) n ((up n).1 below) in
      let there : value_at c (values_of flows u.flow.0) (date_at c n) ≡ Some v.0 = value_at_date c (values_of flows u.flow.0) n clock ∙ v.1 in
      let own_value : value_at (clock_of clocks u.flow.0) (values_of flows u.flow.0) (date_at c n) ≡ Some v.0 = ap (λ (d : Clock). value_at d (values_of flows u.flow.0) (date_at c n)) here.0 ∙ there in
      rw (own_value, there, read_args c n us clock below (λ j x e. each (suc j) x e)) refl

  outs_at : (t : ℕ) (fs : List FlowNo) (j : ℕ) (f : FlowNo) → slice_get fs j ≡ Some f → slice_get (all_at (map own (map (λ (x : FlowNo). x.0) fs)) t) j ≡ Some (value_at (clock_of clocks f.0) (values_of flows f.0) t)
  outs_at t [] j f e = absurd (cc)
  outs_at t (x ∷ fs) zero f e = ap (λ (y : FlowNo). Some (value_at (clock_of clocks y.0) (values_of flows y.0) t)) (some_inner x f e)
  outs_at t (x ∷ fs) (suc j) f e = outs_at t fs j f e

  outs_count : (t : ℕ) (fs : List FlowNo) → length (all_at (map own (map (λ (x : FlowNo). x.0) fs)) t) ≡ length fs
  outs_count t [] = refl
  outs_count t (x ∷ fs) = ap suc (outs_count t fs)

  out_first : (fs : List FlowNo) (f : FlowNo) → slice_get fs 0 ≡ Some f → first_out fs ≡ f.0
  out_first [] f e = absurd (cc)
  out_first (x ∷ fs) f e = ap (λ (y : FlowNo). y.0) (some_inner x f e)

  with_body : (u : App) (body : CheckedBody) (c : Clock) → body_named bodies u.name ≡ Some body → clock_of clocks (first_out u.outs) ≡ c
      → registers_of u ≡ map (registers_before body (values_at c (argument_flows flows u))) (range_with_len 0 (dates_before until c + 1))
  with_body u body c named clock_is =
      ap (registers_with u) named
      ∙ ap (λ (d : Clock). map (registers_before body (values_at d (argument_flows flows u))) (range_with_len 0 (dates_before until d + 1))) clock_is

  timed_count : length (timed clocks flows) ≡ length flows
  timed_count = sym (length-map (timed clocks flows) (λ (f : Timed). f.values)) ∙ ap length (timed_parts clocks flows count).1

  -- the outputs at a date are those of the step
  outputs_given : (k : ℕ) (u : App) → slice_get p.apps k ≡ Some u → (body : CheckedBody) (c : Clock) → body_named bodies u.name ≡ Some body → ((j : ℕ) (f : FlowNo) → slice_get u.outs j ≡ Some f → clock_of clocks f.0 ≡ c) → (n : ℕ) → date_at c n < until
      → length u.outs ≡ length (nth_step body (values_at c (argument_flows flows u)) n).outputs
      → all_at (map own (map (λ (x : FlowNo). x.0) u.outs)) (date_at c n) ≡ map Some (nth_step body (values_at c (argument_flows flows u)) n).outputs
  outputs_given k u found body c named clocks_are n below many =
      let outputs : List Value = (nth_step body (values_at c (argument_flows flows u)) n).outputs in
      let date : ℕ = date_at c n in
      same_from_elements (all_at (map own (map (λ (x : FlowNo). x.0) u.outs)) (date_at c n)) (map Some outputs) (outs_count date u.outs ∙ many ∙ sym (length-map outputs Some))
      (λ j within.
      let f = element_at u.outs j (omega (arith, within, outs_count date u.outs)) in
      let v = element_at outputs j (omega (arith, within, outs_count date u.outs, many)) in
      let own_flow = (flat.apps k u found).outs j f.0 f.1 in
      let met : MeetsDefinition p clocks bodies rows until flows (clock_of clocks f.0.0) (values_of flows f.0.0) (definitions.Apply k j) =
      subst (λ (d : Def). MeetsDefinition p clocks bodies rows until flows (clock_of clocks f.0.0) (values_of flows f.0.0) d) own_flow.2 (h.meets f.0.0 own_flow.0 own_flow.1) in
      let clock : clock_of clocks f.0.0 ≡ c = clocks_are j f.0 f.1 in
      let app_is : met.app ≡ u = some_inner met.app u (sym met.applied ∙ found) in
      let body_is : met.body ≡ body = some_inner met.body body (sym met.named ∙ ap (λ (a : App). body_named bodies a.name) app_is ∙ named) in
      let each : value_at c (values_of flows f.0.0) (date_at c n) ≡ slice_get (nth_step met.body (values_at c (argument_flows flows u)) n).outputs j =
      subst (λ (d : Clock). date_at d n < until → value_at d (values_of flows f.0.0) (date_at d n) ≡ slice_get (nth_step met.body (values_at d (argument_flows flows u)) n).outputs j) clock
      (subst (λ (a : App). date_at (clock_of clocks f.0.0) n < until → value_at (clock_of clocks f.0.0) (values_of flows f.0.0) (date_at (clock_of clocks f.0.0) n)
      ≡ slice_get (nth_step met.body (values_at (clock_of clocks f.0.0) (argument_flows flows a)) n).outputs j) app_is (met.each n)) below in
      let given : value_at c (values_of flows f.0.0) (date_at c n) ≡ slice_get outputs j =
      each ∙ ap (λ (b : CheckedBody). slice_get (nth_step b (values_at c (argument_flows flows u)) n).outputs j) body_is in
      outs_at date u.outs j f.0 f.1 ∙ ap Some (ap (λ (d : Clock). value_at d (values_of flows f.0.0) date) clock ∙ given ∙ v.1)
      ∙ sym (slice_get-map Some outputs j ∙ ap (option_map Some) v.1))

  app_applied : (k : ℕ) (u : App) → slice_get p.apps k ≡ Some u
      → IsApplied bodies until u.name (map own (map (λ (x : Arg). x.flow.0) u.args)) (map own (map (λ (x : FlowNo). x.0) u.outs)) (slice_index_or (map registers_of p.apps) k [])
  app_applied k u found =
      let b = have k u found in
      let one = agree.apps k u found in
      let sound = flat.apps k u found in
      let first = element_at u.outs 0 (omega (arith, sound.has_output)) in
      let first_is : first_out u.outs ≡ first.0.0 = out_first u.outs first.0 first.1 in
      let clock_is : clock_of clocks (first_out u.outs) ≡ one.clock = ap (clock_of clocks) first_is ∙ one.outs 0 first.0 first.1 in
      let out_flow = sound.outs 0 first.0 first.1 in
      let small : first.0.0 < length p.flows = slice_get_within p.flows first.0.0 out_flow.0 out_flow.1 in
      let clock : IsClock one.clock = subst IsClock (one.outs 0 first.0 first.1) (agree.clock first.0.0 (omega (arith, small, agree.count))) in
      let inputs : ℕ → List Value = values_at one.clock (argument_flows flows u) in
      let number : ℕ = dates_before until one.clock in
      let registers_are : slice_index_or (map registers_of p.apps) k [] ≡ map (registers_before b.body inputs) (range_with_len 0 (number + 1)) =
      get_or_from_slice_get (map registers_of p.apps) k (registers_of u) [] (slice_get-map registers_of p.apps k ∙ ap (option_map registers_of) found)
      ∙ with_body u b.body one.clock b.named clock_is in
      let low : (n : ℕ) → date_at one.clock n < until → n < number = λ n below. (dates_before_number until one.clock n clock).1 below in
      let well = named_typed bodies u.name b.body typed b.named in
      subst (λ (rs : List (List Value)). IsApplied bodies until u.name (map own (map (λ (x : Arg). x.flow.0) u.args)) (map own (map (λ (x : FlowNo). x.0) u.outs)) rs) (sym registers_are)
      (record {
        body = b.body;
        named = b.named;
        clock = one.clock;
        args_clock = to_mapped (λ (f : Timed). f.clock ≡ one.clock) own (map (λ (x : Arg). x.flow.0) u.args)
            (to_mapped (λ (i : ℕ). clock_of clocks i ≡ one.clock) (λ (x : Arg). x.flow.0) u.args (all_from (λ (x : Arg). clock_of clocks x.flow.0 ≡ one.clock) u.args one.args));
        outs_clock = to_mapped (λ (f : Timed). f.clock ≡ one.clock) own (map (λ (x : FlowNo). x.0) u.outs)
            (to_mapped (λ (i : ℕ). clock_of clocks i ≡ one.clock) (λ (x : FlowNo). x.0) u.outs (all_from (λ (x : FlowNo). clock_of clocks x.0 ≡ one.clock) u.outs one.outs));
        number = length-map (range_with_len 0 (number + 1)) (registers_before b.body inputs) ∙ length-range_with_len 0 (number + 1);
        first = mapped_range (registers_before b.body inputs) (number + 1) 0 (omega arith);
        steps = λ n below.
            let here : n < number = low n below in
            record {
              inputs = inputs n;
              before = registers_before b.body inputs n;
              read = read_args one.clock n u.args clock below (λ j x e. (one.args j x e, (let s = sound.args j x e in omega (arith, s, h.count))));
              held = mapped_range (registers_before b.body inputs) (number + 1) n (omega (arith, here));
              gives = outputs_given k u found b.body one.clock b.named one.outs n below
                  (length_HaveTypes p u.outs (output_types b.body) b.fits.outputs
                  ∙ sym (length-map (value_expressions b.body) (value (inputs n) (registers_before b.body inputs n)) ∙ expression_count (input_types b.body) (register_types b.body) (value_expressions b.body) (output_types b.body) well.outputs));
              next =
                  let place : n + 1 ≡ suc n = omega arith in
                  ap (slice_get (map (registers_before b.body inputs) (range_with_len 0 (number + 1)))) place ∙ mapped_range (registers_before b.body inputs) (number + 1) (suc n) (omega (arith, here));
            };
      })

  app_rule_held : (k : ℕ) (u : App) → slice_get p.apps k ≡ Some u → Held (app_rule k u)
  app_rule_held k u found = app_applied k u found

  whole : IsSolution p bodies rows until state
  whole =
      let same_flows : (i : ℕ) → flow_at state i ≡ own i = λ i. timed_at clocks flows count i in
      let held : AllByRecursion Held (flat_rules p) =
      all_both Held (flows_rules 0 p.flows) (apps_rules 0 p.apps)
      (flows_held 0 p.flows (λ i j f e at. let number : i ≡ j = omega (arith, at) in subst (λ m. AllByRecursion Held (flow_rules m f)) number (flow_held i f e)))
      (apps_held 0 p.apps (λ i j u e at. let number : i ≡ j = omega (arith, at) in subst (λ m. Held (app_rule m u)) number (app_rule_held i u e))) in
      record {
        flow_count = timed_count ∙ h.count;
        register_count = length-map p.apps registers_of;
        timed = all_timed until clocks flows count (λ i within. (agree.clock i within, h.up_to i (omega (arith, within, count))));
        rules = subst (λ rs. AllByRecursion (Holds bodies rows until) rs)
            (map_same (mark_rule own (registers_at state)) (mark_rule (flow_at state) (registers_at state)) (λ r. sym (rule_same (flow_at state) own (registers_at state) same_flows r)) (flat_rules p))
            (to_mapped (Holds bodies rows until) (mark_rule own (registers_at state)) (flat_rules p) held);
      }

  pub made_whole : (s : State) × IsSolution p bodies rows until s × (map (λ (f : Timed). f.clock) s.flows ≡ clocks) × (map (λ (f : Timed). f.values) s.flows ≡ flows)
  made_whole = (state, whole, (timed_parts clocks flows count).0, (timed_parts clocks flows count).1)

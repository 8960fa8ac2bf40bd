-- The registers that a solution holds of an application are what the steps on its arguments' values have left.
use Rattle.prl_base.proofs.Standard.{◌≡◌, ◌<◌, ◌≤◌, ◌+◌, ◌*◌, ℕ, zero, suc, List, [], ◌∷◌, ◌++◌, map, Option, Some, slice_get, unwrap_or, pos, refl, sym, ap, ◌∙◌, subst, arith}
use Rattle.prl_base.proofs.Standard.{AllByRecursion, mul-le-mul_right}
use Rattle.std.proofs.Math.ListN.{get_or-map}
use Rattle.prl_base.specs.Clocks.{date_at}
use Rattle.prl_base.specs.declared.operators.Clock.{Clock}
use Rattle.prl_base.specs.declared.numbers.FlowNo.{FlowNo}
use Rattle.prl_base.specs.declared.values.Value.{Value}
use Rattle.prl_base.specs.declared.values.Value.TheVariants as values
use Rattle.prl_body.specs.declared.bodies.CheckedBody.{CheckedBody}
use Rattle.prl_causal.proofs.Elements.{all_second, head_same, of_mapped, some_inner, tail_same}
use Rattle.prl_causal.proofs.Wholes.{app_at_place}
use Rattle.prl_causal.specs.Vocabulary.{clocks_in, values_in}
use Rattle.prl_flow.specs.Vocabulary.{FlatProgram, HaveClock, Holds, IsApplied, IsSolution, Rows, Rule, State, Timed, all_at, apps_rules, argument_flows, clock_of, flat_rules, flow_at, flows_rules, mark_rule}
use Rattle.prl_flow.specs.Vocabulary.{app_rule, registers_at, registers_before, value_at, values_at, values_of}
use Rattle.prl_flow.specs.declared.programs.App.{App}
use Rattle.prl_flow.specs.declared.programs.Arg.{Arg}

abbrev nothing : Timed
nothing = record { clock = record { period = 1; start = 0 }; values = [] }

-- a flow's clock and values among those of all flows
pub clock_is : (s : State) (i : ℕ) → clock_of (clocks_in s) i ≡ (flow_at s i).clock
clock_is s i = get_or-map (λ (f : Timed). f.clock) s.flows i nothing

pub values_are : (s : State) (i : ℕ) → values_of (values_in s) i ≡ (flow_at s i).values
values_are s i = get_or-map (λ (f : Timed). f.values) s.flows i nothing

-- a date before one that is early is early
pub earlier : (c : Clock) (m n until : ℕ) → m ≤ n → date_at c n < until → date_at c m < until
earlier c m n until low before = (let e : m * c.period ≤ n * c.period = mul-le-mul_right c.period low in omega (arith, before, e))

-- what a step reads is the values of the arguments' flows
inputs_are : (s : State) (c : Clock) (n : ℕ) (args : List Arg) (inputs : List Value) → HaveClock c (map (flow_at s) (map (λ (a : Arg). a.flow.0) args))
    → all_at (map (flow_at s) (map (λ (a : Arg). a.flow.0) args)) (date_at c n) ≡ map Some inputs
    → values_at c (map (λ (a : Arg). values_of (values_in s) a.flow.0) args) n ≡ inputs
inputs_are s c n [] [] clocks e = refl
inputs_are s c n [] (v ∷ inputs) clocks e = absurd (cc)
inputs_are s c n (a ∷ args) [] clocks e = absurd (cc)
inputs_are s c n (a ∷ args) (v ∷ inputs) clocks e =
    let f : Timed = flow_at s a.flow.0 in
    let first : value_at f.clock f.values (date_at c n) ≡ Some v = head_same (value_at f.clock f.values (date_at c n)) (Some v) _ _ e in
    let here : value_at c (values_of (values_in s) a.flow.0) (date_at c n) ≡ Some v =
    ap (λ (xs : List Value). value_at c xs (date_at c n)) (values_are s a.flow.0) ∙ ap (λ (d : Clock). value_at d f.values (date_at c n)) (sym clocks.0) ∙ first in
    let rest = inputs_are s c n args inputs clocks.1 (tail_same (value_at f.clock f.values (date_at c n)) (Some v) _ _ e) in
    rw (here, rest) refl

module _ (p : FlatProgram) (bodies : List CheckedBody) (rows : Rows) (until : ℕ) (s : State) (solution : IsSolution p bodies rows until s) where
  abbrev Held : Rule ℕ ℕ → Type 0
  Held rule = Holds bodies rows until (mark_rule (flow_at s) (registers_at s) rule)

  abbrev AppliedAt : ℕ → App → Type 0
  AppliedAt k app = IsApplied bodies until app.name (map (flow_at s) (map (λ (a : Arg). a.flow.0) app.args)) (map (flow_at s) (map (λ (f : FlowNo). f.0) app.outs)) (registers_at s k)

  -- each application is applied
  pub applied_at : (k : ℕ) (app : App) → slice_get p.apps k ≡ Some app → AppliedAt k app
  applied_at k app found =
      app_at_place Held 0 p.apps k k app
      (all_second Held (flows_rules 0 p.flows) (apps_rules 0 p.apps) (of_mapped (Holds bodies rows until) (mark_rule (flow_at s) (registers_at s)) (flat_rules p) solution.rules))
      found (omega arith)

  pub registers_held : (k : ℕ) (app : App) (a : AppliedAt k app) → (n : ℕ) → date_at a.clock n < until
      → slice_get (registers_at s k) n ≡ Some (registers_before a.body (values_at a.clock (argument_flows (values_in s) app)) n)
  registers_held k app a zero below = a.first
  registers_held k app a (suc n) below =
      let before : date_at a.clock n < until = earlier a.clock n (suc n) until (omega arith) below in
      let step = a.steps n before in
      let inputs = inputs_are s a.clock n app.args step.inputs a.args_clock step.read in
      let held : step.before ≡ registers_before a.body (values_at a.clock (argument_flows (values_in s) app)) n =
      some_inner step.before _ (sym step.held ∙ registers_held k app a n before) in
      let place : n + 1 ≡ suc n = omega arith in
      ap (slice_get (registers_at s k)) (sym place) ∙ step.next ∙ ap Some (rw (inputs, held) refl)

-- The next value of a flow, as the code reads it.
use Rattle.prl_base.proofs.Standard.{◌≡◌, ◌^◌, ◌<◌, ℕ, List, length, set, Some, slice_get, slice_index_or, refl, sym, ◌∙◌, ap, subst, arith, slice_get_read, slice_get_within}
use Rattle.prl_base.specs.declared.values.Value.{Value}
use Rattle.prl_flow.specs.Programs.{IsWellDefined}
use Rattle.prl_flow.specs.declared.programs.App.{App}
use Rattle.prl_flow.specs.declared.programs.Arg.{Arg}
use Rattle.prl_flow.specs.declared.programs.Def.{Def}
use Rattle.prl_flow.specs.declared.programs.Flow.{Flow}
use Rattle.prl_flow.specs.declared.programs.Def.TheVariants as definitions
use Rattle.prl_causal.specs.Tables.{argument_values, nothing, table_of, value_of}
use Rattle.prl_evaluation.specs.Vocabulary.{CanGrow, IsPlain, IsReady, IsSet, IsThere, UnderWay, len, pushed, HasStepped, HaveArguments, MayStep, Run, Setting}
use Rattle.prl_evaluation.proofs.Grown as grown
use Rattle.prl_evaluation.proofs.There.{is_there}

-- a definition that is no application's
plain_from : (def : Def) → ((k out : ℕ) → def ≡ definitions.Apply k out → ⊥) → IsPlain def
plain_from (definitions.Sensor k) none = tt
plain_from (definitions.Copy of) none = tt
plain_from (definitions.Const v) none = tt
plain_from (definitions.Apply k out) none = none k out refl
plain_from (definitions.Op op of) none = tt

module _ (s : Setting) (setting : IsSet s) (flows : List (List Value)) (runs : List Run) (h : UnderWay s flows runs) (i : ℕ) (can : CanGrow s flows i)
    (listed : List Flow) (listed_is : listed ≡ s.flat.now.flows) (flow : Flow) (read : flow ≡ slice_index_or listed i flow) (n : ℕ) (n_is : n ≡ len flows i) where
  pub found : slice_get s.flat.now.flows i ≡ Some flow
  found = slice_get_read s.flat.now.flows (length s.flat.now.flows) i flow refl can.within (read ∙ ap (λ (fs : List Flow). slice_index_or fs i flow) listed_is)

  ready : IsReady s.flat.now flows i flow.def
  ready = can.ready flow found

  def_read : flow.def ≡ (slice_index_or listed i flow).def
  def_read = ap (λ (f : Flow). f.def) read

  pub plain_there : ((k out : ℕ) → (slice_index_or listed i flow).def ≡ definitions.Apply k out → ⊥)
      → IsPlain (slice_index_or listed i flow).def × IsThere s.sensors.now flows (slice_index_or listed i flow).def n
  plain_there none =
      let plain : IsPlain flow.def = plain_from flow.def (λ k out is. none k out (sym def_read ∙ is)) in
      let own : IsThere s.sensors.now flows flow.def (len flows i) =
      is_there s.flat.now s.sensors.now flows i flow.ty flow.def (setting.flat.flows i flow found) h.count
      (λ k defined. setting.has_rows k (record { 0 = i }) defined (len flows i) can.before) ready plain in
      (subst IsPlain def_read plain, subst (λ (d : Def). IsThere s.sensors.now flows d n) def_read (subst (IsThere s.sensors.now flows flow.def) (sym n_is) own))

  pub plain_grows : ((k out : ℕ) → (slice_index_or listed i flow).def ≡ definitions.Apply k out → ⊥)
      → (x : Value) → x ≡ value_of s.flat.now s.bodies.now s.sensors.now (table_of flows) (slice_index_or listed i flow).def n → UnderWay s (pushed flows i x) runs
  plain_grows none x is =
      let plain : IsPlain flow.def = plain_from flow.def (λ k out e. none k out (sym def_read ∙ e)) in
      grown.plain_step s.flat.now setting.flat s.clocks.now setting.agree s.bodies.now s.sensors.now s.until flows runs h i flow found can.before ready plain x
      (is ∙ ap (λ (d : Def). value_of s.flat.now s.bodies.now s.sensors.now (table_of flows) d n) (sym def_read) ∙ ap (value_of s.flat.now s.bodies.now s.sensors.now (table_of flows) flow.def) n_is)

  module _ (k out : ℕ) (applies : (slice_index_or listed i flow).def ≡ definitions.Apply k out) (apps : List App) (apps_is : apps ≡ s.flat.now.apps) (app : App) (app_read : app ≡ slice_index_or apps k app)
      (args : List Arg) (args_is : args ≡ (slice_index_or apps k app).args) (run : Run) (run_read : run ≡ slice_index_or runs k run) where
    applies_own : flow.def ≡ definitions.Apply k out
    applies_own = ap (λ (f : Flow). f.def) read ∙ applies

    within : k < length s.flat.now.apps
    within = let (a, applied, output) = subst (IsWellDefined s.flat.now i flow.ty) applies_own (setting.flat.flows i flow found) in slice_get_within s.flat.now.apps k a applied

    applied : slice_get s.flat.now.apps k ≡ Some app
    applied = slice_get_read s.flat.now.apps (length s.flat.now.apps) k app refl within (app_read ∙ ap (λ (us : List App). slice_index_or us k app) apps_is)

    there : slice_get runs k ≡ Some run
    there = slice_get_read runs (length runs) k run refl (omega (arith, within, h.run_count)) run_read

    args_own : args ≡ app.args
    args_own = args_is ∙ ap (λ (u : App). u.args) (sym app_read)

    output_within : out < length (slice_index_or runs k run).outputs.items
    output_within =
        subst (λ (r : Run). out < length r.outputs.items) run_read
        (grown.out_within s.flat.now setting.flat s.clocks.now setting.agree s.bodies.now s.sensors.now s.until flows runs h i flow found can.before ready k out applies_own setting.have app applied run there)

    arguments : HaveArguments flows args n
    arguments =
        subst (HaveArguments flows args) (sym n_is) (subst (λ (us : List Arg). HaveArguments flows us (len flows i)) (sym args_own)
        (grown.have_arguments s.flat.now setting.flat s.clocks.now setting.agree s.bodies.now s.sensors.now s.until flows runs h i flow found can.before ready k out applies_own app applied))

    few : n < 2 ^ 63
    few =
        let small = grown.few_instances s.flat.now setting.flat s.clocks.now setting.agree s.bodies.now s.sensors.now s.until flows runs h i flow found can.before ready k out applies_own setting.have app applied run there setting.early in
        omega (arith, small, n_is)

    may_step : (slice_index_or runs k run).steps ≡ n → MayStep (slice_index_or runs k run) args (argument_values (table_of flows) args n)
    may_step same =
        let steps : run.steps ≡ len flows i = ap (λ (r : Run). r.steps) run_read ∙ same ∙ n_is in
        let may = grown.may_step s.flat.now setting.flat s.clocks.now setting.agree s.bodies.now s.sensors.now s.until flows runs h i flow found can.before ready k out applies_own setting.have app applied run there setting.early steps in
        subst (λ (r : Run). MayStep r args (argument_values (table_of flows) args n)) run_read
        (subst (λ (us : List Arg). MayStep run us (argument_values (table_of flows) us n)) (sym args_own)
        (subst (λ t. MayStep run app.args (argument_values (table_of flows) app.args t)) (sym n_is) may))

    pub output_ready : (out < length (slice_index_or runs k run).outputs.items) × HaveArguments flows args n × (n < 2 ^ 63)
        × ((slice_index_or runs k run).steps ≡ n → MayStep (slice_index_or runs k run) args (argument_values (table_of flows) args n))
    output_ready = (output_within, arguments, few, may_step)

    pub output_grows : (new : Run) (x : Value)
        → ((slice_index_or runs k run).steps ≡ n → HasStepped (slice_index_or runs k run) new (argument_values (table_of flows) args n))
        → (((slice_index_or runs k run).steps ≡ n → ⊥) → new ≡ slice_index_or runs k run)
        → x ≡ slice_index_or new.outputs.items out nothing → UnderWay s (pushed flows i x) (set runs k new)
    output_grows new x stepped kept is =
        grown.output_step s.flat.now setting.flat s.clocks.now setting.agree s.bodies.now s.sensors.now s.until flows runs h i flow found can.before ready k out applies_own setting.have app applied run there new
        (λ same.
        let steps : (slice_index_or runs k run).steps ≡ n = ap (λ (r : Run). r.steps) (sym run_read) ∙ same ∙ sym n_is in
        subst (λ t. HasStepped run new (argument_values (table_of flows) app.args t)) n_is
        (subst (λ (us : List Arg). HasStepped run new (argument_values (table_of flows) us n)) args_own
        (subst (λ (r : Run). HasStepped r new (argument_values (table_of flows) args n)) (sym run_read) (stepped steps))))
        (λ other. kept (λ same. other (ap (λ (r : Run). r.steps) run_read ∙ same ∙ n_is)) ∙ sym run_read)
        x is

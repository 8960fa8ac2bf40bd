-- One value more of a flow that is under way.
use Rattle.prl_base.proofs.Standard.{◌≡◌, ◌+◌, ◌*◌, ◌^◌, ◌<◌, ◌≤◌, inl, inr, ℕ, zero, suc, List, [], ◌∷◌, ◌++◌, map, length, set, Some, slice_get, slice_index_or, refl, sym, ◌∙◌, ap, subst, arith}
use Rattle.prl_base.proofs.Standard.{mul-le-mul_left, cases_eq, cases_lt, get_or-set_other, get_or_append_left, get_or_push, length_push, same_Some, slice_get_within}
use Rattle.std.proofs.lemmas.List.{get_or-set_same, length-set}
use Rattle.prl_base.specs.Vocabulary.{IsClock, date_at, type_of}
use Rattle.prl_base.specs.declared.numbers.FlowNo.{FlowNo}
use Rattle.prl_base.specs.declared.operators.Clock.{Clock}
use Rattle.prl_base.specs.declared.values.Value.{Value}
use Rattle.prl_body.specs.Vocabulary.{body_step, input_types, output_types, register_types, MachineState}
use Rattle.prl_body.specs.declared.bodies.CheckedBody.{CheckedBody}
use Rattle.prl_flow.specs.Vocabulary.{HaveBodies, nth_step, registers_before, dates_before, FlatProgram, IsFlat, IsWellDefined, Rows, AreClocks, clock_of, values_of, IsArgument}
use Rattle.prl_flow.specs.declared.programs.App.{App}
use Rattle.prl_flow.specs.declared.programs.Arg.{Arg}
use Rattle.prl_flow.specs.declared.programs.Def.{Def}
use Rattle.prl_flow.specs.declared.programs.Flow.{Flow}
use Rattle.prl_flow.specs.declared.programs.Def.TheVariants as definitions
use Rattle.prl_flow.proofs.Applied.{length_HaveTypes}
use Rattle.prl_flow.proofs.ClockDates.{dates_before_number}
use Rattle.prl_causal.specs.Tables.{Reads, argument_values, nothing, table_of, value_of}
use Rattle.prl_causal.proofs.Earlier.{inputs_local, reads_before, reads_earlier, value_local}
use Rattle.prl_causal.proofs.Solved.{applied_is}
use Rattle.prl_causal.proofs.Typed.{types_inputs, types_registers}
use Rattle.prl_evaluation.specs.Vocabulary.{HasGrown, IsPlain, IsReady, IsUnderWay, len, pushed, HasStepped, HaveArguments, IsRun, MayStep, Run}

same_application : (j o k out : ℕ) → definitions.Apply j o ≡ definitions.Apply k out → j ≡ k
same_application j o k out e = cc

slice_get-set_same : {A : Type 0} (xs : List A) (k : ℕ) (x : A) → k < length xs → slice_get (set xs k x) k ≡ Some x
slice_get-set_same [] k x below = absurd (omega (arith, below))
slice_get-set_same (y ∷ xs) zero x below = refl
slice_get-set_same (y ∷ xs) (suc k) x below = slice_get-set_same xs k x (omega (arith, below))

slice_get-set_other : {A : Type 0} (xs : List A) (k j : ℕ) (x : A) → (j ≡ k → ⊥) → slice_get (set xs k x) j ≡ slice_get xs j
slice_get-set_other [] k j x other = refl
slice_get-set_other (y ∷ xs) zero zero x other = absurd (other refl)
slice_get-set_other (y ∷ xs) zero (suc j) x other = refl
slice_get-set_other (y ∷ xs) (suc k) zero x other = refl
slice_get-set_other (y ∷ xs) (suc k) (suc j) x other = slice_get-set_other xs k j x (λ e. other (ap suc e))

-- the list with one value more
pushed_own : (flows : List (List Value)) (i : ℕ) (x : Value) → i < length flows → values_of (pushed flows i x) i ≡ values_of flows i ++ x ∷ []
pushed_own flows i x within = get_or-set_same flows i (values_of flows i ++ x ∷ []) [] within

pushed_other : (flows : List (List Value)) (i : ℕ) (x : Value) (j : ℕ) → (j ≡ i → ⊥) → values_of (pushed flows i x) j ≡ values_of flows j
pushed_other flows i x j other = get_or-set_other flows i j (values_of flows i ++ x ∷ []) [] other

pub grown_pushed : (flows : List (List Value)) (i : ℕ) (x : Value) → i < length flows → HasGrown flows (pushed flows i x) i
grown_pushed flows i x within = record {
  one = ap length (pushed_own flows i x within) ∙ length_push (values_of flows i) x;
  others = λ j other. ap length (pushed_other flows i x j other);
}

module _ (p : FlatProgram) (flat : IsFlat p) (clocks : List Clock) (agree : AreClocks p clocks) (bodies : List CheckedBody) (rows : Rows) (until : ℕ)
    (flows : List (List Value)) (runs : List Run) (h : IsUnderWay p clocks bodies rows until flows runs)
    (i : ℕ) (flow : Flow) (found : slice_get p.flows i ≡ Some flow) (before : date_at (clock_of clocks i) (len flows i) < until) (ready : IsReady p flows i flow.def) where
  within : i < length p.flows
  within = slice_get_within p.flows i flow found

  clock_there : IsClock (clock_of clocks i)
  clock_there = agree.clock i (omega (arith, within, agree.count))

  -- what is read has the values of the table
  read_is : (j m : ℕ) → Reads p flow.def (len flows i) j m → table_of flows j m ≡ h.table j m
  read_is j m reads = h.front j m (reads_earlier p flat clocks agree i flow found (len flows i) j m reads).0 (ready.reads j m reads)

  pub next_is : value_of p bodies rows (table_of flows) flow.def (len flows i) ≡ h.table i (len flows i)
  next_is = value_local p bodies rows (table_of flows) h.table flow.def (len flows i) read_is ∙ sym (h.fixed i flow found (len flows i) before)

  -- the next value, where the runs go on with it
  grow : (x : Value) (new : List Run) → x ≡ h.table i (len flows i) → length new ≡ length p.apps
      → ((k : ℕ) (app : App) (r : Run) → slice_get p.apps k ≡ Some app → slice_get new k ≡ Some r → IsRun bodies h.table app r)
      → ((k o : ℕ) (app : App) (r : Run) (f : FlowNo) → slice_get p.apps k ≡ Some app → slice_get new k ≡ Some r → slice_get app.outs o ≡ Some f
      → (len (pushed flows i x) f.0 ≤ r.steps) × (r.steps ≤ len (pushed flows i x) f.0 + 1))
      → IsUnderWay p clocks bodies rows until (pushed flows i x) new
  grow x new is new_count run steps =
      let inside : i < length flows = omega (arith, within, h.count) in
      let grown = grown_pushed flows i x inside in
      record {
        table = h.table;
        fixed = h.fixed;
        typed = h.typed;
        count = length-set flows i (values_of flows i ++ x ∷ []) ∙ h.count;
        short = λ j below. elim (cases_eq j i) [
          | inl same ↦
              let room : len flows i < dates_before until (clock_of clocks i) = (dates_before_number until (clock_of clocks i) (len flows i) clock_there).1 before in
              subst (λ t. len (pushed flows i x) t ≤ dates_before until (clock_of clocks t)) (sym same) (omega (arith, room, grown.one))
          | inr other ↦ let old = h.short j below in omega (arith, old, grown.others j other)
        ];
        front = λ j m below less. elim (cases_eq j i) [
          | inl same ↦ subst (λ t. table_of (pushed flows i x) t m ≡ h.table t m) (sym same) (own_front x is inside m (subst (λ t. m < len (pushed flows i x) t) same less))
          | inr other ↦
              ap (λ (xs : List Value). slice_index_or xs m nothing) (pushed_other flows i x j other) ∙ h.front j m below (omega (arith, less, grown.others j other))
        ];
        run_count = new_count;
        run = run;
        steps = steps;
      }
    where
      own_front : (x : Value) → x ≡ h.table i (len flows i) → i < length flows → (m : ℕ) → m < len (pushed flows i x) i → table_of (pushed flows i x) i m ≡ h.table i m
      own_front x is inside m less =
          let xs : List Value = values_of flows i in
          let list : table_of (pushed flows i x) i m ≡ slice_index_or (xs ++ x ∷ []) m nothing = ap (λ (ys : List Value). slice_index_or ys m nothing) (pushed_own flows i x inside) in
          elim (cases_lt m (length xs)) [
            | inl earlier ↦ list ∙ get_or_append_left xs (x ∷ []) nothing m earlier ∙ h.front i m within earlier
            | inr late ↦
                let last : length xs ≡ m = omega (arith, late, less, (grown_pushed flows i x inside).one) in
                list ∙ get_or_push xs x nothing m last ∙ is ∙ ap (h.table i) last
          ]

  -- no output of an application has this definition
  not_output : IsPlain flow.def → (k o : ℕ) (app : App) (f : FlowNo) → slice_get p.apps k ≡ Some app → slice_get app.outs o ≡ Some f → f.0 ≡ i → ⊥
  not_output plain k o app f applied output same =
      let (g, at, is) = (flat.apps k app applied).outs o f output in
      let one : g ≡ flow = same_Some g flow (sym at ∙ ap (slice_get p.flows) same ∙ found) in
      subst IsPlain (ap (λ (x : Flow). x.def) (sym one) ∙ is) plain

  pub plain_step : IsPlain flow.def → (x : Value) → x ≡ value_of p bodies rows (table_of flows) flow.def (len flows i) → IsUnderWay p clocks bodies rows until (pushed flows i x) runs
  plain_step plain x is =
      grow x runs (is ∙ next_is) h.run_count h.run (λ k o app r f applied there output.
      let old = h.steps k o app r f applied there output in
      let same = (grown_pushed flows i x (omega (arith, within, h.count))).others f.0 (not_output plain k o app f applied output) in
      (omega (arith, old.0, same), omega (arith, old.1, same)))

  module _ (k out : ℕ) (applies : flow.def ≡ definitions.Apply k out) where
    own_app : (a : App) × (slice_get p.apps k ≡ Some a) × (slice_get a.outs out ≡ Some (record { 0 = i }))
    own_app = subst (IsWellDefined p i flow.ty) applies (flat.flows i flow found)

    reads_argument : (a : App) → slice_get p.apps k ≡ Some a → (j : ℕ) (arg : Arg) → slice_get a.args j ≡ Some arg → (m : ℕ) → m ≤ len flows i → Reads p flow.def (len flows i) arg.flow.0 m
    reads_argument a applied j arg at m le =
        let argument : IsArgument p k arg.flow.0 = record { app = a; applied = applied; index = j; arg = arg; found = at; is = refl } in
        subst (λ (d : Def). Reads p d (len flows i) arg.flow.0 m) (sym applies) (argument, le)

    pub have_arguments : (a : App) → slice_get p.apps k ≡ Some a → HaveArguments flows a.args (len flows i)
    have_arguments a applied j arg at =
        let reads = reads_argument a applied j arg at (len flows i) (omega arith) in
        let inside = (reads_earlier p flat clocks agree i flow found (len flows i) arg.flow.0 (len flows i) reads).0 in
        (omega (arith, inside, h.count), ready.reads arg.flow.0 (len flows i) reads)

    inputs_same : (a : App) → slice_get p.apps k ≡ Some a → (m : ℕ) → m ≤ len flows i → argument_values (table_of flows) a.args m ≡ argument_values h.table a.args m
    inputs_same a applied m le = inputs_local (table_of flows) h.table a.args m (λ j arg at. read_is arg.flow.0 m (reads_argument a applied j arg at m le))

    inputs_typed : (a : App) (applied : slice_get p.apps k ≡ Some a) (have : HaveBodies p bodies) → (m : ℕ) → m ≤ len flows i
        → map type_of (argument_values h.table a.args m) ≡ input_types (have k a applied).body
    inputs_typed a applied have m le =
        let b = have k a applied in
        types_inputs p h.table m a.args (input_types b.body) b.fits.inputs (λ j arg at.
        let reads = reads_argument a applied j arg at m le in
        let (inside, earlier) = reads_earlier p flat clocks agree i flow found (len flows i) arg.flow.0 m reads in
        h.typed arg.flow.0 m inside (reads_before p flat clocks agree until i (len flows i) arg.flow.0 m earlier before))

    module _ (have : HaveBodies p bodies) (a : App) (applied : slice_get p.apps k ≡ Some a) (r : Run) (there : slice_get runs k ≡ Some r) where
      run_of : IsRun bodies h.table a r
      run_of = h.run k a r applied there

      body_is : run_of.body ≡ (have k a applied).body
      body_is = same_Some run_of.body (have k a applied).body (sym run_of.named ∙ (have k a applied).named)

      output_is : slice_get a.outs out ≡ Some (record { 0 = i })
      output_is =
          let (b, b_applied, output) = own_app in
          let same : b ≡ a = same_Some b a (sym b_applied ∙ applied) in
          ap (λ (x : App). slice_get x.outs out) (sym same) ∙ output

      steps_are : (len flows i ≤ r.steps) × (r.steps ≤ len flows i + 1)
      steps_are = h.steps k out a r (record { 0 = i }) applied there output_is

      -- as many outputs as the body gives
      out_count : length a.outs ≡ length (output_types run_of.body)
      out_count = length_HaveTypes p a.outs (output_types (have k a applied).body) (have k a applied).fits.outputs ∙ ap (λ (b : CheckedBody). length (output_types b)) (sym body_is)

      typed_inputs : (m : ℕ) → m ≤ len flows i → map type_of (argument_values h.table a.args m) ≡ input_types run_of.body
      typed_inputs m le = inputs_typed a applied have m le ∙ ap input_types (sym body_is)

      pub out_within : out < length r.outputs.items
      out_within = omega (arith, slice_get_within a.outs out (record { 0 = i }) output_is, run_of.written)

      -- the number of an instance is no later than its date
      pub few_instances : until < 2 ^ 31 → len flows i < 2 ^ 31
      few_instances early =
          let positive : 1 ≤ (clock_of clocks i).period = clock_there in
          let grows : len flows i * 1 ≤ len flows i * (clock_of clocks i).period = mul-le-mul_left (len flows i) positive in
          omega (arith, grows, before, early)

      pub may_step : until < 2 ^ 31 → r.steps ≡ len flows i → MayStep r a.args (argument_values (table_of flows) a.args (len flows i))
      may_step early same = record {
        read = run_of.read;
        types = ap (map type_of) (inputs_same a applied (len flows i) (omega arith)) ∙ typed_inputs (len flows i) (omega arith) ∙ ap input_types (sym run_of.same);
        held = ap (map type_of) run_of.held
            ∙ types_registers run_of.body (argument_values h.table a.args) run_of.typed r.steps (λ m less. typed_inputs m (omega (arith, less, same)))
            ∙ ap register_types (sym run_of.same);
        given = run_of.written ∙ out_count ∙ ap (λ (b : CheckedBody). length (output_types b)) (sym run_of.same);
        steps = omega (arith, run_of.counted, same, few_instances early);
      }

      module _ (new : Run) (stepped : r.steps ≡ len flows i → HasStepped r new (argument_values (table_of flows) a.args (len flows i))) (kept : (r.steps ≡ len flows i → ⊥) → new ≡ r) where
        inputs : ℕ → List Value
        inputs = argument_values h.table a.args

        -- the step is that of the application's body on the arguments in the table
        made : r.steps ≡ len flows i → HasStepped r new (argument_values h.table a.args (len flows i))
        made same = subst (HasStepped r new) (inputs_same a applied (len flows i) (omega arith)) (stepped same)

        registers_are : r.steps ≡ len flows i → r.machine.registers ≡ registers_before run_of.body (argument_values h.table a.args) (len flows i)
        registers_are same = run_of.held ∙ ap (registers_before run_of.body (argument_values h.table a.args)) same

        step_is : r.steps ≡ len flows i
            → body_step r.body.now (argument_values h.table a.args (len flows i)) r.machine.registers ≡ nth_step run_of.body (argument_values h.table a.args) (len flows i)
        step_is same =
            ap (λ (b : CheckedBody). body_step b (argument_values h.table a.args (len flows i)) r.machine.registers) run_of.same
            ∙ ap (body_step run_of.body (argument_values h.table a.args (len flows i))) (registers_are same)

        new_run : r.steps ≡ len flows i → IsRun bodies h.table a new
        new_run same =
            let m = made same in
            let counted : new.steps ≡ suc (len flows i) = omega (arith, m.steps, same) in
            let outputs : new.outputs.items ≡ (nth_step run_of.body (argument_values h.table a.args) (len flows i)).outputs = m.outputs ∙ ap (λ s. s.outputs) (step_is same) in
            record {
              body = run_of.body;
              same = m.body ∙ run_of.same;
              named = run_of.named;
              typed = run_of.typed;
              read = m.inputs ∙ run_of.read;
              written = m.written ∙ run_of.written;
              held = ap (λ (x : MachineState). x.registers) m.machine ∙ ap (λ s. s.registers) (step_is same) ∙ ap (registers_before run_of.body (argument_values h.table a.args)) (sym counted);
              counted = let e : new.machine.steps ≡ r.machine.steps + 1 = ap (λ (x : MachineState). x.steps) m.machine in omega (arith, e, m.steps, run_of.counted);
              given = λ n is.
                  let number : len flows i ≡ n = omega (arith, counted, is) in
                  outputs ∙ ap (λ t. (nth_step run_of.body (argument_values h.table a.args) t).outputs) number;
            }

        -- after it the run has made the step for the next value
        both : (new.steps ≡ suc (len flows i)) × IsRun bodies h.table a new
        both = elim (cases_eq r.steps (len flows i)) [
          | inl same ↦ (omega (arith, (made same).steps, same), new_run same)
          | inr other ↦
              let is = kept other in
              let steps : new.steps ≡ r.steps = ap (λ (x : Run). x.steps) is in
              (omega (arith, steps, steps_are.0, steps_are.1, other), subst (IsRun bodies h.table a) (sym is) run_of)
        ]

        body_same : both.1.body ≡ run_of.body
        body_same = same_Some both.1.body run_of.body (sym both.1.named ∙ run_of.named)

        value_is : slice_index_or new.outputs.items out nothing ≡ h.table i (len flows i)
        value_is =
            let outputs : new.outputs.items ≡ (nth_step run_of.body (argument_values h.table a.args) (len flows i)).outputs =
            both.1.given (len flows i) both.0 ∙ ap (λ (b : CheckedBody). (nth_step b (argument_values h.table a.args) (len flows i)).outputs) body_same in
            ap (λ (xs : List Value). slice_index_or xs out nothing) outputs
            ∙ sym (applied_is p.apps bodies h.table k (len flows i) out a run_of.body applied run_of.named)
            ∙ ap (λ (d : Def). value_of p bodies rows h.table d (len flows i)) (sym applies)
            ∙ sym (h.fixed i flow found (len flows i) before)

        pub output_step : (x : Value) → x ≡ slice_index_or new.outputs.items out nothing → IsUnderWay p clocks bodies rows until (pushed flows i x) (set runs k new)
        output_step x is =
            let k_within : k < length runs = slice_get_within runs k r there in
            let inside : i < length flows = omega (arith, within, h.count) in
            let grown = grown_pushed flows i x inside in
            grow x (set runs k new) (is ∙ value_is) (length-set runs k new ∙ h.run_count)
            (λ j b s b_applied s_there. elim (cases_eq j k) [
              | inl same ↦
                  let app : a ≡ b = same_Some a b (sym applied ∙ ap (slice_get p.apps) (sym same) ∙ b_applied) in
                  let own : new ≡ s = same_Some new s (sym (slice_get-set_same runs k new k_within) ∙ ap (slice_get (set runs k new)) (sym same) ∙ s_there) in
                  subst (IsRun bodies h.table b) own (subst (λ (y : App). IsRun bodies h.table y new) app both.1)
              | inr other ↦ h.run j b s b_applied (sym (slice_get-set_other runs k j new other) ∙ s_there)
            ])
            (λ j o b s f b_applied s_there output. elim (cases_eq j k) [
              | inl same ↦
                  let app : a ≡ b = same_Some a b (sym applied ∙ ap (slice_get p.apps) (sym same) ∙ b_applied) in
                  let own : new ≡ s = same_Some new s (sym (slice_get-set_same runs k new k_within) ∙ ap (slice_get (set runs k new)) (sym same) ∙ s_there) in
                  let steps : s.steps ≡ suc (len flows i) = ap (λ (y : Run). y.steps) (sym own) ∙ both.0 in
                  let out_here : slice_get a.outs o ≡ Some f = ap (λ (y : App). slice_get y.outs o) app ∙ output in
                  elim (cases_eq f.0 i) [
                    | inl is_own ↦
                        let length_is : len (pushed flows i x) f.0 ≡ len flows i + 1 = ap (len (pushed flows i x)) is_own ∙ grown.one in
                        (omega (arith, length_is, steps), omega (arith, length_is, steps))
                    | inr apart ↦
                        let old = h.steps k o a r f applied there out_here in
                        let low = ready.outs k out o a f applies applied out_here in
                        let kept_len = grown.others f.0 apart in
                        (omega (arith, old.0, kept_len, steps, steps_are.1), omega (arith, low, kept_len, steps))
                  ]
              | inr other ↦
                  let s_old : slice_get runs j ≡ Some s = sym (slice_get-set_other runs k j new other) ∙ s_there in
                  let old = h.steps j o b s f b_applied s_old output in
                  let apart : f.0 ≡ i → ⊥ = λ is_own.
                  let (g, at, def) = (flat.apps j b b_applied).outs o f output in
                  let one : g ≡ flow = same_Some g flow (sym at ∙ ap (slice_get p.flows) is_own ∙ found) in
                  let same_def : definitions.Apply j o ≡ definitions.Apply k out = sym def ∙ ap (λ (y : Flow). y.def) one ∙ applies in
                  other (same_application j o k out same_def) in
                  let kept_len = grown.others f.0 apart in
                  (omega (arith, old.0, kept_len), omega (arith, old.1, kept_len))
            ])

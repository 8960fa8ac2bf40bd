-- The values of a table that is fixed have the types of their flows.
use Rattle.prl_base.proofs.Standard.{◌≡◌, ◌<◌, ◌≤◌, ℕ, zero, suc, List, [], ◌∷◌, map, length, Some, slice_get, slice_index_or, refl, sym, ◌∙◌, ap, subst, arith, slice_get-get_or, slice_get_within}
use Rattle.prl_base.specs.Vocabulary.{date_at, IsOperatorFor, Origin, constant, instance, origin_of, type_of}
use Rattle.prl_base.specs.declared.numbers.FlowNo.{FlowNo}
use Rattle.prl_base.specs.declared.operators.Clock.{Clock}
use Rattle.prl_base.specs.declared.operators.Op.{Op}
use Rattle.prl_base.specs.declared.values.Ty.{Ty}
use Rattle.prl_base.specs.declared.values.Value.{Value}
use Rattle.prl_base.specs.declared.operators.Op.TheVariants as operators
use Rattle.prl_body.specs.Bodies.{IsWellTyped, input_types, output_types, register_types}
use Rattle.prl_body.specs.declared.bodies.CheckedBody.{CheckedBody}
use Rattle.prl_body.proofs.Sound.{types_step}
use Rattle.prl_flow.specs.Vocabulary.{HaveBodies, HaveTypes, nth_step, registers_before, FlatProgram, IsFlat, IsWellDefined, Rows, rows_of, AreClocks, HasRows, clock_of, IsArgument, IsOrder}
use Rattle.prl_flow.specs.declared.programs.Arg.{Arg}
use Rattle.prl_flow.specs.declared.programs.Def.{Def}
use Rattle.prl_flow.specs.declared.programs.Flow.{Flow}
use Rattle.prl_flow.specs.declared.programs.Def.TheVariants as definitions
use Rattle.prl_flow.proofs.Applied.{length_HaveTypes, type_of_element}
use Rattle.prl_causal.specs.Vocabulary.{AreTypedRows, HaveTypedBodies, IsFixed, Reads, Table, argument_values, nothing, taken, value_of}
use Rattle.prl_causal.proofs.Rounds.{along_reads}
use Rattle.prl_causal.proofs.Solved.{applied_is, outputs_count}

one_flow : (p : FlatProgram) (i : ℕ) (f g : Flow) → slice_get p.flows i ≡ Some f → slice_get p.flows i ≡ Some g → f ≡ g
one_flow p i f g at_f at_g = let e : Some f ≡ Some g = sym at_f ∙ at_g in cc

-- each value has the type of its flow
abbrev pub IsTypedAt : FlatProgram → Table → ℕ → ℕ → Type 0
IsTypedAt p v i n = (flow : Flow) → slice_get p.flows i ≡ Some flow → type_of (v i n) ≡ flow.ty

pub types_inputs : (p : FlatProgram) (v : Table) (n : ℕ) (args : List Arg) (tys : List Ty) → HaveTypes p (map (λ (a : Arg). a.flow) args) tys
    → ((j : ℕ) (arg : Arg) → slice_get args j ≡ Some arg → IsTypedAt p v arg.flow.0 n) → map type_of (argument_values v args n) ≡ tys
types_inputs p v n [] [] fit each = refl
types_inputs p v n [] (ty ∷ tys) fit each = absurd fit
types_inputs p v n (arg ∷ args) [] fit each = absurd fit
types_inputs p v n (arg ∷ args) (ty ∷ tys) ((f, found, is), fits) each =
    let head : type_of (v arg.flow.0 n) ≡ ty = each zero arg refl f found ∙ is in
    ap (λ (t : Ty). t ∷ map type_of (argument_values v args n)) head ∙ ap (λ (ts : List Ty). ty ∷ ts) (types_inputs p v n args tys fits (λ j x at. each (suc j) x at))

pub types_registers : (body : CheckedBody) (inputs : ℕ → List Value) → IsWellTyped body → (n : ℕ) → ((m : ℕ) → m < n → map type_of (inputs m) ≡ input_types body)
    → map type_of (registers_before body inputs n) ≡ register_types body
types_registers body inputs well zero each = refl
types_registers body inputs well (suc n) each =
    (types_step body (inputs n) (registers_before body inputs n) well (each n (omega arith)) (types_registers body inputs well n (λ m less. each m (omega arith)))).1

types_outputs : (body : CheckedBody) (inputs : ℕ → List Value) → IsWellTyped body → (n : ℕ) → ((m : ℕ) → m ≤ n → map type_of (inputs m) ≡ input_types body)
    → map type_of (nth_step body inputs n).outputs ≡ output_types body
types_outputs body inputs well n each =
    (types_step body (inputs n) (registers_before body inputs n) well (each n (omega arith)) (types_registers body inputs well n (λ m less. each m (omega arith)))).0

constant_typed : (ty : Ty) (op : Op) (n : ℕ) (c : Value) → IsOperatorFor ty op → origin_of op n ≡ constant c → type_of c ≡ ty
constant_typed ty (operators.Fby d) zero c fits is = let same : d ≡ c = cc in ap type_of (sym same) ∙ fits.0
constant_typed ty (operators.Fby d) (suc n) c fits is = absurd (cc)
constant_typed ty (operators.Cons d) zero c fits is = let same : d ≡ c = cc in ap type_of (sym same) ∙ fits.0
constant_typed ty (operators.Cons d) (suc n) c fits is = absurd (cc)
constant_typed ty operators.Tail n c fits is = absurd (cc)
constant_typed ty (operators.Up k) n c fits is = absurd (cc)
constant_typed ty (operators.Down k) n c fits is = absurd (cc)
constant_typed ty (operators.Shift q) n c fits is = absurd (cc)

taken_typed : (f : ℕ → Value) (o : Origin) (ty : Ty) → ((m : ℕ) → o ≡ instance m → type_of (f m) ≡ ty) → ((c : Value) → o ≡ constant c → type_of c ≡ ty) → type_of (taken f o) ≡ ty
taken_typed f (instance m) ty one other = one m refl
taken_typed f (constant c) ty one other = other c refl

module _ (p : FlatProgram) (flat : IsFlat p) (clocks : List Clock) (agree : AreClocks p clocks) (order : List FlowNo) (is_order : IsOrder p order)
    (bodies : List CheckedBody) (rows : Rows) (until : ℕ) (have : HaveBodies p bodies) (typed_bodies : HaveTypedBodies p bodies)
    (has_rows : HasRows p clocks rows until) (typed_rows : AreTypedRows p rows) where
  value_typed : (v : Table) (i n : ℕ) (flow : Flow) (def : Def) → slice_get p.flows i ≡ Some flow → IsWellDefined p i flow.ty def → date_at (clock_of clocks i) n < until
      → ((j m : ℕ) → Reads p def n j m → IsTypedAt p v j m) → type_of (value_of p bodies rows v def n) ≡ flow.ty
  value_typed v i n flow (definitions.Sensor k) found defined before each =
      let row = slice_get-get_or (rows_of rows k) n nothing (has_rows k (record { 0 = i }) defined n before) in
      let (f, at, ty) = typed_rows k (record { 0 = i }) defined n (slice_index_or (rows_of rows k) n nothing) row in
      sym ty ∙ ap (λ (g : Flow). g.ty) (one_flow p i f flow at found)
  value_typed v i n flow (definitions.Copy of) found (f, at, ty) before each = each of.0 n (refl, refl) f at ∙ ty
  value_typed v i n flow (definitions.Const c) found defined before each = defined.0
  value_typed v i n flow (definitions.Apply k out) found (a, applied, output) before each =
      let b = have k a applied in
      let inputs = argument_values v a.args in
      let well = typed_bodies k a b.body applied b.named in
      let typed : (m : ℕ) → m ≤ n → map type_of (inputs m) ≡ input_types b.body =
      λ m le. types_inputs p v m a.args (input_types b.body) b.fits.inputs (λ j arg at.
      let argument : IsArgument p k arg.flow.0 = record { app = a; applied = applied; index = j; arg = arg; found = at; is = refl } in
      each arg.flow.0 m (argument, le)) in
      let outputs = (nth_step b.body inputs n).outputs in
      let types : output_types b.body ≡ map type_of outputs = sym (types_outputs b.body inputs well n typed) in
      let short : out < length outputs = omega (arith, slice_get_within a.outs out (record { 0 = i }) output, outputs_count b.body inputs n well, length_HaveTypes p a.outs (output_types b.body) b.fits.outputs) in
      let (f, at, ty) = type_of_element p a.outs outputs out (record { 0 = i }) (slice_index_or outputs out nothing)
      (subst (HaveTypes p a.outs) types b.fits.outputs) output (slice_get-get_or outputs out nothing short) in
      ap type_of (applied_is p.apps bodies v k n out a b.body applied b.named) ∙ sym ty ∙ ap (λ (g : Flow). g.ty) (one_flow p i f flow at found)
  value_typed v i n flow (definitions.Op op of) found ((f, at, ty), fits) before each =
      taken_typed (v of.0) (origin_of op n) flow.ty (λ m is. each of.0 m (refl, is) f at ∙ ty) (λ c is. constant_typed flow.ty op n c fits is)

  -- all values before the date
  pub fixed_typed : (v : Table) → IsFixed p clocks bodies rows until v → (i n : ℕ) → i < length p.flows → date_at (clock_of clocks i) n < until → IsTypedAt p v i n
  fixed_typed v fixed = along_reads p flat clocks agree order is_order bodies rows until (IsTypedAt p v) (λ i n flow found before each other at.
      ap type_of (fixed i flow found n before)
      ∙ value_typed v i n flow flow.def found (flat.flows i flow found) before each
      ∙ ap (λ (g : Flow). g.ty) (one_flow p i flow other found at))

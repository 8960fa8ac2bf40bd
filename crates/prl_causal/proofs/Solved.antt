-- Lists of values solve a program over its clocks exactly where they are as long as the clocks ask and their table is fixed.
use Rattle.prl_base.proofs.Standard.{◌≡◌, ◌<◌, ◌≤◌, ℕ, List, [], ◌∷◌, map, length, take, Some, slice_get, slice_index_or, refl, sym, ◌∙◌, ap, subst, arith, length-take-le, length-map}
use Rattle.prl_base.proofs.Standard.{get_or_from_slice_get, slice_get-get_or, slice_get_within}
use Rattle.prl_base.specs.Vocabulary.{IsClock, date_at, IsOperatorFor, Origin, constant, instance, origin_of}
use Rattle.prl_base.specs.declared.operators.Clock.{Clock}
use Rattle.prl_base.specs.declared.operators.Op.{Op}
use Rattle.prl_base.specs.declared.values.Ty.{Ty}
use Rattle.prl_base.specs.declared.values.Value.{Value}
use Rattle.prl_base.specs.declared.operators.Op.TheVariants as operators
use Rattle.prl_body.specs.Vocabulary.{IsWellTyped, body_named, input_types, output_types, register_types, value_expressions, value}
use Rattle.prl_body.specs.declared.bodies.CheckedBody.{CheckedBody}
use Rattle.prl_body.proofs.Sound as sound
use Rattle.prl_flow.specs.Vocabulary.{HaveBodies, nth_step, registers_before, values_at, dates_before, IsDenominated, instance_values, value_from, FlatProgram, IsFlat, IsWellDefined, Rows, rows_of}
use Rattle.prl_flow.specs.Vocabulary.{AgreesClock, AreClocks, HasRows, MeetsDefinition, Solves, argument_flows, clock_of, values_of}
use Rattle.prl_flow.specs.declared.programs.App.{App}
use Rattle.prl_flow.specs.declared.programs.Arg.{Arg}
use Rattle.prl_flow.specs.declared.programs.Def.{Def}
use Rattle.prl_flow.specs.declared.programs.Flow.{Flow}
use Rattle.prl_flow.specs.declared.programs.Def.TheVariants as definitions
use Rattle.prl_flow.proofs.Applied.{length_HaveTypes, values_at_instance}
use Rattle.prl_flow.proofs.ClockDates.{IsUpTo_from_length, OperatorByDate_from_instances, dates_before_number, dates_before_within, value_at_date, value_at_number, value_of_operator_date}
use Rattle.prl_flow.proofs.Lists.{same_from_elements, slice_get_take}
use Rattle.prl_causal.specs.Vocabulary.{HaveTypedBodies, IsFixed, Reads, Table, applied_of, argument_values, nothing, table_of, taken, value_of}
use Rattle.prl_causal.proofs.Earlier.{reads_before, reads_earlier, step_local}

read_at : (flows : List (List Value)) (i n : ℕ) → n < length (values_of flows i) → slice_get (values_of flows i) n ≡ Some (table_of flows i n)
read_at flows i n within = slice_get-get_or (values_of flows i) n nothing within

taken_from : (xs : List Value) (o : Origin) (x : Value) → value_from xs o ≡ Some x → taken (λ m. slice_index_or xs m nothing) o ≡ x
taken_from xs (instance m) x is = get_or_from_slice_get xs m x nothing is
taken_from xs (constant c) x is = cc

from_taken : (xs : List Value) (o : Origin) → ((m : ℕ) → o ≡ instance m → m < length xs) → value_from xs o ≡ Some (taken (λ m. slice_index_or xs m nothing) o)
from_taken xs (instance m) within = slice_get-get_or xs m nothing (within m refl)
from_taken xs (constant c) within = refl

pub denominated : (ty : Ty) (op : Op) → IsOperatorFor ty op → IsDenominated op
denominated ty (operators.Shift q) fits = fits.0
denominated ty op fits = tt

pub applied_is : (apps : List App) (bodies : List CheckedBody) (v : Table) (k n out : ℕ) (app : App) (body : CheckedBody) → slice_get apps k ≡ Some app → body_named bodies app.name ≡ Some body
    → applied_of bodies v (slice_get apps k) n out ≡ slice_index_or (nth_step body (argument_values v app.args) n).outputs out nothing
applied_is apps bodies v k n out app body applied named = rw (applied, named) refl

instance_inputs : (flows : List (List Value)) (args : List Arg) (n : ℕ) → instance_values (map (λ (a : Arg). values_of flows a.flow.0) args) n ≡ argument_values (table_of flows) args n
instance_inputs flows [] n = refl
instance_inputs flows (arg ∷ args) n = ap (λ (xs : List Value). table_of flows arg.flow.0 n ∷ xs) (instance_inputs flows args n)

pub inputs_are : (c : Clock) (flows : List (List Value)) (app : App) (n : ℕ) → IsClock c → values_at c (argument_flows flows app) n ≡ argument_values (table_of flows) app.args n
inputs_are c flows app n clock = values_at_instance c (argument_flows flows app) n clock ∙ instance_inputs flows app.args n

-- a well-typed body has an output of each step for each output of the import
pub outputs_count : (body : CheckedBody) (inputs : ℕ → List Value) (n : ℕ) → IsWellTyped body → length (nth_step body inputs n).outputs ≡ length (output_types body)
outputs_count body inputs n well =
    length-map (value_expressions body) (value (inputs n) (registers_before body inputs n))
    ∙ sound.length_HaveTypes (input_types body) (register_types body) (value_expressions body) (output_types body) well.outputs

module _ (p : FlatProgram) (flat : IsFlat p) (clocks : List Clock) (agree : AreClocks p clocks) (bodies : List CheckedBody) (rows : Rows) (until : ℕ) where
  clock_there : (i : ℕ) → i < length p.flows → IsClock (clock_of clocks i)
  clock_there i within = agree.clock i (omega (arith, agree.count))

  module _ (flows : List (List Value)) (h : Solves p clocks bodies rows until flows) where
    read_before : (i n : ℕ) → i < length p.flows → date_at (clock_of clocks i) n < until → n < length (values_of flows i)
    read_before i n within before = (h.up_to i (omega (arith, h.count)) n).1 before

    fixed_by : (i : ℕ) (flow : Flow) (def : Def) → slice_get p.flows i ≡ Some flow → IsWellDefined p i flow.ty def → AgreesClock clocks (clock_of clocks i) def
        → MeetsDefinition p clocks bodies rows until flows (clock_of clocks i) (values_of flows i) def
        → (n : ℕ) → date_at (clock_of clocks i) n < until → table_of flows i n ≡ value_of p bodies rows (table_of flows) def n
    fixed_by i flow (definitions.Sensor k) found defined agrees meets n before =
        let within = read_before i n (slice_get_within p.flows i flow found) before in
        let row : slice_get (rows_of rows k) n ≡ Some (table_of flows i n) =
        sym (slice_get_take (length (values_of flows i)) (rows_of rows k) n within) ∙ ap (λ (xs : List Value). slice_get xs n) (sym meets) ∙ read_at flows i n within in
        sym (get_or_from_slice_get (rows_of rows k) n (table_of flows i n) nothing row)
    fixed_by i flow (definitions.Copy of) found defined agrees meets n before = ap (λ (xs : List Value). slice_index_or xs n nothing) meets
    fixed_by i flow (definitions.Const c) found defined agrees meets n before =
        let clock = clock_there i (slice_get_within p.flows i flow found) in
        get_or_from_slice_get (values_of flows i) n c nothing
        (sym (value_at_date (clock_of clocks i) (values_of flows i) n clock) ∙ meets (date_at (clock_of clocks i) n) (n, refl) before)
    fixed_by i flow (definitions.Apply k out) found defined agrees meets n before =
        let clock = clock_there i (slice_get_within p.flows i flow found) in
        let step = step_local meets.body (values_at (clock_of clocks i) (argument_flows flows meets.app)) (argument_values (table_of flows) meets.app.args) n
        (λ m le. inputs_are (clock_of clocks i) flows meets.app m clock) in
        let within = read_before i n (slice_get_within p.flows i flow found) before in
        let output : slice_get (nth_step meets.body (argument_values (table_of flows) meets.app.args) n).outputs out ≡ Some (table_of flows i n) =
        ap (λ s. slice_get s.outputs out) (sym step) ∙ sym (meets.each n before) ∙ value_at_date (clock_of clocks i) (values_of flows i) n clock ∙ read_at flows i n within in
        sym (get_or_from_slice_get (nth_step meets.body (argument_values (table_of flows) meets.app.args) n).outputs out (table_of flows i n) nothing output)
        ∙ sym (applied_is p.apps bodies (table_of flows) k n out meets.app meets.body meets.applied meets.named)
    fixed_by i flow (definitions.Op op of) found (typed, fits) agrees meets n before =
        let i_within = slice_get_within p.flows i flow found in
        let of_within : of.0 < length p.flows = slice_get_within p.flows of.0 typed.0 typed.1 in
        let x = clock_of clocks of.0 in
        let xs : List Value = values_of flows of.0 in
        let is : value_from xs (origin_of op n) ≡ Some (table_of flows i n) =
        sym (value_of_operator_date op x xs (clock_of clocks i) n (clock_there of.0 of_within) (clock_there i i_within) agrees (denominated flow.ty op fits))
        ∙ sym (meets.each (date_at (clock_of clocks i) n) (n, refl) before)
        ∙ value_at_date (clock_of clocks i) (values_of flows i) n (clock_there i i_within) ∙ read_at flows i n (read_before i n i_within before) in
        sym (taken_from xs (origin_of op n) (table_of flows i n) is)

    -- the table of a solution is fixed
    pub fixed_from_solves : IsFixed p clocks bodies rows until (table_of flows)
    fixed_from_solves i flow found n before =
        fixed_by i flow flow.def found (flat.flows i flow found) (agree.agree i flow found) (h.meets i flow found) n before

  module _ (have : HaveBodies p bodies) (typed_bodies : HaveTypedBodies p bodies) (has_rows : HasRows p clocks rows until)
      (flows : List (List Value)) (count : length flows ≡ length p.flows)
      (lengths : (i : ℕ) → i < length p.flows → length (values_of flows i) ≡ dates_before until (clock_of clocks i))
      (fixed : IsFixed p clocks bodies rows until (table_of flows)) where
    before_end : (i n : ℕ) → i < length p.flows → n < length (values_of flows i) → date_at (clock_of clocks i) n < until
    before_end i n within below = (dates_before_number until (clock_of clocks i) n (clock_there i within)).0 (omega (arith, below, lengths i within))

    within_list : (i n : ℕ) → i < length p.flows → date_at (clock_of clocks i) n < until → n < length (values_of flows i)
    within_list i n within before = omega (arith, (dates_before_number until (clock_of clocks i) n (clock_there i within)).1 before, lengths i within)

    element_is : (i n : ℕ) (flow : Flow) → slice_get p.flows i ≡ Some flow → n < length (values_of flows i)
        → slice_get (values_of flows i) n ≡ Some (value_of p bodies rows (table_of flows) flow.def n)
    element_is i n flow found below =
        read_at flows i n below ∙ ap Some (fixed i flow found n (before_end i n (slice_get_within p.flows i flow found) below))

    meets_by : (i : ℕ) (flow : Flow) (def : Def) → slice_get p.flows i ≡ Some flow → IsWellDefined p i flow.ty def → AgreesClock clocks (clock_of clocks i) def
        → ((n : ℕ) → n < length (values_of flows i) → slice_get (values_of flows i) n ≡ Some (value_of p bodies rows (table_of flows) def n))
        → flow.def ≡ def
        → MeetsDefinition p clocks bodies rows until flows (clock_of clocks i) (values_of flows i) def
    meets_by i flow (definitions.Sensor k) found defined agrees each is =
        let i_within = slice_get_within p.flows i flow found in
        let enough : dates_before until (clock_of clocks i) ≤ length (rows_of rows k) =
        dates_before_within until (clock_of clocks i) (length (rows_of rows k)) (clock_there i i_within) (λ n before. has_rows k (record { 0 = i }) defined n before) in
        let long : length (values_of flows i) ≤ length (rows_of rows k) = omega (arith, enough, lengths i i_within) in
        same_from_elements (values_of flows i) (take (length (values_of flows i)) (rows_of rows k)) (sym (length-take-le (length (values_of flows i)) (rows_of rows k) long)) (λ n below.
        each n below ∙ sym (slice_get-get_or (rows_of rows k) n nothing (omega (arith, below, long))) ∙ sym (slice_get_take (length (values_of flows i)) (rows_of rows k) n below))
    meets_by i flow (definitions.Copy of) found defined agrees each is =
        let i_within = slice_get_within p.flows i flow found in
        let of_within : of.0 < length p.flows = slice_get_within p.flows of.0 defined.0 defined.1 in
        let same : length (values_of flows i) ≡ length (values_of flows of.0) = lengths i i_within ∙ ap (dates_before until) agrees ∙ sym (lengths of.0 of_within) in
        same_from_elements (values_of flows i) (values_of flows of.0) same (λ n below. each n below ∙ sym (read_at flows of.0 n (omega (arith, below, same))))
    meets_by i flow (definitions.Const c) found defined agrees each is = λ t (k, same) before.
        let i_within = slice_get_within p.flows i flow found in
        value_at_number (clock_of clocks i) (values_of flows i) t k (clock_there i i_within) same ∙ each k (within_list i k i_within (subst (λ d. d < until) same before))
    meets_by i flow (definitions.Apply k out) found (a, applied, output) agrees each is =
        let b = have k a applied in
        let i_within = slice_get_within p.flows i flow found in
        let clock = clock_there i i_within in
        let out_within : out < length a.outs = slice_get_within a.outs out (record { 0 = i }) output in
        record {
          app = a;
          body = b.body;
          applied = applied;
          named = b.named;
          each = λ n before.
              let inputs = argument_values (table_of flows) a.args in
              let many = outputs_count b.body inputs n (typed_bodies k a b.body applied b.named) in
              let short : out < length (nth_step b.body inputs n).outputs = omega (arith, out_within, many, length_HaveTypes p a.outs (output_types b.body) b.fits.outputs) in
              let step = step_local b.body (values_at (clock_of clocks i) (argument_flows flows a)) inputs n (λ m le. inputs_are (clock_of clocks i) flows a m clock) in
              value_at_date (clock_of clocks i) (values_of flows i) n clock
              ∙ each n (within_list i n i_within before)
              ∙ ap Some (applied_is p.apps bodies (table_of flows) k n out a b.body applied b.named)
              ∙ sym (slice_get-get_or (nth_step b.body inputs n).outputs out nothing short)
              ∙ ap (λ s. slice_get s.outputs out) (sym step);
        }
    meets_by i flow (definitions.Op op of) found (typed, fits) agrees each is =
        let i_within = slice_get_within p.flows i flow found in
        let of_within : of.0 < length p.flows = slice_get_within p.flows of.0 typed.0 typed.1 in
        let xs : List Value = values_of flows of.0 in
        OperatorByDate_from_instances op (clock_of clocks of.0) xs (clock_of clocks i) (values_of flows i) until (clock_there of.0 of_within) (clock_there i i_within) agrees (denominated flow.ty op fits)
        (record {
          number = lengths i i_within;
          each = λ n below.
              let here : n < length (values_of flows i) = omega (arith, below, lengths i i_within) in
              each n here ∙ sym (from_taken xs (origin_of op n) (λ m origin.
              let earlier = (reads_earlier p flat clocks agree i flow found n of.0 m (subst (λ (d : Def). Reads p d n of.0 m) (sym is) (refl, origin))).1 in
              within_list of.0 m of_within (reads_before p flat clocks agree until i n of.0 m earlier (before_end i n i_within here))));
        })

    -- long enough lists of a fixed table are a solution
    pub solves_from_fixed : Solves p clocks bodies rows until flows
    solves_from_fixed = record {
      count = count;
      up_to = λ i within. IsUpTo_from_length until (clock_of clocks i) (values_of flows i) (clock_there i (omega (arith, within, count))) (lengths i (omega (arith, within, count)));
      meets = λ i flow found. meets_by i flow flow.def found (flat.flows i flow found) (agree.agree i flow found) (λ n below. element_is i n flow found below) refl;
    }

-- Main's inputs and outputs: how many there are, their names, types and needs one by one, and what is known of their rows.
use Rattle.prl_base.proofs.Standard.{◌≡◌, ℕ, ◌+◌, ◌<◌, ◌≤◌, List, [], ◌∷◌, ◌++◌, length, map, take, Some, Ok, sym, ap, ◌∙◌, arith, slice_get, option_map, length-map, map_more, get_or_from_slice_get}
use Rattle.prl_base.proofs.Standard.{slice_get-map, slice_get_within}
use Rattle.std.proofs.lemmas.List.{length-append}
use Rattle.prl_base.specs.Clocks.{IsClock}
use Rattle.prl_base.specs.declared.numbers.FlowNo.{FlowNo}
use Rattle.prl_base.specs.declared.operators.Clock.{Clock}
use Rattle.prl_base.specs.declared.values.Ty.{Ty}
use Rattle.prl_base.specs.declared.values.Ty.TheVariants as types
use Rattle.prl_ast.specs.Trees.{ProgramTree}
use Rattle.prl_causal.specs.Annotations.{Entered, entered, flows_in, right_flows}
use Rattle.prl_causal.specs.Asked.{inputs_of as entered_inputs, outputs_of as entered_outputs}
use Rattle.prl_expand.specs.Vocabulary.{flow_no, IsExpanded}
use Rattle.prl_flow.specs.Vocabulary.{dates_before, Device, FlatProgram, IsFlat, Rows, AreClocks, HasRows, clock_of}
use Rattle.prl_flow.proofs.ClockDates.{dates_before_number}
use Rattle.prl_sensors.specs.Facts.{AreRowsFor}
use Rattle.prl_sensors.specs.SensorRows.{Inputs, sensors_of}
use Rattle.prl_causal.specs.Conditions.{AreTypedRows}
use Rattle.prl_stages.specs.Runs.{inputs_of, needs_of, type_of_flow}

-- the variables of a node are no more than all flows
within : {F R N : Type 0} (e : Entered F R N) → (length (entered_inputs e) ≤ length (flows_in e)) × (length (entered_outputs e) ≤ length (flows_in e))
within (entered ins outs locals rights) =
    let a = length-append ins outs in
    let b = length-append (ins ++ outs) locals in
    let c = length-append ((ins ++ outs) ++ locals) (right_flows rights) in (omega (arith, a, b, c), omega (arith, a, b, c))

few_of : (all : ℕ) (marked : List ℕ) (flows : List FlowNo) → all ≤ 4096 → length marked ≤ all → flows ≡ map flow_no marked → length flows ≤ 4096
few_of all marked flows few inside is =
    let count : length flows ≡ length marked = ap length is ∙ length-map marked flow_no in
    omega (arith, few, inside, count)

pub few_outputs : (p : ProgramTree) (main : ℕ) (tys : List Ty) (flat : FlatProgram) → IsExpanded p main tys flat → length flat.outs ≤ 4096
few_outputs p main tys flat x =
    few_of (length (flows_in x.expansion)) (entered_outputs x.expansion) flat.outs x.few (within x.expansion).1 (ap (λ (f : FlatProgram). f.outs) x.flat_is)

abbrev no_flow : FlowNo
no_flow = record { 0 = 0 }

module _ (p : FlatProgram) (clocks : List Clock) (until : ℕ) where
  abbrev type_at : FlowNo → Ty
  type_at flow = type_of_flow (slice_get p.flows flow.0)

  abbrev need_at : FlowNo → ℕ
  need_at flow = dates_before until (clock_of clocks flow.0)

  pub one_type : (k : ℕ) (flow : FlowNo) → slice_get p.ins k ≡ Some flow → map type_at (take (k + 1) p.ins) ≡ map type_at (take k p.ins) ++ type_at flow ∷ []
  one_type k flow found =
      map_more type_at p.ins k no_flow (slice_get_within p.ins k flow found)
      ∙ ap (λ (f : FlowNo). map type_at (take k p.ins) ++ type_at f ∷ []) (get_or_from_slice_get p.ins k flow no_flow found)

  pub one_need : (k : ℕ) (flow : FlowNo) → slice_get p.ins k ≡ Some flow → map need_at (take (k + 1) p.ins) ≡ map need_at (take k p.ins) ++ need_at flow ∷ []
  one_need k flow found =
      map_more need_at p.ins k no_flow (slice_get_within p.ins k flow found)
      ∙ ap (λ (f : FlowNo). map need_at (take k p.ins) ++ need_at f ∷ []) (get_or_from_slice_get p.ins k flow no_flow found)

  module _ (flat : IsFlat p) where
    -- the flow of an input is there
    pub input_within : (k : ℕ) (flow : FlowNo) → slice_get p.ins k ≡ Some flow → flow.0 < length p.flows
    input_within k flow found = let (f, at, is) = flat.ins k flow found in slice_get_within p.flows flow.0 f at

    pub as_many_types : length (inputs_of p).types ≡ length (inputs_of p).names
    as_many_types = length-map p.ins type_at ∙ sym flat.in_count ∙ sym (length-map p.in_devices (λ (d : Device). d.0))

    pub as_many_needs : length (needs_of p clocks until) ≡ length (inputs_of p).names
    as_many_needs = length-map p.ins need_at ∙ sym flat.in_count ∙ sym (length-map p.in_devices (λ (d : Device). d.0))

    module _ (law : (inputs : Inputs) (needs text : List ℕ) (rows : Rows) → length needs ≡ length inputs.names → sensors_of inputs needs text ≡ Ok rows → AreRowsFor inputs needs rows)
        (text : List ℕ) (rows : Rows) (read : sensors_of (inputs_of p) (needs_of p clocks until) text ≡ Ok rows) where
      are : AreRowsFor (inputs_of p) (needs_of p clocks until) rows
      are = law (inputs_of p) (needs_of p clocks until) text rows as_many_needs read

      -- the rows have the types of their flows
      pub typed_rows : AreTypedRows p rows
      typed_rows = λ k flow found n v here.
          let (f, at, is) = flat.ins k flow found in
          let read_type = get_or_from_slice_get (map type_at p.ins) k (type_at flow) types.Int (slice_get-map type_at p.ins k ∙ ap (option_map type_at) found) in
          let ty = (are.types k n v here).0 in
          (f, at, sym (ap type_of_flow at) ∙ sym read_type ∙ sym ty)

      -- and there is one for each date
      pub enough_rows : AreClocks p clocks → HasRows p clocks rows until
      enough_rows of = λ k flow found n before.
          let inside = input_within k flow found in
          let counted = of.count in
          let clock : IsClock (clock_of clocks flow.0) = of.clock flow.0 (omega (arith, inside, counted)) in
          let number = (dates_before_number until (clock_of clocks flow.0) n clock).1 before in
          let enough = are.enough k (need_at flow) (slice_get-map need_at p.ins k ∙ ap (option_map need_at) found) in
          omega (arith, number, enough)

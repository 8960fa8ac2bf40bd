-- The value on an edge.
use Rattle.prl_base.proofs.Standard.{◌≡◌, ◌<◌, ℕ, List, length, slice_get, Option, Some, refl, sym, ◌∙◌, ap, subst, arith, slice_get_within}
use Rattle.prl_base.specs.Vocabulary.{date_at, IsOperatorFor, constant, instance, origin_of}
use Rattle.prl_base.specs.declared.numbers.FlowNo.{FlowNo}
use Rattle.prl_base.specs.declared.operators.Clock.{Clock}
use Rattle.prl_base.specs.declared.operators.Op.{Op}
use Rattle.prl_base.specs.declared.values.Ty.{Ty}
use Rattle.prl_base.specs.declared.values.Value.{Value}
use Rattle.prl_base.specs.declared.operators.Op.TheVariants as operators
use Rattle.prl_body.specs.declared.bodies.CheckedBody.{CheckedBody}
use Rattle.prl_flow.specs.Vocabulary.{OperatorByDate, IsDenominated, value_from, FlatProgram, IsFlat, IsWellDefined, Rows, AgreesClock, AreClocks, MeetsDefinition, Solves, clock_of, values_of}
use Rattle.prl_flow.specs.declared.programs.Def.{Def}
use Rattle.prl_flow.specs.declared.programs.Flow.{Flow}
use Rattle.prl_flow.specs.declared.programs.Def.TheVariants as definitions
use Rattle.prl_flow.proofs.ClockDates.{value_at_date, value_of_operator_date}
use Rattle.prl_flow.proofs.Lists.{element_at}
use Rattle.prl_plan.specs.Operands.{operand_at, operand_from, operand_of, walk}
use Rattle.prl_plan.specs.declared.graphs.Edge.{Edge}
use Rattle.prl_plan.specs.declared.graphs.Producer.{Producer}
use Rattle.prl_plan.specs.declared.walks.Operand.{Operand}
use Rattle.prl_plan.specs.declared.graphs.Producer.TheVariants as producers
use Rattle.prl_plan.specs.declared.walks.Operand.TheVariants as operands
use Rattle.prl_graph.specs.Vocabulary.{IsEdgeOf, IsProducer, LeadsBack, value_of_operand, value_on_date, InputPort}
use Rattle.prl_graph.specs.Edges as ways

-- a value of a list, or the constant
abbrev pub value_by : List Value → Operand → Option Value
value_by values (operands.Const c) = Some c
value_by values (operands.From m) = slice_get values m

denominated : (ty : Ty) (op : Op) → IsOperatorFor ty op → IsDenominated op
denominated ty (operators.Shift q) fits = fits.0
denominated ty _ fits = tt

module _ (p : FlatProgram) (clocks : List Clock) (bodies : List CheckedBody) (rows : Rows) (until : ℕ) (flows : List (List Value))
    (flat : IsFlat p) (are : AreClocks p clocks) (solves : Solves p clocks bodies rows until flows) where
  -- a flow has the values that its definition gives
  pub met : (i : ℕ) (flow : Flow) (def : Def) → slice_get p.flows i ≡ Some flow → flow.def ≡ def
      → MeetsDefinition p clocks bodies rows until flows (clock_of clocks i) (values_of flows i) def
  met i flow def found is = subst (λ d. MeetsDefinition p clocks bodies rows until flows (clock_of clocks i) (values_of flows i) d) is (solves.meets i flow found)

  pub clock_there : (i : ℕ) → i < length p.flows → i < length clocks
  clock_there i below = let count = are.count in omega arith

  -- the value of an operator's instance, from the values of the flow that it stands on
  operator_value : (i n : ℕ) (flow : Flow) (op : Op) (of : FlowNo) → slice_get p.flows i ≡ Some flow → flow.def ≡ definitions.Op op of
      → date_at (clock_of clocks i) n < until → slice_get (values_of flows i) n ≡ value_from (values_of flows of.0) (origin_of op n)
  operator_value i n flow op of found is before =
      let y = clock_of clocks i in
      let x = clock_of clocks of.0 in
      let defined = subst (λ d. IsWellDefined p i flow.ty d) is (flat.flows i flow found) in
      let by_date : OperatorByDate op x (values_of flows of.0) y (values_of flows i) until = met i flow (definitions.Op op of) found is in
      let within = slice_get_within p.flows of.0 defined.0.0 defined.0.1 in
      let y_clock = are.clock i (clock_there i (slice_get_within p.flows i flow found)) in
      sym (value_at_date y (values_of flows i) n y_clock)
      ∙ by_date.each (date_at y n) (n, refl) before
      ∙ value_of_operator_date op x (values_of flows of.0) y n (are.clock of.0 (clock_there of.0 within)) y_clock by_date.clock (denominated flow.ty op defined.1)

  -- what is there has a date before the end
  date_before : (i n : ℕ) (v : Value) → i < length p.flows → slice_get (values_of flows i) n ≡ Some v → date_at (clock_of clocks i) n < until
  date_before i n v below there =
      (solves.up_to i (omega arith) n).0 (slice_get_within (values_of flows i) n v there)

  pub value_there : (i n : ℕ) → i < length p.flows → date_at (clock_of clocks i) n < until → (v : Value) × (slice_get (values_of flows i) n ≡ Some v)
  value_there i n below before =
      element_at (values_of flows i) n ((solves.up_to i (omega arith) n).1 before)

  -- along a way back the values are those of the walk
  pub walked : (i j : ℕ) (ops : List Op) → LeadsBack p i ops j → i < length p.flows → (n : ℕ) → date_at (clock_of clocks i) n < until
      → slice_get (values_of flows i) n ≡ value_by (values_of flows j) (walk ops n)
  walked i j ops (ways.here k) below n before = refl
  walked i j ops (ways.copy k l rest g by at def way) below n before =
      let defined = subst (λ d. IsWellDefined p k g.ty d) def (flat.flows k g at) in
      let agrees = subst (λ d. AgreesClock clocks (clock_of clocks k) d) def (are.agree k g at) in
      let early : date_at (clock_of clocks by.0) n < until = subst (λ c. date_at c n < until) agrees before in
      ap (λ (vs : List Value). slice_get vs n) (met k g (definitions.Copy by) at def) ∙ walked by.0 l rest way (slice_get_within p.flows by.0 defined.0 defined.1) n early
  walked i j ops (ways.operator k l rest g op by at def way) below n before =
      let defined = subst (λ d. IsWellDefined p k g.ty d) def (flat.flows k g at) in
      let within = slice_get_within p.flows by.0 defined.0.0 defined.0.1 in
      let there = value_there k n below before in
      elim (origin_of op n) as (λ o. slice_get (values_of flows k) n ≡ value_from (values_of flows by.0) o → slice_get (values_of flows k) n ≡ value_by (values_of flows l) (operand_at (walk rest) o)) [
        | instance m ↦ λ e. e ∙ walked by.0 l rest way within m (date_before by.0 m there.0 within (sym e ∙ there.1))
        | constant c ↦ λ e. e
      ] (operator_value k n g op by at def before)

  -- what the producer's flow has at an instance is what the operand says
  from_producer : (source m : ℕ) (flow : Flow) (d : Def) (from : Producer) → slice_get p.flows source ≡ Some flow → flow.def ≡ d → IsProducer p d from
      → date_at (clock_of clocks source) m < until
      → slice_get (values_of flows source) m ≡ value_of_operand clocks flows source (operand_from from (operands.From m))
  from_producer source m flow (definitions.Sensor k) from found is produces before =
      subst (λ f. slice_get (values_of flows source) m ≡ value_of_operand clocks flows source (operand_from f (operands.From m))) (sym produces)
      (sym (value_at_date (clock_of clocks source) (values_of flows source) m (are.clock source (clock_there source (slice_get_within p.flows source flow found)))))
  from_producer source m flow (definitions.Copy of) from found is produces before = absurd produces
  from_producer source m flow (definitions.Const v) from found is produces before =
      let clock = are.clock source (clock_there source (slice_get_within p.flows source flow found)) in
      let constant_at = met source flow (definitions.Const v) found is in
      subst (λ f. slice_get (values_of flows source) m ≡ value_of_operand clocks flows source (operand_from f (operands.From m))) (sym produces)
      (sym (value_at_date (clock_of clocks source) (values_of flows source) m clock) ∙ constant_at (date_at (clock_of clocks source) m) (m, refl) before)
  from_producer source m flow (definitions.Apply app out) from found is produces before =
      subst (λ f. slice_get (values_of flows source) m ≡ value_of_operand clocks flows source (operand_from f (operands.From m))) (sym produces)
      (sym (value_at_date (clock_of clocks source) (values_of flows source) m (are.clock source (clock_there source (slice_get_within p.flows source flow found)))))
  from_producer source m flow (definitions.Op op of) from found is produces before = absurd produces

  constant_operand : (from : Producer) (c : Value) (source : ℕ) → value_of_operand clocks flows source (operand_from from (operands.Const c)) ≡ Some c
  constant_operand (producers.Port task out) c source = refl
  constant_operand (producers.Constant v) c source = refl

  -- the value at the date of a job is that of its operand
  pub on_edge : (port : InputPort) (edge : Edge) (of : IsEdgeOf p clocks port edge) (n : ℕ) → port.flow < length p.flows → date_at (clock_of clocks port.flow) n < until
      → value_on_date clocks flows port.flow n ≡ value_of_operand clocks flows of.source (operand_of edge n)
  on_edge port edge of n below before =
      let source = of.source in
      let by_walk = walked port.flow source edge.ops of.leads below n before in
      let there = value_there port.flow n below before in
      let within = slice_get_within p.flows source of.flow of.found in
      value_at_date (clock_of clocks port.flow) (values_of flows port.flow) n (are.clock port.flow (clock_there port.flow below))
      ∙ by_walk
      ∙ elim (walk edge.ops n) as (λ o. slice_get (values_of flows port.flow) n ≡ value_by (values_of flows source) o → value_by (values_of flows source) o ≡ value_of_operand clocks flows source (operand_from edge.from o)) [
        | operands.Const c ↦ λ e. sym (constant_operand edge.from c source)
        | operands.From m ↦ λ e. from_producer source m of.flow of.flow.def edge.from of.found refl of.from (date_before source m there.0 within (sym e ∙ there.1))
      ] by_walk

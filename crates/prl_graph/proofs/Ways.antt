-- Along a way back clocks and types agree.
use Rattle.prl_base.proofs.Standard.{◌≡◌, ◌<◌, ℕ, zero, suc, List, length, slice_get, Some, refl, sym, ◌∙◌, ap, subst, arith, slice_get_within, slice_get-get_or}
use Rattle.prl_base.specs.Operators.{IsOperatorFor}
use Rattle.prl_base.specs.declared.operators.Clock.{Clock}
use Rattle.prl_base.specs.declared.operators.Op.{Op}
use Rattle.prl_base.specs.declared.values.Ty.{Ty}
use Rattle.prl_flow.specs.Vocabulary.{FlatProgram, IsFlat, IsWellDefined, AgreesClock, AreClocks, clock_of}
use Rattle.prl_flow.specs.declared.programs.Flow.{Flow}
use Rattle.prl_plan.specs.Graphs.{TakeClock}
use Rattle.prl_graph.specs.Vocabulary.{LeadsBack, IsCommonMultiple}
use Rattle.prl_graph.specs.Edges as ways

module _ (p : FlatProgram) (clocks : List Clock) (flat : IsFlat p) (are : AreClocks p clocks) where
  pub clock_found : (i : ℕ) → i < length p.flows → slice_get clocks i ≡ Some (clock_of clocks i)
  clock_found i below = let count = are.count in slice_get-get_or clocks i (record { period = 1; start = 0 }) (omega arith)

  -- the operators take the clock of the flow at the end to that of the flow at the start
  pub takes_clock : (hyper : ℕ) → IsCommonMultiple clocks hyper → (i j : ℕ) (ops : List Op) → LeadsBack p i ops j → i < length p.flows
      → TakeClock hyper ops (clock_of clocks j) (clock_of clocks i)
  takes_clock hyper multiple i j ops (ways.here k) below =
      (are.clock k (omega arith), multiple k (clock_of clocks k) (clock_found k below), refl)
  takes_clock hyper multiple i j ops (ways.copy k l rest g by at def way) below =
      let defined = subst (λ d. IsWellDefined p k g.ty d) def (flat.flows k g at) in
      let agrees = subst (λ d. AgreesClock clocks (clock_of clocks k) d) def (are.agree k g at) in
      subst (λ c. TakeClock hyper rest (clock_of clocks l) c) (sym agrees) (takes_clock hyper multiple by.0 l rest way (slice_get_within p.flows by.0 defined.0 defined.1))
  takes_clock hyper multiple i j ops (ways.operator k l rest g op by at def way) below =
      let defined = subst (λ d. IsWellDefined p k g.ty d) def (flat.flows k g at) in
      let agrees = subst (λ d. AgreesClock clocks (clock_of clocks k) d) def (are.agree k g at) in (
        are.clock k (omega arith),
        multiple k (clock_of clocks k) (clock_found k below),
        (clock_of clocks by.0, agrees, takes_clock hyper multiple by.0 l rest way (slice_get_within p.flows by.0 defined.0.0 defined.0.1)),
      )

-- all flows of a way have one type
pub same_flow : (p : FlatProgram) (i : ℕ) (f g : Flow) → slice_get p.flows i ≡ Some f → slice_get p.flows i ≡ Some g → f ≡ g
same_flow p i f g a b = (let e : Some f ≡ Some g = sym a ∙ b in cc)

pub one_type : (p : FlatProgram) → IsFlat p → (i j : ℕ) (ops : List Op) → LeadsBack p i ops j → (f g : Flow) → slice_get p.flows i ≡ Some f → slice_get p.flows j ≡ Some g → f.ty ≡ g.ty
one_type p flat i j ops (ways.here k) f g at there = ap (λ (x : Flow). x.ty) (same_flow p k f g at there)
one_type p flat i j ops (ways.copy k l rest h by found def way) f g at there =
    let defined = subst (λ d. IsWellDefined p k h.ty d) def (flat.flows k h found) in
    ap (λ (x : Flow). x.ty) (same_flow p k f h at found) ∙ sym defined.2 ∙ one_type p flat by.0 l rest way defined.0 g defined.1 there
one_type p flat i j ops (ways.operator k l rest h op by found def way) f g at there =
    let defined = subst (λ d. IsWellDefined p k h.ty d) def (flat.flows k h found) in
    ap (λ (x : Flow). x.ty) (same_flow p k f h at found) ∙ sym defined.0.2 ∙ one_type p flat by.0 l rest way defined.0.0 g defined.0.1 there

-- the operators of a way are in their ranges
pub operators_fit : (p : FlatProgram) → IsFlat p → (i j : ℕ) (ops : List Op) → LeadsBack p i ops j → (ty : Ty) → ((f : Flow) → slice_get p.flows i ≡ Some f → f.ty ≡ ty)
    → (m : ℕ) (op : Op) → slice_get ops m ≡ Some op → IsOperatorFor ty op
operators_fit p flat i j ops (ways.here k) ty typed m op at = cc
operators_fit p flat i j ops (ways.copy k l rest h by found def way) ty typed m op at =
    let defined = subst (λ d. IsWellDefined p k h.ty d) def (flat.flows k h found) in
    operators_fit p flat by.0 l rest way ty
    (λ f there. ap (λ (x : Flow). x.ty) (same_flow p by.0 f defined.0 there defined.1) ∙ defined.2 ∙ typed h found) m op at
operators_fit p flat i j ops (ways.operator k l rest h first by found def way) ty typed zero op at =
    let same : first ≡ op = cc in
    subst (λ o. IsOperatorFor ty o) same (subst (λ t. IsOperatorFor t first) (typed h found) (subst (λ d. IsWellDefined p k h.ty d) def (flat.flows k h found)).1)
operators_fit p flat i j ops (ways.operator k l rest h first by found def way) ty typed (suc m) op at =
    let defined = subst (λ d. IsWellDefined p k h.ty d) def (flat.flows k h found) in
    operators_fit p flat by.0 l rest way ty
    (λ f there. ap (λ (x : Flow). x.ty) (same_flow p by.0 f defined.0.0 there defined.0.1) ∙ defined.0.2 ∙ typed h found) m op at

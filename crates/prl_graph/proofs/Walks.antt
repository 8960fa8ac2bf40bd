-- Ways back in a program without a cycle: their steps are fewer than its flows.
use Rattle.prl_base.proofs.Standard.{◌≡◌, ◌<◌, ◌≤◌, ◌+◌, ◌⊎◌, ℕ, Bool, true, false, List, [], ◌∷◌, ◌++◌, length, set, get_or, replicate, slice_get, Some, refl, sym, ◌∙◌, ap, subst, arith, inl, inr}
use Rattle.prl_base.proofs.Standard.{⊎_elim, length-set, false≢true, slice_get_within}
use Rattle.prl_base.specs.declared.numbers.FlowNo.{FlowNo}
use Rattle.prl_base.specs.declared.operators.Op.{Op}
use Rattle.prl_flow.specs.Vocabulary.{FlatProgram, IsFlat, IsWellDefined, HasNoCycle, Leads, NamesInside, UsesInside, once, then}
use Rattle.prl_flow.specs.declared.programs.Def.{Def}
use Rattle.prl_flow.specs.declared.programs.Flow.{Flow}
use Rattle.prl_flow.specs.declared.programs.Def.TheVariants as definitions
use Rattle.prl_graph.specs.Vocabulary.{IsMarked, IsProducer, HasProducer, StepsBack, LeadsBack}
use Rattle.prl_plan.specs.declared.graphs.Producer.{Producer}
use Rattle.prl_graph.specs.code.Steps as steps
use Rattle.prl_graph.specs.Edges as ways
use Rattle.prl_graph.proofs.Lists.{clear_at, clear_count, clear_length, count_most, mark_cases, mark_counted, marked_count}

-- one step more
pub one_copy : (p : FlatProgram) (n i j : ℕ) (ops : List Op) (flow : Flow) (of : FlowNo) → StepsBack p n i ops j
    → slice_get p.flows j ≡ Some flow → flow.def ≡ definitions.Copy of → StepsBack p (n + 1) i ops of.0
one_copy p n i j ops flow of (steps.none k) found is = steps.copy 0 k of.0 [] flow of found is (steps.none of.0)
one_copy p n i j ops flow of (steps.copy m k l rest g by at def way) found is =
    steps.copy (m + 1) k of.0 rest g by at def (one_copy p m by.0 l rest flow of way found is)
one_copy p n i j ops flow of (steps.operator m k l rest g op by at def way) found is =
    steps.operator (m + 1) k of.0 rest g op by at def (one_copy p m by.0 l rest flow of way found is)

pub one_operator : (p : FlatProgram) (n i j : ℕ) (ops : List Op) (flow : Flow) (op : Op) (of : FlowNo) → StepsBack p n i ops j
    → slice_get p.flows j ≡ Some flow → flow.def ≡ definitions.Op op of → StepsBack p (n + 1) i (ops ++ op ∷ []) of.0
one_operator p n i j ops flow op of (steps.none k) found is = steps.operator 0 k of.0 [] flow op of found is (steps.none of.0)
one_operator p n i j ops flow op of (steps.copy m k l rest g by at def way) found is =
    steps.copy (m + 1) k of.0 (rest ++ op ∷ []) g by at def (one_operator p m by.0 l rest flow op of way found is)
one_operator p n i j ops flow op of (steps.operator m k l rest g first by at def way) found is =
    steps.operator (m + 1) k of.0 (rest ++ op ∷ []) g first by at def (one_operator p m by.0 l rest flow op of way found is)

-- steps are a way, and a way has steps
pub way_of : (p : FlatProgram) (n i j : ℕ) (ops : List Op) → StepsBack p n i ops j → LeadsBack p i ops j
way_of p n i j ops (steps.none k) = ways.here k
way_of p n i j ops (steps.copy m k l rest g by at def way) = ways.copy k l rest g by at def (way_of p m by.0 l rest way)
way_of p n i j ops (steps.operator m k l rest g op by at def way) = ways.operator k l rest g op by at def (way_of p m by.0 l rest way)

pub steps_of : (p : FlatProgram) (i j : ℕ) (ops : List Op) → LeadsBack p i ops j → (n : ℕ) × StepsBack p n i ops j
steps_of p i j ops (ways.here k) = (0, steps.none k)
steps_of p i j ops (ways.copy k l rest g by at def way) =
    let more = steps_of p by.0 l rest way in (more.0 + 1, steps.copy more.0 k l rest g by at def more.1)
steps_of p i j ops (ways.operator k l rest g op by at def way) =
    let more = steps_of p by.0 l rest way in (more.0 + 1, steps.operator more.0 k l rest g op by at def more.1)

-- an operator takes a step
pub few_operators : (p : FlatProgram) (n i j : ℕ) (ops : List Op) → StepsBack p n i ops j → length ops ≤ n
few_operators p n i j ops (steps.none k) = omega arith
few_operators p n i j ops (steps.copy m k l rest g by at def way) = let fewer = few_operators p m by.0 l rest way in omega arith
few_operators p n i j ops (steps.operator m k l rest g op by at def way) = let fewer = few_operators p m by.0 l rest way in omega arith

-- the flow at the end is there, where the one at the start is
pub end_within : (p : FlatProgram) → IsFlat p → (i j : ℕ) (ops : List Op) → LeadsBack p i ops j → i < length p.flows → j < length p.flows
end_within p flat i j ops (ways.here k) below = below
end_within p flat i j ops (ways.copy k l rest g by at def way) below =
    let is = subst (λ d. IsWellDefined p k g.ty d) def (flat.flows k g at) in
    end_within p flat by.0 l rest way (slice_get_within p.flows by.0 is.0 is.1)
end_within p flat i j ops (ways.operator k l rest g op by at def way) below =
    let is = subst (λ d. IsWellDefined p k g.ty d) def (flat.flows k g at) in
    end_within p flat by.0 l rest way (slice_get_within p.flows by.0 is.0.0 is.0.1)

-- the flows of a way are marked, each once
record AreVisited (p : FlatProgram) (n i : ℕ) (marks : List Bool) : Type 0 where
  len : length marks ≡ length p.flows
  count : marked_count marks ≡ n + 1
  reached : (m : ℕ) → IsMarked marks m → (i ≡ m) ⊎ Leads (UsesInside p) i m

use_inside : (p : FlatProgram) (i : ℕ) (flow : Flow) (d : Def) (j : ℕ) → slice_get p.flows i ≡ Some flow → flow.def ≡ d → NamesInside d j → UsesInside p i j
use_inside p i flow d j found is names = record { flow = flow; found = found; names = subst (λ x. NamesInside x j) (sym is) names }

-- what the used flow reaches, the flow that uses it reaches
led : (p : FlatProgram) (i j m : ℕ) → UsesInside p i j → (j ≡ m) ⊎ Leads (UsesInside p) j m → Leads (UsesInside p) i m
led p i j m uses way = ⊎_elim (λ same. subst (λ x. Leads (UsesInside p) i x) same (once i j uses)) (λ more. then i j m uses more) way

begun : (p : FlatProgram) (i : ℕ) → i < length p.flows → (marks : List Bool) × AreVisited p 0 i marks
begun p i below =
    let n = length p.flows in
    let clear : List Bool = replicate n false in
    let len : length clear ≡ n = clear_length n in
    let there : i < length clear = omega (arith, len) in
    let none : (m : ℕ) → IsMarked clear m → ⊥ = λ m h. false≢true (sym (clear_at n m) ∙ h) in (
      set clear i true,
      record {
        len = length-set clear i true ∙ len;
        count = mark_counted clear i there (clear_at n i) ∙ ap (λ k. k + 1) (clear_count n);
        reached = λ m h. ⊎_elim (λ same. inl (sym same)) (λ old. absurd (none m old)) (mark_cases clear i m h);
      },
    )

visited_one : (p : FlatProgram) → HasNoCycle p → (n i j : ℕ) → i < length p.flows → UsesInside p i j → (marks : List Bool) → AreVisited p n j marks
    → (more : List Bool) × AreVisited p (n + 1) i more
visited_one p causal n i j below uses marks are =
    let there : i < length marks = omega (arith, are.len) in
    let not_yet : IsMarked marks i → ⊥ = λ h. causal i (inr (led p i j i uses (are.reached i h))) in
    let clear : get_or marks i false ≡ false =
    elim (get_or marks i false) as (λ b. get_or marks i false ≡ b → b ≡ false) [
      | true ↦ λ e. absurd (not_yet e)
      | false ↦ λ e. refl
    ] refl in (
      set marks i true,
      record {
        len = length-set marks i true ∙ are.len;
        count = mark_counted marks i there clear ∙ ap (λ k. k + 1) are.count;
        reached = λ m h. ⊎_elim (λ same. inl (sym same)) (λ old. inr (led p i j m uses (are.reached m old))) (mark_cases marks i m h);
      },
    )

visited : (p : FlatProgram) → HasNoCycle p → (n i j : ℕ) (ops : List Op) → StepsBack p n i ops j → j < length p.flows → (marks : List Bool) × AreVisited p n i marks
visited p causal n i j ops (steps.none k) below = begun p k below
visited p causal n i j ops (steps.copy m k l rest g by at def way) below =
    let before = visited p causal m by.0 l rest way below in
    visited_one p causal m k by.0 (slice_get_within p.flows k g at) (use_inside p k g (definitions.Copy by) by.0 at def refl) before.0 before.1
visited p causal n i j ops (steps.operator m k l rest g op by at def way) below =
    let before = visited p causal m by.0 l rest way below in
    visited_one p causal m k by.0 (slice_get_within p.flows k g at) (use_inside p k g (definitions.Op op by) by.0 at def refl) before.0 before.1

-- a way takes fewer steps than there are flows
pub few_steps : (p : FlatProgram) → HasNoCycle p → (n i j : ℕ) (ops : List Op) → StepsBack p n i ops j → j < length p.flows → n < length p.flows
few_steps p causal n i j ops way below =
    let all = visited p causal n i j ops way below in
    let most = count_most all.0 in
    let len = all.1.len in
    let count = all.1.count in
    omega arith

-- the flow that a definition is of is there
pub copied_within : (p : FlatProgram) → IsFlat p → (i : ℕ) (flow : Flow) (of : FlowNo) → slice_get p.flows i ≡ Some flow → flow.def ≡ definitions.Copy of → of.0 < length p.flows
copied_within p flat i flow of found is =
    let defined = subst (λ d. IsWellDefined p i flow.ty d) is (flat.flows i flow found) in slice_get_within p.flows of.0 defined.0 defined.1

pub operand_within : (p : FlatProgram) → IsFlat p → (i : ℕ) (flow : Flow) (op : Op) (of : FlowNo) → slice_get p.flows i ≡ Some flow → flow.def ≡ definitions.Op op of → of.0 < length p.flows
operand_within p flat i flow op of found is =
    let defined = subst (λ d. IsWellDefined p i flow.ty d) is (flat.flows i flow found) in slice_get_within p.flows of.0 defined.0.0 defined.0.1

-- a flow that is made of no other has what gives its values
pub produced_by : (p : FlatProgram) (i : ℕ) (flow : Flow) (d : Def) (from : Producer) → slice_get p.flows i ≡ Some flow → flow.def ≡ d → IsProducer p d from → HasProducer p i
produced_by p i flow d from found is produces = (from, record { flow = flow; found = found; produces = subst (λ x. IsProducer p x from) (sym is) produces })

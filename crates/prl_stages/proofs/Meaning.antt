-- What a program computes is its one behaviour.
use Rattle.prl_base.proofs.Standard.{◌≡◌, ℕ, List, Option, map, sym, ap, ◌∙◌, subst, All-from_recursion}
use Rattle.prl_base.specs.Clocks.{IsClock}
use Rattle.prl_base.specs.declared.operators.Clock.{Clock}
use Rattle.prl_base.specs.declared.values.Ty.{Ty}
use Rattle.prl_base.specs.declared.values.Value.{Value}
use Rattle.prl_ast.specs.Trees.{ProgramTree}
use Rattle.prl_causal.specs.Vocabulary.{Entered, flows_in, imports_in, outputs_of, Behaviour, Satisfies, behaviour_of, state_in, IsText, node_at}
use Rattle.prl_body.specs.declared.bodies.CheckedBody.{CheckedBody}
use Rattle.prl_clock.specs.Outcomes.{AreOnlyClocks}
use Rattle.prl_evaluation.specs.Evaluations.{AreSolution}
use Rattle.prl_expand.specs.Vocabulary.{IsOneToOne, AreCounted, Expansion, IsExpansion, flat_of, flow_no, IsExpanded}
use Rattle.prl_flow.specs.Vocabulary.{AreUpTo, IsUpTo, FlatProgram, IsFlat, Rows, IsSolution, IsTimed, State, flow_at}
use Rattle.prl_flow.specs.declared.programs.OutFlow.{OutFlow}
use Rattle.prl_causal.specs.Vocabulary.{clocks_in, values_in, ExactlyOne}
use Rattle.prl_types.specs.Typing.{IsTyped}
use Rattle.prl_stages.specs.Runs.{named_flows}
use Rattle.prl_stages.specs.code.Runnings.{SolutionLaws}
use Rattle.prl_replay.specs.Outputs.{out_flows}
use Rattle.prl_stages.proofs.Outputs.{outs_named, outputs_all, outputs_counted, outputs_marked, named_up_to}

module _ (law : SolutionLaws) (p : ProgramTree) (asked : Option (List ℕ)) (main : ℕ) (types : List Ty) (flat : FlatProgram) (typed : IsTyped p asked main types)
    (expanded : IsExpanded p main types flat) (well_formed : IsFlat flat) (clocks : List Clock) (only : AreOnlyClocks flat clocks)
    (bodies : List CheckedBody) (rows : Rows) (until : ℕ) (table : List (List Value)) (solution : AreSolution flat clocks bodies rows until table) where
  correspond : IsOneToOne (Satisfies p main bodies rows until) (IsSolution flat bodies rows until) state_in
  correspond =
      subst (λ (f : FlatProgram). IsOneToOne (Satisfies p main bodies rows until) (IsSolution f bodies rows until) state_in) (sym expanded.flat_is)
      (law.solutions p asked main types expanded.expansion typed expanded.is bodies rows until)

  found : (b : Behaviour) × Satisfies p main bodies rows until b × (state_in b ≡ solution.state)
  found = correspond.onto solution.state solution.is

  only_one : (other : Behaviour) → Satisfies p main bodies rows until other → other ≡ found.0
  only_one other h =
      let is = correspond.into other h in
      let on = law.clocks flat well_formed clocks only bodies rows until (state_in other) is in
      correspond.once other found.0 h found.1 (solution.only (state_in other) is on ∙ sym found.2)

  -- exactly one behaviour satisfies the program
  pub one : ExactlyOne (Satisfies p main bodies rows until)
  one = record { one = found.0; is = found.1; only = only_one }

  -- its flows are those of the solution
  pub state_is : state_in one.one ≡ solution.state
  unfolding one
  state_is = found.2

  outputs : outputs_of found.0 ≡ map (flow_at solution.state) (outputs_of expanded.expansion)
  outputs =
      let e = expanded.expansion in
      let whole = law.states p main e found.0 expanded.is.text found.1.text expanded.is.flows expanded.is.imports in
      ap outputs_of (sym whole) ∙ ap (λ (s : State). outputs_of (behaviour_of s e)) found.2
      ∙ outputs_marked (flow_at solution.state) _ _ e

  -- main's outputs are those of this behaviour
  pub outs : out_flows flat.out_devices clocks table 0 flat.outs ≡ named_flows (node_at p main).outs (outputs_of one.one)
  unfolding one
  outs =
      let e = expanded.expansion in
      let s = solution.state in
      let devices : flat.out_devices ≡ (flat_of p types main e).out_devices = ap (λ (f : FlatProgram). f.out_devices) expanded.flat_is in
      let flows : flat.outs ≡ map flow_no (outputs_of e) = ap (λ (f : FlatProgram). f.outs) expanded.flat_is in
      let named = outs_named p.actuators s flat.out_devices 0 (node_at p main).outs (outputs_of e) devices (outputs_counted p main e expanded.is.text) in
      ap (λ (cs : List Clock). out_flows flat.out_devices cs table 0 flat.outs) (sym solution.clocks_are)
      ∙ ap (λ (vs : List (List Value)). out_flows flat.out_devices (clocks_in s) vs 0 flat.outs) (sym solution.values_are)
      ∙ ap (out_flows flat.out_devices (clocks_in s) (values_in s) 0) flows
      ∙ named
      ∙ ap (named_flows (node_at p main).outs) (sym outputs)

  -- and they are up to the date
  pub up_to : AreUpTo until (out_flows flat.out_devices clocks table 0 flat.outs)
  unfolding one
  up_to =
      let timed = outputs_all (IsTimed until) found.0 found.1.timed in
      let all = named_up_to until (node_at p main).outs (outputs_of found.0) timed in
      subst (AreUpTo until) (sym outs) (All-from_recursion (λ (out : OutFlow). IsClock out.clock × IsUpTo until out.clock out.values) _ all)

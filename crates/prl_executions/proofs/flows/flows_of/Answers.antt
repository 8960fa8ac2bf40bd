use Rattle.prl_base.proofs.Standard.{◌≡◌, ◌≤◌, ◌∙◌, ℕ, List, Ok, ap, sym, subst, arith, length, length-map, err_from_is_err_and}
use Rattle.prl_ast.specs.Trees.{program_tree}
use Rattle.prl_base.specs.declared.operators.Clock.{Clock}
use Rattle.prl_causal.specs.Behaviours.{state_in}
use Rattle.prl_evaluation.specs.Evaluations.{AreSolution}
use Rattle.prl_flow.specs.Vocabulary.{AreUpTo, actuator_text, HaveBodies, FlatProgram, Timed}
use Rattle.prl_causal.specs.Conditions.{clocks_in}
use Rattle.prl_stages.specs.Runs.{IsFlowsText, rows_for}
use Rattle.prl_stages.specs.Vocabulary.{SolutionLaws}
use Rattle.prl_evaluation.specs.declared.evaluation.TheConstants.{MAX_VALUES}
use Rattle.prl_flow.specs.Counts.{values_before}
use Rattle.prl_sensors.specs.SensorRows.{sensors_of}
use Rattle.prl_stages.specs.Vocabulary.{text_of, inputs_of, needs_of}
use Rattle.prl_stages.specs.declared.faults.InputFile.TheVariants as parts
use Rattle.prl_stages.proofs.Inputs.{enough_rows, few_outputs, typed_rows}
use Rattle.prl_stages.proofs.Meaning.{one, outs, state_is, up_to}
use Rattle.prl_executions.proofs.TooMany.{too_many_values}
use Rattle.prl_executions.proofs.flows.flows_of.Goals as goal

pub evaluate-requires-clause-bodies : goal.evaluate-requires-clause-bodies
evaluate-requires-clause-bodies c =
    let t = c.args.typed.now in
    let x = c.requires.expanded in
    let (g, is) = c.requires.given in
    subst (λ (f : FlatProgram). HaveBodies f c.args.run.now.bodies) (sym x.flat_is)
    (c.runs_tell_of_behaviours.ensures.fitted (program_tree t.program) g.node t.main t.types x.expansion
    c.main-main.ensures.range is.typed x.is c.args.run.now.bodies c.requires.have)

pub evaluate-requires-clause-clocks : goal.evaluate-requires-clause-clocks
evaluate-requires-clause-clocks c = let (g, is) = c.requires.given in is.has.rows.clocked.only.are

pub evaluate-requires-clause-rows : goal.evaluate-requires-clause-rows
evaluate-requires-clause-rows c =
    let run = c.args.run.now in
    let (g, is) = c.requires.given in
    let text = text_of g parts.Sensors in
    enough_rows run.flat run.clocks.of c.args.until c.flows-flows.ensures.well_formed c.rows_are_typed_and_enough.ensures text run.sensors
    (subst (λ (until : ℕ). sensors_of (inputs_of run.flat) (needs_of run.flat run.clocks.of until) text ≡ Ok run.sensors) is.has.date is.has.rows.read)
    is.has.rows.clocked.only.are

pub evaluate-requires-clause-types : goal.evaluate-requires-clause-types
evaluate-requires-clause-types c =
    let run = c.args.run.now in
    let (g, is) = c.requires.given in
    let text = text_of g parts.Sensors in
    typed_rows run.flat run.clocks.of c.args.until c.flows-flows.ensures.well_formed c.rows_are_typed_and_enough.ensures text run.sensors
    (subst (λ (until : ℕ). sensors_of (inputs_of run.flat) (needs_of run.flat run.clocks.of until) text ≡ Ok run.sensors) is.has.date is.has.rows.read)

pub returns-in_err-table : goal.returns-in_err-table
returns-in_err-table c = λ g is.
    let p = err_from_is_err_and c.from_residual.result c.from_residual.ensures.1 in
    rw (p.1, p.2) (too_many_values g c.args.until c.args.run.now c.in_err-table.field-0.0 is.has c.in_err-table.ensures.fault)

pub out_flows-requires-clause-few : goal.out_flows-requires-clause-few
out_flows-requires-clause-few c =
    let t = c.args.typed.now in few_outputs (program_tree t.program) t.main t.types c.args.run.now.flat c.requires.expanded

pub out_flows-requires-clause-table : goal.out_flows-requires-clause-table
out_flows-requires-clause-table c =
    let s = c.in_ok-table.ensures.solution in
    ap length (sym s.values_are) ∙ length-map s.state.flows (λ (f : Timed). f.values) ∙ s.is.flow_count

pub lent_text-requires : goal.lent_text-requires
lent_text-requires c =
    let t = c.args.typed.now in
    let run = c.args.run.now in
    let until = c.args.until in
    let (g, is) = c.requires.given in
    let law : SolutionLaws = c.runs_tell_of_behaviours.ensures.meaning_laws in
    let told = c.deref.ensures.value ∙ c.in_ok-outs.ensures in
    let all = up_to law (program_tree t.program) g.node t.main t.types run.flat is.typed c.requires.expanded
    c.flows-flows.ensures.well_formed run.clocks.of is.has.rows.clocked.only run.bodies run.sensors until c.in_ok-table.table c.in_ok-table.ensures.solution in
    (until, omega (arith, c.requires.until), subst (AreUpTo until) (sym told) all)

pub returns : goal.returns
returns c = λ g is.
    let t = c.args.typed.now in
    let p = program_tree t.program in
    let run = c.args.run.now in
    let until = g.until in
    let asked = g.node in
    let formed = c.flows-flows.ensures.well_formed in
    let only = is.has.rows.clocked.only in
    let table = c.in_ok-table.table in
    let solution = subst (λ (u : ℕ). AreSolution run.flat run.clocks.of run.bodies run.sensors u c.in_ok-table.table) (sym is.has.date) c.in_ok-table.ensures.solution in
    let law : SolutionLaws = c.runs_tell_of_behaviours.ensures.meaning_laws in
    let told = c.deref.ensures.value ∙ c.in_ok-outs.ensures in
    let all = up_to law p asked t.main t.types run.flat is.typed c.requires.expanded formed run.clocks.of only run.bodies run.sensors until table solution in
    let behaviour = one law p asked t.main t.types run.flat is.typed c.requires.expanded formed run.clocks.of only run.bodies run.sensors until table solution in
    let state = state_is law p asked t.main t.types run.flat is.typed c.requires.expanded formed run.clocks.of only run.bodies run.sensors until table solution in
    let clocked : run.clocks.of ≡ clocks_in (state_in behaviour.one) = sym (ap clocks_in state ∙ solution.clocks_are) in
    let text : IsFlowsText g c.in_ok-lent_text.field-0.items = record {
      meaning = record {
        program = p;
        main = t.main;
        is_main = is.main;
        bodies = run.bodies;
        are_bodies = is.bodies;
        rows = run.sensors;
        one = behaviour;
        flat = run.flat;
        flattened = is.has.rows.clocked.causal.flattened;
        read = subst (λ (cs : List Clock). rows_for g run.flat cs ≡ Ok run.sensors) clocked is.has.rows.read;
      };
      written =
          c.in_ok-lent_text.ensures until (subst (AreUpTo until) (sym told) all)
          ∙ ap (actuator_text until) told
          ∙ ap (actuator_text until)
          (outs law p asked t.main t.types run.flat is.typed c.requires.expanded formed run.clocks.of only run.bodies run.sensors until table solution);
    } in
    let few = subst (λ (u : ℕ). values_before u run.clocks.of ≤ MAX_VALUES) (sym is.has.date) c.in_ok-table.ensures.few in
    (text, (run.flat, run.clocks.of, is.has.rows.clocked, few))

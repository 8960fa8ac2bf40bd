use Rattle.prl_base.proofs.Standard.{List, [], ◌∷◌, inl, inr, refl, err_from_is_err_and}
use Rattle.prl_ast.specs.Trees.{program_tree}
use Rattle.prl_arguments.specs.declared.arguments.Mode.TheVariants as modes
use Rattle.prl_stages.specs.Vocabulary.{IsText}
use Rattle.prl_stages.specs.declared.stages.Stage.{Stage}
use Rattle.prl_stages.specs.declared.stages.Stage.TheVariants as stages
use Rattle.prl_calls.specs.Stops.{given_of, AllHold}
use Rattle.prl_executions.specs.code.Flows.{IsEvaluated}
use Rattle.prl_calls.proofs.Stops.{passes_last, stops_first}
use Rattle.prl_executions.proofs.flows.flows_text.Goals as goal

-- the stages of what is evaluated, after the types and all
abbrev later : List Stage
later = stages.Expansion ∷ stages.Causality ∷ stages.Clocks ∷ stages.Bodies ∷ stages.Rows ∷ []

abbrev run : List Stage
run = stages.Grammar ∷ stages.Types ∷ later

pub returns-in_err-program : goal.returns-in_err-program
returns-in_err-program c =
    let g = given_of c.args.request in
    let p = err_from_is_err_and c.from_residual.result c.from_residual.ensures.1 in
    rw (p.1, p.2) (inl c.in_err-program.ensures)

pub returns-in_err-typed : goal.returns-in_err-typed
returns-in_err-typed c =
    let g = given_of c.args.request in
    let p = err_from_is_err_and c.from_residual-in_err-typed.result c.from_residual-in_err-typed.ensures.1 in
    rw (p.1, p.2) (inr (c.in_ok-program.ensures.1, inl c.in_err-typed.ensures))

pub returns-in_err-run : goal.returns-in_err-run
returns-in_err-run c =
    let g = given_of c.args.request in
    let p = err_from_is_err_and c.from_residual-in_err-run.result c.from_residual-in_err-run.ensures.1 in
    rw (p.1, p.2) (inr (
      c.in_ok-program.ensures.1,
      inr (
        c.in_ok-typed.ensures.1,
        stops_first g later (stages.Values ∷ []) c.in_err-run.field-0.0 c.in_err-run.ensures,
      ),
    ))

pub returns : goal.returns
returns c =
    let g = given_of c.args.request in
    let (found, last) = c.in_ok-run.ensures in
    let hold : AllHold g run = (c.in_ok-program.ensures.1, (c.in_ok-typed.ensures.1, last)) in
    let t = c.in_ok-typed.typed in
    let is : IsEvaluated g g.until (program_tree t.program) t.main t.types c.in_ok-run.run' = record {
      main = rw c.in_ok-typed.ensures.0.0 c.in_ok-typed.ensures.0.1;
      typed = rw c.in_ok-typed.ensures.0.0 c.in_ok-typed.ensures.0.2;
      bodies = found.2;
      has = record { date = refl; rows = found.4 };
    } in
    passes_last g run hold (λ text. IsText g modes.Flows text.items) (λ text. IsText g modes.Flows text.items) (λ text is. is) stages.Values c.flows_of.result
    (c.flows_of.ensures g is)

use Rattle.prl_base.proofs.Standard.{Ok, map, inl, inr, err_from_is_err_and}
use Rattle.prl_ast.specs.Trees.{program_tree}
use Rattle.prl_body.specs.Vocabulary.{body_tree, text_trees}
use Rattle.prl_bodytext.specs.Parsing.{IsParsed}
use Rattle.prl_names.specs.Uses.{used_imports}
use Rattle.prl_stages.specs.Vocabulary.{AreBodies}
use Rattle.prl_calls.specs.Stops.{given_of}
use Rattle.prl_calls.proofs.Stops.{bodies_stop}
use Rattle.prl_calls.proofs.programs.read_bodies.Goals as goal

pub returns-in_err-written : goal.returns-in_err-written
returns-in_err-written c =
    let p = err_from_is_err_and c.from_residual.result c.from_residual.ensures.1 in
    let fault = c.in_err-written.field-0.0 in
    let first = rw c.deref.ensures.value at c.in_err-written.ensures.fault in
    rw p.1 (bodies_stop (given_of c.args.request.now) (program_tree c.args.program.now) c.args.main fault p.0 c.requires.main (λ some. inl (first some)) p.2)

pub returns-in_err-check_texts : goal.returns-in_err-check_texts
returns-in_err-check_texts c =
    let p = err_from_is_err_and c.from_residual-in_err-check_texts.result c.from_residual-in_err-check_texts.ensures.1 in
    let fault = c.in_err-check_texts.field-0.0 in
    let written : IsParsed c.args.request.now.texts.bodies.items (Ok (text_trees c.in_ok-written.written)) = rw c.deref.ensures.value at c.in_ok-written.ensures.found in
    rw p.1 (bodies_stop (given_of c.args.request.now) (program_tree c.args.program.now) c.args.main fault p.0 c.requires.main
    (λ some. inr (text_trees c.in_ok-written.written, written, c.in_err-check_texts.ensures some)) p.2)

pub returns : goal.returns
returns c =
    let g = given_of c.args.request.now in
    let p = program_tree c.args.program.now in
    let bodies = c.in_ok-check_texts.field-0 in
    let written : IsParsed c.args.request.now.texts.bodies.items (Ok (text_trees c.in_ok-written.written)) = rw c.deref.ensures.value at c.in_ok-written.ensures.found in
    let found : AreBodies g (map body_tree bodies) = record {
      program = p;
      main = c.args.main;
      is_main = c.requires.main;
      texts = text_trees c.in_ok-written.written;
      written = written;
      fitting = c.in_ok-check_texts.ensures;
    } in ((found, c.used_imports_have_bodies.ensures p.imports (used_imports p c.args.main) (text_trees c.in_ok-written.written) bodies c.in_ok-check_texts.ensures), (map body_tree bodies, found))

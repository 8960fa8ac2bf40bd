use Rattle.prl_base.proofs.Standard.{inl, inr, err_from_is_err_and}
use Rattle.prl_ast.specs.Trees.{program_tree}
use Rattle.prl_stages.specs.Vocabulary.{IsCausal, HasClocks}
use Rattle.prl_calls.specs.Stops.{given_of}
use Rattle.prl_calls.proofs.Found.{flattened_with}
use Rattle.prl_calls.proofs.Stops.{causal_stop, clocks_stop}
use Rattle.prl_calls.proofs.fronts.flat_of.Goals as goal

pub returns-in_err-order : goal.returns-in_err-order
returns-in_err-order c =
    let g = given_of c.args.request.now in
    let t = c.args.typed.now in
    let flat = c.in_ok-flat.flat in
    let p = err_from_is_err_and c.from_residual-in_err-order.result c.from_residual-in_err-order.ensures.1 in
    let is = flattened_with c.right_names_stand_for_something.ensures g (program_tree t.program) t.main t.types flat c.requires.program c.requires.typed c.in_ok-flat.ensures.exact in
    rw p.1 (inr ((flat, is), inl (causal_stop g flat c.in_err-order.field-0.0 p.0 is c.in_err-order.ensures.fault p.2)))

pub returns-in_err-clocks : goal.returns-in_err-clocks
returns-in_err-clocks c =
    let g = given_of c.args.request.now in
    let t = c.args.typed.now in
    let flat = c.in_ok-flat.flat in
    let p = err_from_is_err_and c.from_residual-in_err-clocks.result c.from_residual-in_err-clocks.ensures.1 in
    let is = flattened_with c.right_names_stand_for_something.ensures g (program_tree t.program) t.main t.types flat c.requires.program c.requires.typed c.in_ok-flat.ensures.exact in
    let causal : IsCausal g flat = record { flattened = is; acyclic = c.in_ok-order.ensures.acyclic } in
    rw p.1 (inr ((flat, is), inr ((flat, causal), inl (clocks_stop g flat c.in_err-clocks.field-0.0 p.0 causal c.in_err-clocks.ensures.fault p.2))))

pub returns : goal.returns
returns c =
    let g = given_of c.args.request.now in
    let t = c.args.typed.now in
    let flat = c.in_ok-flat.flat in
    let of = c.in_ok-clocks.clocks.of in
    let is = flattened_with c.right_names_stand_for_something.ensures g (program_tree t.program) t.main t.types flat c.requires.program c.requires.typed c.in_ok-flat.ensures.exact in
    let causal : IsCausal g flat = record { flattened = is; acyclic = c.in_ok-order.ensures.acyclic } in
    let clocked : HasClocks g flat of = record { causal = causal; only = c.in_ok-clocks.ensures.clocks } in
    ((c.in_ok-flat.ensures.exact, c.in_ok-order.ensures.order, clocked), ((flat, is), ((flat, causal), ((flat, of, clocked), tt))))

use Rattle.prl_base.proofs.Standard.{err_from_is_err_and}
use Rattle.prl_stages.specs.Vocabulary.{graphed, named_bodies}
use Rattle.prl_calls.specs.Stops.{given_of}
use Rattle.prl_calls.proofs.Stops.{stops_first}
use Rattle.prl_calls.proofs.fronts.graphed_with.Goals as goal

pub returns-in_err-made : goal.returns-in_err-made
returns-in_err-made c =
    let p = err_from_is_err_and c.from_residual.result c.from_residual.ensures.1 in
    rw (p.1, p.2) (stops_first (given_of c.args.request.now) graphed (named_bodies c.args.named) c.in_err-made.field-0.0 c.in_err-made.ensures)

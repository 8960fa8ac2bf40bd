use Rattle.std.proofs.Common.{◌≡◌, List, Err, subst, ℕ}
use Rattle.prl_sensors.specs.SensorRows.{sensors_of}
use Rattle.prl_stages.specs.Vocabulary.{inputs_of, needs_of}
use Rattle.prl_calls.specs.Stops.{given_of}
use Rattle.prl_calls.proofs.Stops.{rows_stop}
use Rattle.prl_calls.proofs.rows.run_with.Goals as goal

pub returns-in-Err : goal.returns-in-Err
returns-in-Err c =
    let r = c.args.request.now in
    let flat = c.args.front.0 in
    let of = c.args.front.2.of in
    rows_stop (given_of r) flat of c.in-Err.fault c.rows_stop.result c.requires
    (λ some. subst (λ (text : List ℕ). sensors_of (inputs_of flat) (needs_of flat of r.until) text ≡ Err c.in-Err.fault) c.deref.ensures.value (c.in-Err.ensures some))
    c.rows_stop.ensures

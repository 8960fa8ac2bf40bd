use Rattle.std.proofs.Common.{◌∙◌, ◌-◌, List, length, drop, ap, sym}
use Rattle.prl_plot.specs.Rows.{clock_of}
use Rattle.prl_plot.specs.declared.forms.Input.{Input}
use Rattle.prl_plot.proofs.Tables.{clock_written, last_sensor}
use Rattle.prl_plot.proofs.readings.clocks_of.Goals as goal

pub loop-k-preserved : goal.loop-k-preserved
loop-k-preserved c =
    λ name.
    let inputs = c.args.inputs.now in
    let input = c.index-inputs-count.result in
    clock_written input (drop (length inputs - c.loop-k.k) inputs) c.bytes.result.now c.loop-k.table c.insert.new.self c.bytes.ensures c.in_ok-insert.ensures.updates c.loop-k.invariant name
    ∙ ap (λ (xs : List Input). clock_of xs name) (sym (last_sensor inputs c.loop-k.k input c.loop-k-test.true c.index-inputs-count.is))

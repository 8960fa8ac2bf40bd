use Rattle.prl_edf.proofs.Lines.{run_fields}
use Rattle.prl_edf.proofs.texts.push_run.Goals as goal

pub returns : goal.returns
returns c =
    run_fields c.args.jobs c.args.pieces c.args.ticks c.args.text.now.items c.push_field.new.text.items c.push_field-2.new.text.items
    c.push_field-3.new.text.items c.push.new.self.items c.in_ok-push_field.ensures c.in_ok-push_field-2.ensures c.in_ok-push_field-3.ensures c.in_ok-push.ensures.items

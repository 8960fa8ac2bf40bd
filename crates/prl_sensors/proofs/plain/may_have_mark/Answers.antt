use Rattle.prl_sensors.proofs.PlainRows.{no_bom, none_bom}
use Rattle.prl_sensors.proofs.plain.may_have_mark.Goals as goal

pub returns-in-empty : goal.returns-in-empty
returns-in-empty c = λ e. none_bom c.args.text.now c.in-empty.len_below

pub returns-in-len1-up : goal.returns-in-len1-up
returns-in-len1-up c = λ e. no_bom c.args.text.now c.in-len1-up.len_at_least e

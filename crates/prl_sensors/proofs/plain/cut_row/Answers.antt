use Rattle.prl_sensors.proofs.PlainRows.{plain_record}
use Rattle.prl_sensors.proofs.plain.cut_row.Goals as goal

pub returns : goal.returns
returns c =
    plain_record c.args.text.now c.in_ok-name.rest.now c.in_ok-instance.rest.now c.in_ok-value.rest.now
    c.in_ok-name.name.now c.in_ok-instance.instance.now c.in_ok-value.value.now
    c.in_ok-name.ensures.plain c.in_ok-instance.ensures.plain c.in_ok-value.ensures.plain
    c.in_ok-name.ensures.cut c.in_ok-instance.ensures.cut c.in_ok-value.ensures.cut

use Rattle.std.proofs.Common.{◌∙◌}
use Rattle.prl_names.specs.Checks.{device_names}
use Rattle.prl_names.proofs.Absent.{absent_in_table}
use Rattle.prl_names.proofs.absences.unlinked.Goals as goal

pub returns : goal.returns
returns c =
    c.absent.ensures ∙ absent_in_table c.in_ok-table.table (device_names c.args.list.now) c.in_ok-table.ensures c.args.params.now

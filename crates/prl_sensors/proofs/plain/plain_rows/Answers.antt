use Rattle.std.proofs.Common.{List, ℕ, ◌∙◌, sym, map, vec_items}
use Rattle.csv.specs.Reading.{default_config, records}
use Rattle.prl_base.specs.declared.values.Ty.{Ty}
use Rattle.prl_sensors.specs.SensorRows.{Inputs}
use Rattle.prl_sensors.proofs.PlainRows.{no_records}
use Rattle.prl_sensors.proofs.RowsRead.{all_read}
use Rattle.prl_sensors.proofs.plain.plain_rows.Goals as goal

abbrev inputs_of : List (List ℕ) → List Ty → Inputs
inputs_of names types = record { names = names; types = types }

pub returns-then-is_empty-clause-exact : goal.returns-then-is_empty-clause-exact
returns-then-is_empty-clause-exact c =
    sym c.loop-number.invariant.2
    ∙ all_read (inputs_of c.args.names.now c.args.types.now) c.loop-number.number (map vec_items c.loop-number.rows.items)
    (records default_config c.loop-number.rest.now) (no_records c.loop-number.rest.now (sym c.is_empty.ensures ∙ c.if-is_empty.true))

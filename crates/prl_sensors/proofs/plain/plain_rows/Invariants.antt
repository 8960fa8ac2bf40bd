use Rattle.std.proofs.Common.{◌≡◌, length, map, vec_items}
use Rattle.csv.specs.Reading.{default_config, records}
use Rattle.prl_sensors.specs.SensorRows.{no_rows, records_of, with_records}
use Rattle.prl_sensors.proofs.plain.plain_rows.Given as goal

-- the records of the rest make of the rows so far what all records make of none
abbrev pub invariant-loop-number : goal.invariant-loop-number
invariant-loop-number l =
    (length l.rows.items ≡ length l.names)
    × (l.finder ≡ l.names)
    × (with_records (record { names = l.names; types = l.types }) l.number (map vec_items l.rows.items) (records default_config l.rest)
    ≡ with_records (record { names = l.names; types = l.types }) 1 (no_rows l.names) (records_of l.text))

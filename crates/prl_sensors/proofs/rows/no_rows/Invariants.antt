use Rattle.std.proofs.Common.{◌≡◌, map, take, vec_items}
use Rattle.prl_sensors.specs.SensorRows.{no_rows}
use Rattle.prl_sensors.proofs.rows.no_rows.Given as goal

abbrev pub invariant-loop-k : goal.invariant-loop-k
invariant-loop-k l = map vec_items l.rows.items ≡ no_rows (take l.k l.names)

use Rattle.std.proofs.Common.{◌≡◌, drop, map, vec_items}
use Rattle.prl_sensors.specs.SensorRows.{short_of}
use Rattle.prl_sensors.proofs.rows.check_rows.Given as goal

abbrev pub invariant-loop-k : goal.invariant-loop-k
invariant-loop-k l =
    short_of l.names l.needs (map vec_items l.rows)
    ≡ short_of (drop l.k l.names) (drop l.k l.needs) (map vec_items (drop l.k l.rows))

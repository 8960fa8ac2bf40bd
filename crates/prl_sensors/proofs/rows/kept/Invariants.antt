use Rattle.std.proofs.Common.{◌≡◌, map, vec_items}
use Rattle.prl_sensors.proofs.rows.kept.Given as goal

abbrev pub invariant-loop-values : goal.invariant-loop-values
invariant-loop-values l = l.lists.items ≡ map vec_items l.yielded

use Rattle.std.proofs.Common.{◌≡◌, ℕ, List, length, map, vec_items}
use Rattle.prl_sensors.specs.SensorRows.{with_records}
use Rattle.prl_sensors.specs.code.Left.{HasLeft}
use Rattle.prl_sensors.proofs.rows.push_records.Given as goal

-- what is left of the records makes of the rows so far what all records make of the first ones
abbrev pub invariant-loop-number : goal.invariant-loop-number
invariant-loop-number l =
    (length l.rows.items ≡ length l.initial.rows.items)
    × (l.finder ≡ l.initial.finder)
    × ((all : List (List (List ℕ))) → HasLeft l.initial.reader all → (left : List (List (List ℕ))) × HasLeft l.reader left
    × (with_records (record { names = l.initial.finder; types = l.types }) l.number (map vec_items l.rows.items) left
    ≡ with_records (record { names = l.initial.finder; types = l.types }) 1 (map vec_items l.initial.rows.items) all))

use Rattle.std.proofs.Common.{◌≡◌, ℕ, List, []}
use Rattle.prl_sensors.specs.SensorRows.{records_of}
use Rattle.prl_sensors.specs.code.Left.{HasLeft}
use Rattle.prl_plot.specs.Places.{ArePlaces}
use Rattle.prl_plot.specs.Rows.{with_records}
use Rattle.prl_plot.proofs.rows.read_flows.Given as goal

-- what is left of the records makes of the flows so far what all records make of none
abbrev pub invariant-loop-number : goal.invariant-loop-number
invariant-loop-number l =
    (left : List (List (List ℕ))) × HasLeft l.reader left
    × (with_records l.form l.number l.found.flows.items left ≡ with_records l.form 1 [] (records_of l.text))
    × ArePlaces l.found.places l.found.flows.items

use Rattle.prl_base.proofs.Standard.{◌≡◌, ◌++◌, slice_get, take, flat_map}
use Rattle.prl_flow.specs.Actuators.{row_text}
use Rattle.prl_sensors.proofs.DueRows.{row_of}
use Rattle.prl_sensors.proofs.actuators.push_rows_at.Given as goal

abbrev pub invariant-loop-place : goal.invariant-loop-place
invariant-loop-place l =
    l.text.items ≡ l.initial.text.items ++ flat_map row_text (flat_map (λ p. row_of l.date (slice_get l.outs p)) (take l.place-index l.due))

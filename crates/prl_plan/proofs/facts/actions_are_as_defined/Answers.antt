use Rattle.prl_plan.proofs.Actions.{actions_fit}
use Rattle.prl_plan.proofs.ReadPlaces.{reads_at_places, writes_at_places}
use Rattle.prl_plan.proofs.ActionPlaces.{ends_after}
use Rattle.prl_plan.proofs.Ports.{ports_in_order}
use Rattle.prl_plan.proofs.facts.actions_are_as_defined.Goals as goal

pub returns : goal.returns
returns c = record { each = actions_fit; reads = reads_at_places; ports = ports_in_order; writes = writes_at_places; end = ends_after }

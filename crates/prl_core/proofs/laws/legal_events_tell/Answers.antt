use Rattle.prl_core.proofs.Given.{outputs_there}
use Rattle.prl_core.proofs.Telling.{event_told}
use Rattle.prl_core.proofs.laws.legal_events_tell.Goals as goal

pub returns-clause-told : goal.returns-clause-told
returns-clause-told c = λ core is_plan horizon facts bodies rows sound.
    event_told core is_plan sound (c.machine_laws.ensures core is_plan horizon facts bodies rows)

pub returns-clause-outputs : goal.returns-clause-outputs
returns-clause-outputs c = λ core is_plan horizon facts bodies rows sound i k drives.
    outputs_there core is_plan sound (c.machine_laws.ensures core is_plan horizon facts bodies rows) i k drives.0 drives.1

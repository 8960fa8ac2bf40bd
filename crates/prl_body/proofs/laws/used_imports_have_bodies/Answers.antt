use Rattle.prl_body.proofs.UsedBodies.{HaveBodiesOf_checked}
use Rattle.prl_body.proofs.laws.used_imports_have_bodies.Goals as goal

pub returns : goal.returns
returns c = HaveBodiesOf_checked

use Rattle.prl_plan.proofs.StateLaws.{legal_read_finds_tag}
use Rattle.prl_plan.proofs.laws.legal_read_finds_its_tag.Goals as goal

pub returns : goal.returns
returns c = legal_read_finds_tag

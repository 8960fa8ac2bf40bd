use Rattle.prl_hints.proofs.Ends.{trimmed_is}
use Rattle.prl_hints.proofs.places.trimmed.Goals as goal

pub returns : goal.returns
returns c = trimmed_is _ _ c.trim_ascii_end.ensures.value

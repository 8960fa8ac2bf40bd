use Rattle.std.proofs.Common.{◌∙◌}
use Rattle.prl_expand.proofs.expanding.made_of.Goals as goal

pub made_within-requires : goal.made_within-requires
made_within-requires c = c.in_ok-names.ensures ∙ c.program.ensures

use Rattle.prl_spans.proofs.Gated.{acts_are_gated, acts_are_complete}
use Rattle.prl_spans.proofs.laws.acts_within_spans_are_gated.Goals as goal

pub returns-clause-gated : goal.returns-clause-gated
returns-clause-gated c = acts_are_gated

pub returns-clause-complete : goal.returns-clause-complete
returns-clause-complete c = acts_are_complete

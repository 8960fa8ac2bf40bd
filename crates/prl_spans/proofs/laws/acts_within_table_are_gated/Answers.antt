use Rattle.prl_plan.specs.Vocabulary.{constants_of}
use Rattle.prl_spans.specs.TableSpans.{first_unit, after_last_unit}
use Rattle.prl_spans.proofs.laws.acts_within_table_are_gated.Goals as goal

pub returns : goal.returns
returns c = λ plan h is horizon entries good list all.
    c.acts_within_spans_are_gated.ensures.gated (constants_of plan h) (c.plans_keep_facts.ensures plan h is horizon) (first_unit plan.graph entries) (after_last_unit plan.graph entries)
    (c.good_table_has_spans.ensures plan h is horizon entries good) list all

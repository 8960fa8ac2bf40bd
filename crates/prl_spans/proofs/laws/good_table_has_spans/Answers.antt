use Rattle.prl_spans.proofs.Tables.{good_has_spans}
use Rattle.prl_spans.proofs.laws.good_table_has_spans.Goals as goal

pub returns : goal.returns
returns c = λ plan h is horizon entries good.
    good_has_spans plan is h horizon (c.plans_keep_facts.ensures plan h is horizon) entries good (c.class_has_end.ensures plan is entries good) (c.good_table_is_placing.ensures plan h is horizon entries good)

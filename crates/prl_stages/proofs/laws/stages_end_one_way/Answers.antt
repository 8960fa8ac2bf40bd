use Rattle.prl_stages.proofs.OneEnd.{one_end}
use Rattle.prl_stages.proofs.laws.stages_end_one_way.Goals as goal

pub returns : goal.returns
returns c = one_end (record {
  ones = c.findings_are_one.ensures;
  one_label = c.causality_ends_one_way.ensures.one_label;
  no_label = c.causality_ends_one_way.ensures.not_both;
  tables = record {
    made_or_fault = c.makes_end_one_way.ensures.not_both;
    one_make_fault = c.makes_end_one_way.ensures.one;
    good_or_fault = c.checks_end_one_way.ensures.not_both;
    one_fault = c.checks_end_one_way.ensures.one;
  };
})

use Rattle.prl_table.proofs.laws.make_laws.Goals as goal

pub returns : goal.returns
returns c = record {
  one_horizon = c.horizons_end_one_way.ensures.one_horizon;
  not_both = c.horizons_end_one_way.ensures.not_both;
  one_limit = c.horizons_end_one_way.ensures.one_limit;
  facts = c.plans_keep_facts.ensures;
  overloaded = c.feasibility.ensures.overloaded;
  one_verdict = c.verdicts_are_one.ensures.verdicts;
}

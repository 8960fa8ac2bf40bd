use Rattle.prl_table.proofs.SomeMade.{made_or_faulty}
use Rattle.prl_table.proofs.laws.makes_or_faults_exist.Goals as goal

pub returns : goal.returns
returns c = λ plan is. made_or_faulty plan is (record {
  horizon = c.horizons_end_one_way.ensures.end plan is;
  facts = λ horizon of. c.plans_keep_facts.ensures plan horizon is of;
  verdict = c.verdicts_exist.ensures;
})

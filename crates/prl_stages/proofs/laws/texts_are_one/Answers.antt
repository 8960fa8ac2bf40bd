use Rattle.prl_stages.proofs.OneMeant.{one_meaning}
use Rattle.prl_stages.proofs.OneMode.{one_text}
use Rattle.prl_stages.proofs.OneText.{Laws}
use Rattle.prl_stages.proofs.laws.texts_are_one.Goals as goal

pub returns : goal.returns
returns c =
    let law : Laws = record {
      meaning = record {
        ones = c.findings_are_one.ensures;
        solutions = c.behaviours_are_solutions.ensures;
        clocks = c.clocks_are_unique.ensures.solutions;
      };
      facts = c.plans_keep_facts.ensures;
      verdicts = c.verdicts_are_one.ensures.verdicts;
      made = c.made_tables_are_one.ensures;
    } in
    record { text = λ g mode named comes. one_text law g mode named comes; meant = λ g c comes. one_meaning law g c comes }

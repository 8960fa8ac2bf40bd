use Rattle.prl_stages.proofs.SomeText.{check_text, edf_text, print_text, schedule_text, some_plan_text, some_table_text}
use Rattle.prl_stages.proofs.laws.texts_exist.Goals as goal

pub returns : goal.returns
returns c = record {
  print = λ g named comes. print_text g named comes;
  plan = λ g named comes. some_plan_text g named comes;
  check = λ g named comes. check_text g named comes;
  schedule = λ g named comes. schedule_text c.plans_have_schedules.ensures g named comes;
  edf = λ g named comes. edf_text (record { facts = c.plans_keep_facts.ensures; exist = c.verdicts_exist.ensures }) g named comes;
  table = λ g named comes. some_table_text c.made_table_is_good.ensures g named comes;
}

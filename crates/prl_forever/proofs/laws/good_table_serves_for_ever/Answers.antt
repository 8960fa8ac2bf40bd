use Rattle.prl_forever.proofs.TableRuns.{table_serves}
use Rattle.prl_forever.proofs.laws.good_table_serves_for_ever.Goals as goal

pub returns : goal.returns
returns c = record {
  serves = λ plan is entries good. table_serves plan is entries good (λ entry. c.pieces_are_short.ensures.length plan is entry) c.feasibility.ensures.overloaded;
  load = λ plan is entries good.
      c.served_for_ever.ensures.only plan is (table_serves plan is entries good (λ entry. c.pieces_are_short.ensures.length plan is entry) c.feasibility.ensures.overloaded);
}

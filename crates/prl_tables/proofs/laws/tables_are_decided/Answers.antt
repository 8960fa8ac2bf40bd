use Rattle.prl_tables.proofs.SomeFault.{text_is_decided, good_or_faulty}
use Rattle.prl_tables.proofs.laws.tables_are_decided.Goals as goal

pub returns-clause-read : goal.returns-clause-read
returns-clause-read c = text_is_decided

pub returns-clause-checked : goal.returns-clause-checked
returns-clause-checked c = λ plan is entries. good_or_faulty plan is entries (record {
  to = c.order_laws.ensures.to plan is;
  reads = c.order_laws.ensures.reads plan is;
  kept = c.order_laws.ensures.kept plan is entries;
  broken = c.order_laws.ensures.broken plan is entries;
  some_class = c.classes_are_early.ensures.some plan is;
  length_of = c.pieces_are_short.ensures.length plan is;
})

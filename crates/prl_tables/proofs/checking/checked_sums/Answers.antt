use Rattle.prl_tables.proofs.checking.checked_sums.Goals as goal

pub returns-clause-good : goal.returns-clause-good
returns-clause-good c = record {
  pieces = c.in_ok-check_pieces.ensures.pieces;
  whole = c.in_ok-check_units.ensures.whole;
  apart = c.in_ok-check_clashes.ensures.apart;
  order = c.in_ok-check_order.ensures.order;
}

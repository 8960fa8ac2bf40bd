use Rattle.prl_edf.proofs.Ends.{ends_last}
use Rattle.prl_edf.proofs.laws.actions_end_once.Goals as goal

pub returns : goal.returns
returns c = λ plan horizon. record {
  last = λ i n _. ends_last plan i n;
  only = λ i n place _ is. c.actions_are_as_defined.ensures.end plan i n place is;
}

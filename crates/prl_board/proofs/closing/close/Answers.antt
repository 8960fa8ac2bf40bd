use Rattle.prl_rule.specs.Told.{part_of}
use Rattle.prl_board.proofs.closing.close.Goals as goal

pub returns-clause-clock : goal.returns-clause-clock
returns-clause-clock c = λ r is. c.close.ensures.clock r (c.gather.ensures.clock r is)

pub returns-clause-tags : goal.returns-clause-tags
returns-clause-tags c = λ i s has. c.close.ensures.tags i (part_of i s.view) (c.gather.ensures.parts i s has)

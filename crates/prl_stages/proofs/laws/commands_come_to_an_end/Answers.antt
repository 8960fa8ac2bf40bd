use Rattle.prl_stages.specs.Stages.{stages_of}
use Rattle.prl_stages.proofs.laws.commands_come_to_an_end.Goals as goal

pub returns : goal.returns
returns c = record {
  some = λ command range told g given. c.stages_come_to_an_end.ensures g (stages_of command) (c.stages_are_decided.ensures command range told g given);
  one = λ command g a b first second. c.stages_end_one_way.ensures g (stages_of command) a b first second;
}

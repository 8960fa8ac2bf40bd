use Rattle.std.specs.Prelude.{[]}
use Rattle.prl_rule.specs.Vocabulary.{run_of, values_of, first_witness}
use Rattle.prl_rule.proofs.Opens.{opens}
use Rattle.prl_rule.proofs.steps.rule_holds_at_the_opening.Goals as goal

pub returns : goal.returns
returns c = record {
  agrees = opens;
  board = λ k facts values words zeros. (first_witness, [], opens k (run_of k) (values_of k) facts values words zeros);
}

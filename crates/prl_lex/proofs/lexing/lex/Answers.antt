use Rattle.prl_lex.proofs.Laws.{given_each, given_order}
use Rattle.prl_lex.proofs.lexing.lex.Goals as goal

pub returns-clause-each : goal.returns-clause-each
returns-clause-each c = given_each (λ tokens. tokens.items) c.tokens_of.result c.args.text.now c.tokens_of.ensures

pub returns-clause-order : goal.returns-clause-order
returns-clause-order c = given_order (λ tokens. tokens.items) c.tokens_of.result c.args.text.now c.tokens_of.ensures

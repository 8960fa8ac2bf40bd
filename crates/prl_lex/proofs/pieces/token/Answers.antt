use Rattle.std.proofs.Common.{◌∙◌, arith}
use Rattle.prl_lex.proofs.Longest.{token_by_first_longest}
use Rattle.prl_lex.proofs.pieces.token.Goals as goal

pub returns : goal.returns
returns c = c.token_by_first.ensures ∙ token_by_first_longest c.args.text.now (λ k. omega (arith, c.type_inv.text k))

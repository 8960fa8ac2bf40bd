use Rattle.prl_spots.proofs.Here.{here_is}
use Rattle.prl_spots.proofs.unexpected.here_told.Goals as goal

pub returns-in_ok-token_told-in-Some : goal.returns-in_ok-token_told-in-Some
returns-in_ok-token_told-in-Some c =
    here_is c.args.text.now c.args.tokens.now c.args.at c.in-Some.token.now c.in_ok-token_told-in-Some.field-0.items
    c.requires.lexed c.in-Some.ensures.there c.in_ok-token_told-in-Some.ensures

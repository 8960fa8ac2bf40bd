use Rattle.prl_spots.proofs.Two.{two_is}
use Rattle.prl_spots.proofs.twice.told_of.Goals as goal

pub returns-in_ok-two_told : goal.returns-in_ok-two_told
returns-in_ok-two_told c =
    two_is c.args.text.now c.args.tokens.now c.args.name.now c.in-Some.first c.in-Some.second c.in_ok-two_told.field-0.items
    c.requires.lexed c.if-is_name_at.ensures.name c.if-is_name_at-2.ensures.name c.if-first-second.true c.in_ok-two_told.ensures

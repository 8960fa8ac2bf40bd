use Rattle.prl_nearest.specs.Nearest.{some_text}
use Rattle.prl_nearest.proofs.Joins.{joined}
use Rattle.prl_nearest.proofs.told.push_some.Goals as goal

pub returns : goal.returns
unfolding some_text
returns c =
    joined c.push_end.result c.args.told.now.items c.push_front.new.told.items c.push_each.new.told.items c.push_end.new.told.items _ _ _
    c.in_ok-push_front.ensures c.in_ok-push_each.ensures c.push_end.ensures

use Rattle.prl_ways.specs.ChainTexts.{last_text}
use Rattle.prl_ways.proofs.Joins.{joined}
use Rattle.prl_ways.proofs.chain_texts.push_last.Goals as goal

pub returns : goal.returns
unfolding last_text
returns c =
    joined c.push_due.result c.args.text.now.items c.push_released.new.text.items c.push_due.new.text.items _ _ c.in_ok-push_released.ensures c.push_due.ensures

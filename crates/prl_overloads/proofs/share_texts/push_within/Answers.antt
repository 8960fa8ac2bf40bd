use Rattle.prl_overloads.specs.ShareTexts.{within_text}
use Rattle.prl_overloads.proofs.Joins.{joined}
use Rattle.prl_overloads.proofs.share_texts.push_within.Goals as goal

pub returns : goal.returns
unfolding within_text
returns c =
    joined c.push_numbered-2.result c.args.text.now.items c.push_numbered.new.text.items c.push_numbered-2.new.text.items _ _ c.in_ok-push_numbered.ensures c.push_numbered-2.ensures

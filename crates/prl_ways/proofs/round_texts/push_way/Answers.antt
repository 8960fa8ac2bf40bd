use Rattle.prl_ways.specs.RoundTexts.{way_text}
use Rattle.prl_ways.proofs.Joins.{joined}
use Rattle.prl_ways.proofs.round_texts.push_way.Goals as goal

pub returns : goal.returns
unfolding way_text
returns c =
    joined c.push_needs.result c.args.text.now.items c.push_quoted.new.text.items c.push_needs.new.text.items _ _
    (rw c.label_of.ensures at c.in_ok-push_quoted.ensures) (rw c.as_slice.ensures at c.push_needs.ensures)

use Rattle.prl_syntax.proofs.Right.{comma_item_steps}
use Rattle.prl_syntax.proofs.parser.Parser.more_items.Goals as goal

pub more-smaller : goal.more-smaller
more-smaller c = comma_item_steps.fewer c.more.self _ _ c.in_ok-comma_item.ensures

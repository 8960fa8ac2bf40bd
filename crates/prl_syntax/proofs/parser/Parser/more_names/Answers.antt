use Rattle.prl_syntax.proofs.Right.{comma_name_steps}
use Rattle.prl_syntax.proofs.parser.Parser.more_names.Goals as goal

pub more-smaller : goal.more-smaller
more-smaller c = comma_name_steps.fewer c.more.self _ _ c.in_ok-comma_name.ensures

use Rattle.prl_syntax.proofs.Right.{semicolon_run_steps}
use Rattle.prl_syntax.proofs.parser.Parser.more_runs.Goals as goal

pub more-smaller : goal.more-smaller
more-smaller c = semicolon_run_steps.fewer c.more.self _ _ c.in_ok-next.ensures

use Rattle.prl_syntax.proofs.Right.{ended_run_steps}
use Rattle.prl_syntax.proofs.parser.Parser.more_ended_runs.Goals as goal

pub more-smaller : goal.more-smaller
more-smaller c = ended_run_steps.fewer c.more.self _ _ c.in_ok-next.ensures

use Rattle.std.proofs.Common.{length}
use Rattle.prl_steps.proofs.plots.+push_plots.Given as goal

abbrev pub decreases-push_plots : goal.decreases-push_plots
decreases-push_plots l = length l.flows.now

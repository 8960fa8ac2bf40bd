use Rattle.std.proofs.Common.{◌≡◌, ◌++◌}
use Rattle.prl_plot.proofs.asked.joined.Given as goal

-- the first ones, and those of the others that were passed
abbrev pub invariant-loop-flow : goal.invariant-loop-flow
invariant-loop-flow l = l.flows.items ≡ l.initial.flows.items ++ l.yielded

use Rattle.std.proofs.Common.{◌≡◌}
use Rattle.std.specs.List.{filter}
use Rattle.prl_plot.specs.Asked.{is_named}
use Rattle.prl_plot.proofs.chosen.kept.Given as goal

-- those of the flows that were passed
abbrev pub invariant-loop-flow : goal.invariant-loop-flow
invariant-loop-flow l = l.kept.items ≡ filter (λ flow. is_named l.names flow.name) l.yielded

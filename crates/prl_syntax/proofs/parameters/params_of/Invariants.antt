use Rattle.std.proofs.Common.{◌≡◌, ◌++◌, length, reverse}
use Rattle.prl_syntax.specs.Trees.{params_before, params_of}
use Rattle.prl_syntax.proofs.parameters.params_of.Given as goal

abbrev pub invariant-each : goal.invariant-each
invariant-each l = params_before l.before.items l.note ++ reverse l.params.items ≡ params_of l.fn.items.items

abbrev pub decreases-each : goal.decreases-each
decreases-each l = length l.before.items

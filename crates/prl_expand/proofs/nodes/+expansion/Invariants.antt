use Rattle.std.proofs.Common.{[], ◌+◌, ◌*◌, drop, map, take}
use Rattle.prl_ast.specs.Trees.{equation_tree, program_tree}
use Rattle.prl_expand.specs.code.Acts.{acts_of}
use Rattle.prl_expand.specs.code.Standings.{IsAt}
use Rattle.prl_expand.specs.code.Steps.{after, nothing, site, start}
use Rattle.prl_expand.specs.code.Terms.{flow_of}
use Rattle.prl_expand.proofs.Remaining.{RightsLeft}
use Rattle.prl_expand.proofs.nodes.+expansion.Given as goal

abbrev pub decreases-enter : goal.decreases-enter
decreases-enter l = 10 * l.levels + 7

abbrev pub decreases-equations : goal.decreases-equations
decreases-equations l = 10 * l.levels + 6

abbrev pub decreases-expression : goal.decreases-expression
decreases-expression l = 10 * l.levels + 5

abbrev pub decreases-run : goal.decreases-run
decreases-run l = 10 * l.levels + 4

abbrev pub decreases-advance : goal.decreases-advance
decreases-advance l = 10 * l.levels + 3

abbrev pub decreases-closed : goal.decreases-closed
decreases-closed l = 10 * l.levels + 2

abbrev pub decreases-base : goal.decreases-base
decreases-base l = 10 * l.levels + 1

abbrev pub decreases-apply : goal.decreases-apply
decreases-apply l = 10 * l.levels

abbrev pub invariant-run-loop-step : goal.invariant-run-loop-step
invariant-run-loop-step l =
    IsAt l.initial.made (after (site l.names l.typed.types l.levels l.k l.env) (acts_of (take l.step-index l.steps)) (start nothing [] l.initial.made.next)) l.list.items l.around.items l.made

abbrev pub invariant-equations-loop-equation : goal.invariant-equations-loop-equation
invariant-equations-loop-equation l =
    RightsLeft (program_tree l.names) l.typed.types l.levels l.k (map flow_of l.env) l.pairs.items l.made l.initial.made (map equation_tree (drop l.equation-index l.eqs)) (map equation_tree l.eqs)

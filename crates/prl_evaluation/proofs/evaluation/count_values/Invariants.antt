use Rattle.prl_base.proofs.Standard.{◌≡◌, ◌≤◌, ◌*◌, take, sum_by}
use Rattle.prl_flow.specs.Counts.{dates_before}
use Rattle.prl_evaluation.proofs.evaluation.count_values.Given as goal

abbrev pub invariant-loop-clock : goal.invariant-loop-clock
invariant-loop-clock l =
    (l.values ≡ sum_by (dates_before l.until) (take l.clock-index l.clocks)) × (l.values ≤ l.clock-index * 2147483648)

use Rattle.prl_base.proofs.Standard.{◌≡◌, ◌≤◌, ◌∙◌, ap, arith, get_or_default, sum_by_more}
use Rattle.prl_base.specs.Clocks.{IsClock}
use Rattle.prl_flow.specs.Vocabulary.{dates_before, clock_of}
use Rattle.prl_flow.proofs.ClockDates.{dates_before_le}
use Rattle.prl_evaluation.proofs.evaluation.count_values.Goals as goal

pub loop-clock-preserved : goal.loop-clock-preserved
loop-clock-preserved c =
    let until = c.args.until in
    let clock = clock_of c.args.clocks.now c.loop-clock.clock-index in
    let is_clock : IsClock clock = c.requires.clocks c.loop-clock.clock-index (omega arith) in
    let count : c.dates_before-values.result ≡ dates_before until clock =
    c.dates_before-values.ensures.count ∙ ap (dates_before until) (get_or_default c.args.clocks.now c.loop-clock.clock-index _ _ (omega arith)) in
    let sum = sum_by_more (dates_before until) c.args.clocks.now c.loop-clock.clock-index (record { period = 1; start = 0 }) (omega arith) in
    let few : dates_before until clock ≤ until = dates_before_le until clock is_clock in
    (omega arith, omega arith)

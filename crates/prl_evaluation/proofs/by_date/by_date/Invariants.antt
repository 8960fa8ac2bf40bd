use Rattle.std.proofs.Common.{◌≡◌, ◌-◌, ◌≤◌}
use Rattle.prl_evaluation.specs.Vocabulary.{AreAt, IsRest, clocks_by, UnderWay}
use Rattle.prl_evaluation.proofs.by_date.by_date.Given as goal

abbrev pub invariant-loop-due : goal.invariant-loop-due
invariant-loop-due l =
    UnderWay l.setting l.flows l.runs
    × IsRest l.setting l.rest l.flows
    × AreAt l.setting l.rest l.flows l.calendar.from
    × (l.calendar.clocks ≡ clocks_by l.setting.clocks.now l.rest)
    × (l.calendar.until ≡ l.setting.until)
    × (l.calendar.from ≤ l.setting.until)

abbrev pub decreases-loop-due : goal.decreases-loop-due
decreases-loop-due l = l.setting.until - l.calendar.from

use Rattle.prl_evaluation.specs.Vocabulary.{IsPart, IsRest, place_after, UnderWay}
use Rattle.prl_evaluation.proofs.by_date.advance_due.Given as goal

abbrev pub invariant-loop-place : goal.invariant-loop-place
invariant-loop-place l =
    UnderWay l.setting l.flows l.runs
    × IsRest l.setting l.rest l.flows
    × IsPart l.setting l.rest l.flows l._date (place_after l.due l.place-index)

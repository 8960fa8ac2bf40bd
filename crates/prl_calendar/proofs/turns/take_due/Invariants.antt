use Rattle.prl_calendar.specs.Turns.{AreTurning, last}
use Rattle.prl_calendar.proofs.Turning.{turns_left}
use Rattle.prl_calendar.proofs.turns.take_due.Given as goal

abbrev pub invariant-loop-first : goal.invariant-loop-first
invariant-loop-first l = AreTurning l.clocks last l.date l.turns l.due.items

abbrev pub decreases-loop-first : goal.decreases-loop-first
decreases-loop-first l = turns_left l.date l.turns

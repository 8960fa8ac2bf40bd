use Rattle.prl_base.proofs.Standard.{map, take, IsPermutation}
use Rattle.prl_calendar.specs.Turns.{first_turn}
use Rattle.prl_calendar.proofs.turns.first_turns.Given as goal

abbrev pub invariant-loop-first : goal.invariant-loop-first
invariant-loop-first l = IsPermutation (map (first_turn l.clocks) (take l.first-index l.firsts)) l.turns

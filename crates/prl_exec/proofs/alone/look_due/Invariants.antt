use Rattle.std.specs.Prelude.{◌≡◌, ◌+◌, ◌≤◌, List}
use Rattle.prl_plan.specs.declared.events.Event.{Event}
use Rattle.prl_rule.specs.Known.{run_of}
use Rattle.prl_rule.specs.declared.views.ClockPart.{ClockPart}
use Rattle.prl_board.specs.Lones.{IsLoneOf}
use Rattle.prl_exec.specs.Standing.{HasSeenDue, StandsIn}
use Rattle.prl_exec.proofs.alone.look_due.Given as goal

-- the tasks so far have been looked at, where they may have been left behind
abbrev pub invariant-loop-i : goal.invariant-loop-i
invariant-loop-i g l = record {
  lone : IsLoneOf l.board l.lone;
  seats : l.lone.seats ≡ l.fn.lone.seats;
  steps : l.steps ≤ l.fn.steps + l.i;
  told : (r : ClockPart) (list : List Event) → StandsIn (run_of l.board.known) l.fn.lone r list →
      (q : ClockPart) × StandsIn (run_of l.board.known) l.lone q list × HasSeenDue l.board.known l.lone q l.i;
}

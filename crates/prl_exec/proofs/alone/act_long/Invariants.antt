use Rattle.std.specs.Prelude.{◌≡◌, ◌+◌, ◌*◌, ◌≤◌, List, length}
use Rattle.prl_plan.specs.declared.events.Event.{Event}
use Rattle.prl_rule.specs.Known.{run_of}
use Rattle.prl_rule.specs.declared.views.ClockPart.{ClockPart}
use Rattle.prl_board.specs.Lones.{IsLoneOf}
use Rattle.prl_exec.specs.Standing.{StandsIn}
use Rattle.prl_exec.specs.code.Alone.{RunsOn}
use Rattle.prl_exec.proofs.alone.act_long.Given as goal

-- so many actions of the task were done
abbrev pub invariant-loop-did : goal.invariant-loop-did
invariant-loop-did g l = record {
  lone : IsLoneOf l.board l.lone;
  tasks : length l.lone.seats ≡ length l.fn.lone.seats;
  steps : l.steps ≤ l.fn.steps + 2 * l.did;
  told : (r : ClockPart) (list : List Event) → StandsIn (run_of l.board.known) l.fn.lone r list → RunsOn (run_of l.board.known) l.task.0 l.lone r list l.did;
}

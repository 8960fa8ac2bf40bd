use Rattle.std.specs.Prelude.{◌≡◌, ◌+◌, ◌-◌, ◌*◌, ◌≤◌, List, length}
use Rattle.prl_plan.specs.declared.events.Event.{Event}
use Rattle.prl_rule.specs.Vocabulary.{run_of, reached}
use Rattle.prl_rule.specs.declared.views.ClockPart.{ClockPart}
use Rattle.prl_board.specs.Lones.{IsLoneOf}
use Rattle.prl_exec.specs.Standing.{StandsIn}
use Rattle.prl_exec.specs.code.Alone.{KeepsNoted}
use Rattle.prl_exec.proofs.alone.run_to_end.Given as goal

-- so many events were done
abbrev pub invariant-loop-done : goal.invariant-loop-done
invariant-loop-done g l = record {
  lone : IsLoneOf l.board l.lone;
  wide : length l.noted.until.items ≡ (run_of l.board.known).tasks;
  stands : (list : List Event) × (r : ClockPart) × (length list ≡ l.done) × StandsIn (run_of l.board.known) l.lone r list × KeepsNoted (run_of l.board.known) l.noted.until.items l.noted.soon (reached (run_of l.board.known) list);
  few : l.done ≤ l.fn.horizon.events;
  steps : l.steps ≤ l.fn.steps + (3 * (run_of l.board.known).tasks + 1) * l.done;
}

abbrev pub decreases-loop-done : goal.decreases-loop-done
decreases-loop-done g l = l.fn.horizon.events - l.done

use Rattle.std.specs.Prelude.{◌≡◌, ◌+◌, ◌*◌, ◌≤◌, List, length}
use Rattle.prl_plan.specs.declared.events.Event.{Event}
use Rattle.prl_rule.specs.Vocabulary.{run_of, reached}
use Rattle.prl_rule.specs.declared.views.ClockPart.{ClockPart}
use Rattle.prl_board.specs.Lones.{IsLoneOf}
use Rattle.prl_exec.specs.Standing.{StandsIn}
use Rattle.prl_exec.specs.code.Alone.{AreNoted, Sweeps}
use Rattle.prl_exec.proofs.alone.sweep.Given as goal

-- the tasks so far had their turns
abbrev pub invariant-loop-i : goal.invariant-loop-i
invariant-loop-i g l = record {
  lone : IsLoneOf l.board l.lone;
  tasks : length l.lone.seats ≡ length l.fn.lone.seats;
  wide : length l.noted.until.items ≡ (run_of l.board.known).tasks;
  few : l.did ≤ 1024 * l.i;
  steps : l.steps ≤ l.fn.steps + 2 * (l.i + l.did);
  told : (r : ClockPart) (list : List Event) → StandsIn (run_of l.board.known) l.fn.lone r list → AreNoted (run_of l.board.known) l.fn.noted.until.items (reached (run_of l.board.known) list) →
      Sweeps (run_of l.board.known) l.lone r list l.noted.until.items l.noted.soon l.did l.i;
}

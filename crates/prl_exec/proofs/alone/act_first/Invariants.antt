use Rattle.std.specs.Prelude.{◌≡◌, ◌+◌, ◌*◌, ◌<◌, ◌≤◌, ℕ, List, length}
use Rattle.prl_plan.specs.Rules.{KeepsGated}
use Rattle.prl_plan.specs.declared.events.Event.{Event}
use Rattle.prl_rule.specs.Vocabulary.{run_of, reached}
use Rattle.prl_rule.specs.declared.views.ClockPart.{ClockPart}
use Rattle.prl_board.specs.Lones.{IsLoneOf}
use Rattle.prl_exec.specs.Standing.{StandsIn, act_of}
use Rattle.prl_exec.proofs.alone.act_first.Given as goal

-- the next actions of the tasks so far may not come
abbrev pub invariant-loop-i : goal.invariant-loop-i
invariant-loop-i g l = record {
  lone : IsLoneOf l.board l.lone;
  tasks : length l.lone.seats ≡ length l.fn.lone.seats;
  steps : l.steps ≤ l.fn.steps + 2 * l.i;
  told : (r : ClockPart) (list : List Event) → StandsIn (run_of l.board.known) l.fn.lone r list →
      StandsIn (run_of l.board.known) l.lone r list × ((j : ℕ) → j < l.i → KeepsGated (run_of l.board.known) (reached (run_of l.board.known) list) (act_of j) → ⊥);
}

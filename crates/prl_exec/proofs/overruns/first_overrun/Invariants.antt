use Rattle.std.specs.Prelude.{◌≡◌, length}
use Rattle.prl_board.specs.Lones.{IsLoneOf}
use Rattle.prl_exec.proofs.overruns.first_overrun.Given as goal

-- all tasks' seats are there
abbrev pub invariant-loop-i : goal.invariant-loop-i
invariant-loop-i g l = record {
  lone : IsLoneOf l.board l.lone;
  tasks : length l.lone.seats ≡ length l.fn.lone.seats;
}

use Rattle.std.specs.Prelude.{◌<◌, ◌≤◌, ℕ, slice_index}
use Rattle.prl_plan.specs.Facts.{IsJob}
use Rattle.prl_rule.specs.Known.{run_of}
use Rattle.prl_board.proofs.clocks.ClockSeat.least_due.Given as goal

-- of the tasks so far no such job is due earlier
abbrev pub invariant-loop-i : goal.invariant-loop-i
invariant-loop-i l = (j n : ℕ) → j < l.i → IsJob (run_of l.board.known) j n → slice_index l.self.looks j ≤ n → l.least ≤ (run_of l.board.known).deadline j n

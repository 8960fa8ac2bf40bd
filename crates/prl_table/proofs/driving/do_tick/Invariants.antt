use Rattle.std.specs.Prelude.{◌≡◌, length}
use Rattle.prl_board.specs.Lones.{IsLoneOf}
use Rattle.prl_rule.specs.Known.{run_of}
use Rattle.prl_table.specs.Noted.{AreNoted, HaveRoom}
use Rattle.prl_table.specs.code.Driving.{acts_at, IsDriven}
use Rattle.prl_table.proofs.driving.do_tick.Given as goal

-- the tasks so far have done what they do at this tick
abbrev pub invariant-loop-i : goal.invariant-loop-i
invariant-loop-i g l = record {
  lone : IsLoneOf l.board l.driver.lone;
  tasks : length l.driver.lone.seats ≡ length l.fn.driver.lone.seats;
  noted : length l.next.items ≡ length l.fn.next.items;
  driven : IsDriven l.board.known l.table l.driver.lone l.next.items l.now l.i;
  room : HaveRoom (run_of l.board.known) l.driver.noted;
  before : AreNoted (run_of l.board.known) (acts_at l.board.known l.table) l.now l.i l.driver.noted;
}

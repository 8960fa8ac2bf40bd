use Rattle.std.specs.Prelude.{◌≡◌, length}
use Rattle.prl_board.specs.Lones.{IsLoneOf}
use Rattle.prl_rule.specs.Known.{run_of}
use Rattle.prl_table.specs.Noted.{AreNoted, HaveRoom}
use Rattle.prl_table.specs.code.Driving.{acts_at, IsDriven}
use Rattle.prl_table.proofs.driving.run_table.Given as goal

-- what comes before this tick has been done
abbrev pub invariant-loop-now : goal.invariant-loop-now
invariant-loop-now g l = record {
  lone : IsLoneOf l.board l.driver.lone;
  noted : length l.next.items ≡ length l.fn.next.items;
  driven : IsDriven l.board.known l.table l.driver.lone l.next.items l.now 0;
  room : HaveRoom (run_of l.board.known) l.driver.noted;
  before : AreNoted (run_of l.board.known) (acts_at l.board.known l.table) l.now 0 l.driver.noted;
}

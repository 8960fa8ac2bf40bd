use Rattle.std.specs.Prelude.{◌≡◌, length}
use Rattle.prl_plan.specs.Facts.{HasPlanFacts}
use Rattle.prl_rule.specs.Known.{run_of}
use Rattle.prl_board.specs.Lones.{IsLoneOf}
use Rattle.prl_table.specs.code.Driving.{IsBoardOf}
use Rattle.prl_table.proofs.Driven.{IsDoing, OneMore}
use Rattle.prl_table.proofs.noted.do_all.Given as goal

-- so many actions of the job have been done
abbrev pub invariant-loop-place : goal.invariant-loop-place
invariant-loop-place g l = record {
  lone : IsLoneOf l.board l.lone;
  tasks : length l.lone.seats ≡ length l.fn.lone.seats;
  doing : (is : IsBoardOf l.board.known l.table) (facts : HasPlanFacts (run_of l.board.known)) (state : OneMore (run_of l.board.known)) →
      IsDoing l.board.known l.table is facts state l.lone l.next.items l.now l.task.0 l.job l._place;
}

use Rattle.prl_base.proofs.Standard.{◌≡◌, ◌<◌, ℕ, Some, slice_get}
use Rattle.prl_seats.specs.JobSeats.{JobSeatView}
use Rattle.prl_board.specs.Vocabulary.{IsLoneOf, StandAs, IsSettled, KeepHalves}
use Rattle.prl_board.proofs.lone.Lone.settle_all.Given as goal

-- the parts of the tasks so far stand where their seats do
abbrev pub invariant-loop-i : goal.invariant-loop-i
invariant-loop-i l = record {
  lone : IsLoneOf l.board l.self;
  stand : StandAs l.initial.self.seats l.self.seats;
  clock : l.self.view.clock ≡ l.initial.self.view.clock;
  halves : KeepHalves l.initial.self.view l.self.view;
  settled : (j : ℕ) (s : JobSeatView) → j < l.i → slice_get l.self.seats j ≡ Some s → IsSettled l.self.view j s;
}

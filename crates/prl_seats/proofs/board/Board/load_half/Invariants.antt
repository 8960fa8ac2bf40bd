use Rattle.std.specs.Prelude.{ℕ}
use Rattle.prl_base.specs.declared.numbers.EdgeNo.{EdgeNo}
use Rattle.prl_plan.specs.declared.events.Action.TheVariants as actions
use Rattle.prl_rule.specs.Vocabulary.{HalfTold, part_at, run_of, StandsAt}
use Rattle.prl_seats.proofs.board.Board.load_half.Given as goal

abbrev pub ghosts-load : goal.ghosts-load
ghosts-load a = record {
  told = λ before n after. (port : ℕ) (e : EdgeNo) (m h : ℕ) →
      StandsAt (run_of a.self.now.known) a.task (part_at a.self.now.known a.task a.place before).stand (actions.Read port e m (record { 0 = h })) →
      HalfTold a.self.now.known a.task a.place e.0 m h before n after;
}

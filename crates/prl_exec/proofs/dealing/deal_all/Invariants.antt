use Rattle.std.specs.Prelude.{◌≡◌, ◌+◌, ◌%◌, ◌<◌, ◌≤◌, ◌⊎◌, ℕ, length}
use Rattle.std.specs.Vec.{vec_items}
use Rattle.prl_rule.specs.Known.{run_of}
use Rattle.prl_seats.specs.Boards.{BoardView}
use Rattle.prl_exec.specs.code.Hands.{AreDealt, AreHeld, Has}
use Rattle.prl_exec.proofs.dealing.deal_all.Given as goal

-- the workers so far have their seats
abbrev pub invariant-loop-worker : goal.invariant-loop-worker
invariant-loop-worker l = record {
  count : length (vec_items l.hands) + 1 ≡ l.worker;
  held : (b : BoardView) → AreHeld b (vec_items l.fn.all) → AreHeld b (vec_items l.all);
  left : (i : ℕ) → (i % l.workers ≡ 0) ⊎ (l.worker ≤ i % l.workers) → Has (vec_items l.fn.all) i → Has (vec_items l.all) i;
  dealt : (b : BoardView) → AreHeld b (vec_items l.fn.all) → ((i : ℕ) → i < (run_of b.known).tasks → Has (vec_items l.fn.all) i) →
      AreDealt (AreHeld b) (run_of b.known).tasks l.workers (vec_items l.hands);
}

use Rattle.std.specs.Prelude.{◌≡◌, ℕ, length}
use Rattle.std.specs.Vec.{vec_items}
use Rattle.prl_exec.specs.code.Hands.{Has}
use Rattle.prl_exec.proofs.dealing.nones.Given as goal

-- no slot so far has a seat
abbrev pub invariant-loop : goal.invariant-loop
invariant-loop l = record {
  count : length (vec_items l.all) ≡ l.counter;
  none : (i : ℕ) → Has (vec_items l.all) i → ⊥;
}

-- Leading `*^`, and words whose operands are each read by several jobs in turn.
use Rattle.std.specs.Prelude.{◌≡◌, ◌*◌, ◌/◌, ◌<◌, ◌≤◌, ℕ, List, length, drop, slice_get}
use Rattle.prl_base.specs.declared.operators.Op.{Op}
use Rattle.prl_plan.specs.declared.words.Word.{Word}
use Rattle.prl_plan.specs.Operands.{walk}
use Rattle.prl_words.specs.Counts.{HaveCounts}

-- Behind the first `count` operators, `times` jobs in turn read the same.
pub record IsLeading (ops : List Op) (count times : ℕ) : Type 0 where
  pub within : count ≤ length ops
  pub some : 1 ≤ times
  pub walks : (n : ℕ) → walk ops n ≡ walk (drop count ops) (n / times)
  pub counts : (jobs : ℕ) → HaveCounts ops jobs → (before : ℕ) × HaveCounts (drop count ops) before × (jobs ≡ times * before)

-- each element so many times
pub record IsSpread {A : Type 0} (list : List A) (times : ℕ) (longer : List A) : Type 0 where
  pub long : length longer ≡ length list * times
  pub each : (n : ℕ) → n < length list * times → slice_get longer n ≡ slice_get list (n / times)

-- the word `t` is the word `w` with each operand read by so many jobs in turn
pub record IsHeld (times : ℕ) (w t : Word) : Type 0 where
  pub prefix : IsSpread w.prefix times t.prefix
  pub repeat : IsSpread w.repeat times t.repeat
  pub step_in : t.step_in ≡ w.step_in * times
  pub step_out : t.step_out ≡ w.step_out

-- After how many jobs the jobs that precede them come again.
use Rattle.std.specs.Prelude.{◌≡◌, ◌*◌, ◌≤◌, ℕ, ℤ, pos, ◌+ℤ◌, List, [], ◌∷◌}
use Rattle.prl_base.specs.declared.operators.Op.{Op}
use Rattle.prl_plan.specs.Precedence.{preceding}
use Rattle.prl_dates.specs.declared.turns.Turn.{Turn}

-- so many jobs later the job that precedes is so many jobs later
abbrev pub StepsBy : List Op → ℕ → ℕ → Type 0
StepsBy ops jobs higher = (n : ℤ) → preceding ops (n +ℤ pos jobs) ≡ preceding ops n +ℤ pos higher

-- a whole number of turns, with one more operator at the producer's end
pub record IsTurnUnder (op : Op) (turn after : Turn) : Type 0 where
  pub times : ℕ
  pub some : 1 ≤ times
  pub jobs : after.jobs ≡ turn.jobs * times
  pub steps : StepsBy (op ∷ []) (turn.higher * times) after.higher

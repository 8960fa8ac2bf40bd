-- The first jobs of a task.
use Rattle.std.specs.Prelude.{◌<◌, ◌≤◌, ℕ}
use Rattle.prl_base.specs.declared.operators.Clock.{Clock}

pub record IsEarly (clock : Clock) (n : ℕ) : Type 0 where
  pub number : n ≤ 1000
  pub start : clock.start < 1000000
  pub period : clock.period < 1000

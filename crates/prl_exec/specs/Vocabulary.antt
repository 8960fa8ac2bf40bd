-- The words of this crate that clauses and proofs use, from one place.
pub use Rattle.prl_exec.specs.Runs.{HasStopped, IsGivenTo}
pub use Rattle.prl_exec.specs.Standing.{HasSeen, HasSeenDue, IsPolled, RunLaws, StandsIn, act_of}
pub use Rattle.prl_exec.specs.code.Alone.{AreNoted, HasRunOn, HasTurned, IsIdle, IsLeftOver, IsOver, KeepsNoted, RunsOn, Sweeps}
pub use Rattle.prl_exec.specs.code.Hands.{AreHeld, Has, KeepSeats}
pub use Rattle.prl_exec.specs.code.Overruns.{IsOverrunIn, IsReadingAt}
pub use Rattle.prl_exec.specs.code.Polls.{IsPut, IsSlotOf, IsSlotPolled, IsTaken}
pub use Rattle.prl_exec.specs.declared.overruns.Missed.{Missed}
pub use Rattle.prl_exec.specs.declared.runs.Stopped.{Stopped}

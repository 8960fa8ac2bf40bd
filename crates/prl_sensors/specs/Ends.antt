-- Where the rows of actuators end.
use Rattle.std.specs.Prelude.{◌<◌, ℕ, length}
use Rattle.prl_base.specs.Clocks.{IsClock, date_at}
use Rattle.prl_flow.specs.declared.programs.OutFlow.{OutFlow}

-- an actuator on a clock, each of whose values is before the date `end`
pub record EndsBefore (end : ℕ) (out : OutFlow) : Type 0 where
  pub clock : IsClock out.clock
  pub dates : (k : ℕ) → k < length out.values → date_at out.clock k < end

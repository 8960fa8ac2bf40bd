-- Machines, as contracts see them.
use Rattle.std.specs.Prelude.{ℕ, List}
use Rattle.prl_base.specs.declared.values.Value.{Value}

pub record MachineState : Type 0 where
  pub registers : List Value
  -- the number of its steps
  pub steps : ℕ

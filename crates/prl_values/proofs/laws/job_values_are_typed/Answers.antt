use Rattle.prl_values.proofs.Typed.{edges_are_typed, reads_are_typed, registers_are_typed}
use Rattle.prl_values.proofs.laws.job_values_are_typed.Goals as goal

pub returns : goal.returns
returns c = record { edges = edges_are_typed; reads = reads_are_typed; registers = registers_are_typed }

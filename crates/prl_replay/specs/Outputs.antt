-- The flows of main's outputs, put together from clocks and values of all flows.
use Rattle.std.specs.Prelude.{◌+◌, ℕ, List, [], ◌∷◌}
use Rattle.prl_base.specs.declared.numbers.FlowNo.{FlowNo}
use Rattle.prl_base.specs.declared.operators.Clock.{Clock}
use Rattle.prl_base.specs.declared.values.Value.{Value}
use Rattle.prl_flow.specs.declared.programs.OutFlow.{OutFlow}
use Rattle.prl_flow.specs.Programs.{Device, name_of}
use Rattle.prl_flow.specs.Solutions.{clock_of, values_of}

-- the flow of main's output of number k, with its name and clock
abbrev pub out_flow : List Device → List Clock → List (List Value) → ℕ → FlowNo → OutFlow
out_flow devices clocks flows k flow =
    record { name = name_of devices k; clock = clock_of clocks flow.0; values = values_of flows flow.0 }

-- the flows of main's outputs from number k on
abbrev pub out_flows : List Device → List Clock → List (List Value) → ℕ → List FlowNo → List OutFlow
out_flows devices clocks flows k [] = []
out_flows devices clocks flows k (flow ∷ rest) =
    out_flow devices clocks flows k flow ∷ out_flows devices clocks flows (k + 1) rest

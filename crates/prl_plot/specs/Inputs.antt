-- The sensors of a program.
use Rattle.std.specs.Prelude.{◌≡◌, ℕ, List, length, map, slice_index_or}
use Rattle.std.specs.List.{range_with_len}
use Rattle.prl_base.specs.declared.operators.Clock.{Clock}
use Rattle.prl_flow.specs.Programs.{FlatProgram, name_of}
use Rattle.prl_flow.specs.Solutions.{clock_of}
use Rattle.prl_stages.specs.Given.{Given}
use Rattle.prl_stages.specs.Flattened.{HasClocks}
use Rattle.prl_plot.specs.declared.forms.Input.{Input}

-- the sensor of main's input `k`: the name of the input, and the clock of its flow
abbrev pub input_of : FlatProgram → List Clock → ℕ → Input
input_of flat clocks k = record {
  name = name_of flat.in_devices k;
  clock = clock_of clocks (slice_index_or flat.ins k (record { 0 = 0 })).0;
}

-- the sensors of main's inputs, in order
abbrev pub inputs_of : FlatProgram → List Clock → List Input
inputs_of flat clocks = map (input_of flat clocks) (range_with_len 0 (length flat.ins))

-- the sensors of the program that is given
abbrev pub AreInputsOf : Given → List Input → Type 0
AreInputsOf g inputs = (flat : FlatProgram) × (clocks : List Clock) × HasClocks g flat clocks × (inputs ≡ inputs_of flat clocks)

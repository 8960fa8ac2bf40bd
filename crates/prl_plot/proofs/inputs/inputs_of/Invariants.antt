use Rattle.std.proofs.Common.{◌≡◌, map}
use Rattle.std.specs.List.{range_with_len}
use Rattle.prl_plot.specs.Inputs.{input_of}
use Rattle.prl_plot.proofs.inputs.inputs_of.Given as goal

-- the sensors of the inputs that were passed
abbrev pub invariant-loop-k : goal.invariant-loop-k
invariant-loop-k l = l.inputs.items ≡ map (input_of l.flat l.clocks.of) (range_with_len 0 l.k)

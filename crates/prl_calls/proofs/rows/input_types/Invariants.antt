use Rattle.prl_base.proofs.Standard.{◌≡◌, take}
use Rattle.prl_stages.specs.Vocabulary.{inputs_of}
use Rattle.prl_calls.proofs.rows.input_types.Given as goal

-- the types of the flows so far
abbrev pub invariant-loop-flow : goal.invariant-loop-flow
invariant-loop-flow l = l.types.items ≡ take l.flow-index (inputs_of l.flat).types

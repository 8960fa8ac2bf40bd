use Rattle.std.proofs.Common.{◌≡◌, ◌++◌, drop}
use Rattle.prl_types.specs.Vocabulary.{argument_rules, flows_in}
use Rattle.prl_types.proofs.rules.add_arguments.Given as goal

abbrev pub invariant-loop-segment : goal.invariant-loop-segment
invariant-loop-segment l = (l.rules.count ≡ l.initial.rules.count) × (l.rules.rules ++ argument_rules l.rest (flows_in (drop l.segment-index l.segments)) ≡ l.initial.rules.rules ++ argument_rules l.inputs (flows_in l.segments))

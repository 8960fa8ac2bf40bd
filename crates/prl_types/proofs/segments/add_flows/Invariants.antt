use Rattle.std.proofs.Common.{◌≡◌, ◌++◌, drop}
use Rattle.prl_types.specs.Vocabulary.{placed, terms_in, flows_in}
use Rattle.prl_types.proofs.segments.add_flows.Given as goal

abbrev pub invariant-loop-segment : goal.invariant-loop-segment
invariant-loop-segment l = flows_in l.list.items ++ placed l.at (terms_in (drop l.segment-index l.segments)) ≡ flows_in l.initial.list.items ++ placed l.at (terms_in l.segments)

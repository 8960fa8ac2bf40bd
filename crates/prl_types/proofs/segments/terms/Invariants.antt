use Rattle.std.proofs.Common.{◌≡◌, ◌++◌, drop}
use Rattle.prl_types.specs.code.Segments.{terms_in}
use Rattle.prl_types.proofs.segments.terms.Given as goal

abbrev pub invariant-loop-segment : goal.invariant-loop-segment
invariant-loop-segment l = l.list.items ++ terms_in (drop l.segment-index l.segments) ≡ terms_in l.segments

use Rattle.std.proofs.Common.{◌≡◌, length, map, reverse}
use Rattle.prl_syntax.specs.Vocabulary.{declared_view, declarations_view, followed_by, program_of}
use Rattle.prl_syntax.proofs.nodes.by_kind.Given as goal

abbrev pub invariant-each : goal.invariant-each
invariant-each l = followed_by (declarations_view l.sorted) (program_of (map declared_view (reverse l.declarations.items))) ≡ program_of (map declared_view (reverse l.fn.backward.items))

abbrev pub decreases-each : goal.decreases-each
decreases-each l = length l.declarations.items

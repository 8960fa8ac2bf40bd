use Rattle.std.proofs.Common.{◌≡◌, ◌++◌, take, drop, length}
use Rattle.prl_names.specs.Marks.{or_marks}
use Rattle.prl_names.proofs.applications.or_marks.Given as goal

abbrev pub invariant-loop-k : goal.invariant-loop-k
invariant-loop-k l =
    (length l.marks.items ≡ length l.others)
    × (take l.k l.marks.items ++ or_marks (drop l.k l.marks.items) (drop l.k l.others) ≡ or_marks l.initial.marks.items l.others)

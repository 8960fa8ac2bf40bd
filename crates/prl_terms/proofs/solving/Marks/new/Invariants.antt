use Rattle.std.proofs.Common.{map}
use Rattle.prl_terms.proofs.Starting.{AreSingle}
use Rattle.prl_terms.proofs.solving.Marks.new.Given as goal

abbrev pub invariant-loop-k : goal.invariant-loop-k
invariant-loop-k l = AreSingle l.marks.items (map (λ c. c.items) l.members.items) l.k

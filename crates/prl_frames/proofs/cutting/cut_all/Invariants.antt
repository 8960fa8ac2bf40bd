use Rattle.prl_base.proofs.Standard.{◌≡◌, take}
use Rattle.prl_frames.specs.code.Making as making
use Rattle.prl_frames.proofs.cutting.cut_all.Given as goal

-- the slots of the entries so far
abbrev pub invariant-loop-entry : goal.invariant-loop-entry
invariant-loop-entry l = l.slots.items ≡ making.cut_all l.plan.graph.hyper l.entries (take l.entry-index l.entries)

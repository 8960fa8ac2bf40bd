use Rattle.prl_base.proofs.Standard.{◌≡◌, ◌++◌, ◌≤◌, drop}
use Rattle.prl_frames.specs.Frames.{AreInOrder}
use Rattle.prl_frametext.specs.Texts.{lines_from}
use Rattle.prl_frametext.proofs.texts.push_lines.Given as goal

-- the lines so far, and those of the slots that are left
abbrev pub invariant-loop-slot : goal.invariant-loop-slot
invariant-loop-slot l = record {
  so_far : l.text.items ++ lines_from l.plan.graph l.from (drop l.slot-index l.slots) ≡ l.fn.text.items ++ lines_from l.plan.graph 0 l.fn.slots;
  order : AreInOrder l.hyper l.from (drop l.slot-index l.slots);
}

use Rattle.prl_base.proofs.Standard.{◌≡◌, ◌+◌, ◌++◌, ◌≤◌, drop}
use Rattle.prl_frames.specs.Frames.{AreInOrder}
use Rattle.prl_frames.specs.code.Making as making
use Rattle.prl_frames.proofs.joining.join.Given as goal

-- what is joined so far, and the slot that others may go on from
abbrev pub invariant-loop-next : goal.invariant-loop-next
invariant-loop-next l = record {
  so_far : l.list.items ++ making.join_onto l.one (drop l.next-index l.rest) ≡ making.join l.fn.slots;
  within : l.one.at + l.one.units ≤ l.hyper;
  order : AreInOrder l.hyper (l.one.at + l.one.units) (drop l.next-index l.rest);
}

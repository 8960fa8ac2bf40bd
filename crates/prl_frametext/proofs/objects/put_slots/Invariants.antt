use Rattle.prl_base.proofs.Standard.{◌≡◌, ◌++◌, take}
use Rattle.prl_frametext.specs.Objects.{slots_tokens}
use Rattle.prl_frametext.proofs.objects.put_slots.Given as goal

abbrev pub invariant-loop-slot : goal.invariant-loop-slot
invariant-loop-slot l = (l.w.tokens ≡ l.fn.w.tokens ++ slots_tokens l.plan.graph (take l.slot-index l.slots)) × (l.w.before ≡ l.fn.w.before)

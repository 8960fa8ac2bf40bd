use Rattle.std.proofs.Common.{◌-◌, length}
use Rattle.prl_causal.specs.Vocabulary.{AreOpened, IsUnderWay, UsesBy}
use Rattle.prl_causal.proofs.searches.follow.Given as goal

abbrev pub invariant-loop-done : goal.invariant-loop-done
invariant-loop-done l = record {
  way : IsUnderWay (UsesBy l.flat l.sources) (length l.sources) l.from l.done l.reached.items l.marks;
  opened : AreOpened l.flat l.marks l.opened;
}

abbrev pub decreases-loop-done : goal.decreases-loop-done
decreases-loop-done l = length l.sources - l.done

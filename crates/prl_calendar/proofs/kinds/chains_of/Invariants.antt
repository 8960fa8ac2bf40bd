use Rattle.std.specs.BTreeMap.{get}
use Rattle.prl_calendar.specs.Kinds.{AreChained, AreLasts, pair_order}
use Rattle.prl_calendar.proofs.kinds.chains_of.Given as goal

abbrev pub invariant-loop-place : goal.invariant-loop-place
invariant-loop-place l = AreChained l.clocks l.place l.following.items l.firsts.items × AreLasts l.clocks l.place (get pair_order l.last)

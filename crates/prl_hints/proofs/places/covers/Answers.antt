use Rattle.std.proofs.Common.{◌∙◌, sym}
use Rattle.prl_hints.proofs.Ends.{found, passed_on}
use Rattle.prl_hints.proofs.places.covers.Goals as goal

pub returns-then-begins_before : goal.returns-then-begins_before
returns-then-begins_before c = found _ _ _ _ c.loop-passed-test.true (sym c.begins_before.ensures ∙ c.if-begins_before.true) c.loop-passed.invariant

pub loop-passed-preserved : goal.loop-passed-preserved
loop-passed-preserved c = passed_on _ _ _ _ c.loop-passed-test.true (sym c.begins_before.ensures ∙ c.if-begins_before.false) c.loop-passed.invariant

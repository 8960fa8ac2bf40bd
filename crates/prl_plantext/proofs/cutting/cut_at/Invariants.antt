use Rattle.std.proofs.Common.{◌≡◌, ◌++◌, drop, take}
use Rattle.prl_plantext.specs.code.Graphs.{after, before}
use Rattle.prl_plantext.proofs.cutting.cut_at.Given as goal

abbrev pub invariant-loop-i : goal.invariant-loop-i
invariant-loop-i l = (take l.i l.text ++ before l.end (drop l.i l.text) ≡ before l.end l.text) × (after l.end (drop l.i l.text) ≡ after l.end l.text)

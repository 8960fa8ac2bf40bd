use Rattle.std.proofs.Common.{◌≡◌, ◌++◌, drop}
use Rattle.prl_shown.specs.Shown.{shown, shown_from}
use Rattle.prl_shown.proofs.bytes.push_shown.Given as goal

-- with what comes of the bytes that are left it is all
abbrev pub invariant-loop-i : goal.invariant-loop-i
invariant-loop-i l = l.text.items ++ shown_from l.lines l.left (drop l.i l.bytes) ≡ l.initial.text.items ++ shown l.lines l.bytes

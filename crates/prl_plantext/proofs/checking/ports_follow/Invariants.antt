use Rattle.std.proofs.Common.{◌≡◌, ◌≤◌, drop}
use Rattle.prl_plantext.specs.code.Checks.{ports_follow}
use Rattle.prl_plantext.proofs.checking.ports_follow.Given as goal

abbrev pub invariant-loop-edge : goal.invariant-loop-edge
invariant-loop-edge l =
    (ports_follow l.task l.port (drop l.edge-index l.edges) ≡ ports_follow l.first 0 l.edges) × (l.port ≤ l.edge-index)

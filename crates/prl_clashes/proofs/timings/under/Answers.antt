use Rattle.std.proofs.Common.{sym, ◌∙◌}
use Rattle.prl_clashes.proofs.WayFacts.{same_timing, under_is}
use Rattle.prl_clashes.proofs.timings.under.Goals as goal

pub returns-then-eq : goal.returns-then-eq
returns-then-eq c =
    let same = same_timing c.in_ok-again.again c.args.timing.now (sym c.eq.ensures ∙ c.if-eq.true) in
    under_is c.args.link.now c.in_ok-found.found c.in_ok-again.again c.args.timing.now c.in_ok-again.ensures same

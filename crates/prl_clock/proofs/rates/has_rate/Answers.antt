use Rattle.prl_clock.proofs.Rated.{reduced_only, reduced_past}
use Rattle.prl_clock.proofs.Terms.{same_test, clash}
use Rattle.prl_clock.proofs.rates.has_rate.Goals as goal

pub returns-in-Ok-clause-no : goal.returns-in-Ok-clause-no
returns-in-Ok-clause-no c =
    λ e k.
    clash c.eq.ensures e (same_test c.in-Ok.timing c.args.clock (reduced_only c.args.rate.now c.requires c.in-Ok.timing c.args.clock c.in-Ok.ensures.timing k))

pub returns-in-Err-clause-no : goal.returns-in-Err-clause-no
returns-in-Err-clause-no c = λ _ k. reduced_past c.args.rate.now c.requires c.args.clock c.in-Err.ensures.past k

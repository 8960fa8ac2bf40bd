use Rattle.prl_clock.proofs.Terms.{composed_only, past_composed, clash, same_test}
use Rattle.prl_clock.proofs.timings.fits.Goals as goal

pub returns-in-Ok-clause-no : goal.returns-in-Ok-clause-no
returns-in-Ok-clause-no c =
    λ e k.
    let same = composed_only c.args.link c.args.second c.in-Ok.timing c.args.whole c.requires.link c.requires.second c.in-Ok.ensures.small c.requires.whole c.in-Ok.ensures.composed k in
    clash (c.eq.ensures) e (same_test c.in-Ok.timing c.args.whole same)

pub returns-in-Err-clause-no : goal.returns-in-Err-clause-no
returns-in-Err-clause-no c =
    λ _ k. past_composed c.args.link c.args.second c.args.whole c.args.whole c.requires.link c.requires.second c.in-Err.ensures.past c.requires.whole k

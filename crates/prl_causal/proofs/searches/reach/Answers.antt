use Rattle.prl_causal.proofs.Searching.{adds_one}
use Rattle.prl_causal.proofs.searches.reach.Goals as goal

pub returns : goal.returns
returns c =
    rw c.in_ok-push.ensures.items (adds_one c.args.flow.0 c.args.reached.now.items c.args.marks.now c.requires.list c.requires.within c.if-marks-flow.false)

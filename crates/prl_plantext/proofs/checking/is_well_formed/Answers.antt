use Rattle.std.proofs.Common.{sym, ◌∙◌}
use Rattle.prl_plantext.proofs.CheckedGraphs.{well_formed_tells}
use Rattle.prl_plantext.proofs.checking.is_well_formed.Goals as goal

pub returns : goal.returns
returns c =
    let tells = well_formed_tells c.args.graph.now in
    (λ e. tells.so (sym c.passes.ensures ∙ e), λ is. c.passes.ensures ∙ tells.then is)

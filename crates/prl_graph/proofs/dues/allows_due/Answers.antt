use Rattle.prl_base.proofs.Standard.{sym, ◌∙◌, false≢true}
use Rattle.prl_graph.specs.Dues.{copy}
use Rattle.prl_graph.proofs.DueFacts.{nowhere_allowed, output_marked}
use Rattle.prl_graph.proofs.dues.allows_due.Goals as goal

pub returns-in-Some-clause-yes : goal.returns-in-Some-clause-yes
returns-in-Some-clause-yes c = λ e. copy c.in-Some.field-0 c.in-Some.ensures

pub returns-in-None-clause-no : goal.returns-in-None-clause-no
returns-in-None-clause-no c = λ e.
    nowhere_allowed c.args.flat.now c.args.i (c.is_input.ensures.no c.if-is_input.false)
    (λ out. false≢true (sym c.if-outputs-i.false ∙ output_marked c.args.flat.now c.args.outputs.now c.args.i c.requires.outputs out))
    c.in-None.ensures

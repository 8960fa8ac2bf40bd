use Rattle.prl_base.proofs.Standard.{sym, ◌∙◌, false≢true}
use Rattle.prl_graph.proofs.DueFacts.{binding_is, marked_output, no_due, output_marked}
use Rattle.prl_graph.proofs.Lists.{item_of}
use Rattle.prl_graph.proofs.leasts.binding_due.Goals as goal

pub returns-then-outputs-i : goal.returns-then-outputs-i
returns-then-outputs-i c = λ k due b. b.local (marked_output c.args.flat.now c.args.outputs.now c.args.i c.requires.outputs c.if-outputs-i.true)

pub returns-in-Some-copied_application : goal.returns-in-Some-copied_application
returns-in-Some-copied_application c =
    binding_is c.args.flat.now c.args.i c.in-Some-copied_application.app c.in-Some.due c.index-flows-i.result
    (item_of c.flows-flows.result.now c.args.flat.now.flows c.args.i c.index-flows-i.result c.flows-flows.ensures.flows c.requires.within c.index-flows-i.is)
    c.in-Some.is c.in-Some-copied_application.ensures
    (λ out. false≢true (sym c.if-outputs-i.false ∙ output_marked c.args.flat.now c.args.outputs.now c.args.i c.requires.outputs out))

pub returns-in-None-copied_application : goal.returns-in-None-copied_application
returns-in-None-copied_application c = λ k due b. c.in-None-copied_application.ensures k b.copies

pub returns-in-None : goal.returns-in-None
returns-in-None c = λ k due b.
    no_due c.args.flat.now c.args.i due c.index-flows-i.result
    (item_of c.flows-flows.result.now c.args.flat.now.flows c.args.i c.index-flows-i.result c.flows-flows.ensures.flows c.requires.within c.index-flows-i.is)
    c.in-None.is b.notes

use Rattle.prl_base.proofs.Standard.{rules, ◌≡◌, Some, None, slice_get, ap, sym, ◌∙◌, slice_get_past, slice_get_read}
use Rattle.prl_plantext.specs.code.Checks.{is_task, leads_into}
use Rattle.prl_plantext.proofs.Lists.{passes_at, start_is_small}
use Rattle.prl_plantext.proofs.checking.is_edge.Goals as goal

pub is_edge_into-requires-clause-start : goal.is_edge_into-requires-clause-start
is_edge_into-requires-clause-start c =
    let at : slice_get c.args.tasks.now c.args.edge.now.to.0 ≡ Some c.in-Some.consumer.now = search (rules, slice_get_read) in
    start_is_small c.args.hyper c.in-Some.consumer.now
    (passes_at (is_task c.args.hyper) c.args.tasks.now c.requires.tasks c.args.edge.now.to.0 c.in-Some.consumer.now at)

pub returns-in-Some : goal.returns-in-Some
returns-in-Some c =
    let at : slice_get c.args.tasks.now c.args.edge.now.to.0 ≡ Some c.in-Some.consumer.now = search (rules, slice_get_read) in
    c.is_edge_into.ensures ∙ ap (leads_into c.args.hyper c.args.tasks.now c.args.edge.now) (sym at)

pub returns-in-None : goal.returns-in-None
returns-in-None c =
    let none : slice_get c.args.tasks.now c.args.edge.now.to.0 ≡ None = search (rules, slice_get_past) in
    ap (leads_into c.args.hyper c.args.tasks.now c.args.edge.now) (sym none)

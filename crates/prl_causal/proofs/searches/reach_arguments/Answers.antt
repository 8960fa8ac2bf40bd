use Rattle.prl_flow.specs.Uses.{IsArgument}
use Rattle.prl_causal.proofs.Searching.{adds_arguments, adds_known, opened_set}
use Rattle.prl_causal.proofs.searches.reach_arguments.Goals as goal

pub returns-clause-adds : goal.returns-clause-adds
returns-clause-adds c =
    adds_arguments c.args.flat.now c.args.app c.arguments.result.now c.args.reached.now.items c.reach_all.new.reached.items c.args.marks.now c.reach_all.new.marks
    c.arguments.ensures.arguments c.in_ok-reach_all.ensures

pub returns-clause-opened : goal.returns-clause-opened
returns-clause-opened c =
    opened_set c.args.flat.now c.args.app c.args.reached.now.items c.reach_all.new.reached.items c.args.marks.now c.reach_all.new.marks c.args.opened.now c.requires.search.opened
    (adds_arguments c.args.flat.now c.args.app c.arguments.result.now c.args.reached.now.items c.reach_all.new.reached.items c.args.marks.now c.reach_all.new.marks
    c.arguments.ensures.arguments c.in_ok-reach_all.ensures)

pub returns-then-opened-app-clause-adds : goal.returns-then-opened-app-clause-adds
returns-then-opened-app-clause-adds c =
    adds_known c.args.reached.now.items c.args.marks.now (IsArgument c.args.flat.now c.args.app) c.requires.search.list (c.requires.search.opened.marked c.args.app c.if-opened-app.true)

use Rattle.prl_base.proofs.Standard.{Bool, true, false, ◌≡◌, refl, sym, not}
use Rattle.prl_graph.proofs.DueFacts.{misplaced_is, undue_placed}
use Rattle.prl_graph.proofs.Lists.{item_of}
use Rattle.prl_graph.proofs.dues.is_misplaced.Goals as goal

not_true : (b : Bool) → not b ≡ true → b ≡ false
not_true true e = sym e
not_true false e = refl

not_false : (b : Bool) → not b ≡ false → b ≡ true
not_false true e = refl
not_false false e = sym e

pub returns-in-Some-clause-yes : goal.returns-in-Some-clause-yes
returns-in-Some-clause-yes c = λ e.
    misplaced_is c.args.flat.now c.args.i c.in-Some.field-0 c.index-flows-i.result
    (item_of c.flows-flows.result.now c.args.flat.now.flows c.args.i c.index-flows-i.result c.flows-flows.ensures.flows c.requires.within c.index-flows-i.is)
    c.in-Some.is (c.allows_due.ensures.no (not_true c.allows_due.result e))

pub returns-in-Some-clause-no : goal.returns-in-Some-clause-no
returns-in-Some-clause-no c = λ e due notes. c.allows_due.ensures.yes (not_false c.allows_due.result e)

pub returns-in-None-clause-no : goal.returns-in-None-clause-no
returns-in-None-clause-no c = λ e.
    undue_placed c.args.flat.now c.args.i c.index-flows-i.result
    (item_of c.flows-flows.result.now c.args.flat.now.flows c.args.i c.index-flows-i.result c.flows-flows.ensures.flows c.requires.within c.index-flows-i.is)
    c.in-None.is

use Rattle.prl_syntax.proofs.Groups.{one_more}
use Rattle.prl_syntax.proofs.parameters.params_of.Goals as goal

pub each-preserved : goal.each-preserved
each-preserved c = one_more c.each.before.items c.pop.new.self.items c.in-Some.item c.each.note c.note_or-note.result c.param.result c.each.params.items c.push.new.self.items _
    c.in-Some.ensures.items c.note_or-note.ensures c.param.ensures c.in_ok-push.ensures.items c.each.invariant

use Rattle.std.proofs.Common.{sym, ◌∙◌, ap}
use Rattle.prl_table.specs.Made.{lengthened}
use Rattle.prl_table.proofs.Cuts.{lengthened_end}
use Rattle.prl_table.proofs.making.lengthen.Goals as goal

pub returns-in_ok-push-in-Some : goal.returns-in_ok-push-in-Some
returns-in_ok-push-in-Some c = c.in_ok-push-in-Some.ensures.items ∙ sym (ap lengthened c.in-Some.ensures.items ∙ lengthened_end c.pop.new.self.items c.in-Some.last)

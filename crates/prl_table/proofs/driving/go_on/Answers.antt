use Rattle.prl_table.proofs.Driven.{gone_on}
use Rattle.prl_table.proofs.driving.go_on.Goals as goal

pub returns-clause-driven : goal.returns-clause-driven
returns-clause-driven g c =
    gone_on c.args.board.now.known c.args.table.now c.requires.board c.run_laws.ensures.facts c.run_laws.ensures.state c.run_laws.ensures c.args.driver.now.lone c.args.next.now.items c.args.now
    c.requires.now c.requires.driven c.tick-ticked.new.self.lone c.tick-ticked.result c.tick-ticked.ensures.call c.tick-ticked.ensures.answer

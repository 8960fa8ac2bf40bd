use Rattle.prl_exec.proofs.Rounds.{ticked_on}
use Rattle.prl_exec.proofs.alone.tick.Goals as goal

pub returns-clause-told : goal.returns-clause-told
returns-clause-told g c = λ r list stands seen may.
    ticked_on c.args.board.now.known c.run_laws.ensures c.args.lone.now c.tick-ticked.new.self r list c.tick-ticked.result stands seen c.tick-ticked.ensures.call may
    (c.tick-ticked.ensures.answer r stands.clock)

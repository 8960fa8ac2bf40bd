use Rattle.prl_exec.proofs.Rounds.{looked_due, none_at}
use Rattle.prl_exec.proofs.alone.look_at.Goals as goal

pub returns-then-not-is_due-clause-told : goal.returns-then-not-is_due-clause-told
returns-then-not-is_due-clause-told g c = λ r list stands seen.
    (r, stands, none_at c.args.board.now.known c.args.lone.now r c.args.task.0 seen (c.if-not-is_due.ensures r stands.clock))

pub returns-clause-told : goal.returns-clause-told
returns-clause-told g c = λ r list stands seen.
    looked_due c.args.board.now.known c.args.lone.now c.look.new.self c.args.task.0 c.look.result r list c.requires.task stands seen c.look.ensures.call
    (c.look.ensures.told r stands.clock) c.look.ensures.exact

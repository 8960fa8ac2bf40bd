use Rattle.prl_exec.proofs.Calls.{early_polled, one_is_left, open_stands}
use Rattle.prl_exec.proofs.alone.begin.Goals as goal

pub returns-in-Open-clause-told : goal.returns-in-Open-clause-told
returns-in-Open-clause-told g c = λ r list stands.
    c.act.ensures.told r list
    (open_stands c.args.board.now.known c.run_laws.ensures c.args.task.0 c.args.lone.now c.release.new.self c.in-Open.job
    (c.stands.ensures c.args.board.now.known c.requires.lone.known) c.requires.place c.in-Open.ensures.call c.in-Open.ensures.exact r list stands)

pub returns-in-Early-clause-told : goal.returns-in-Early-clause-told
returns-in-Early-clause-told g c =
    early_polled c.args.board.now.known c.run_laws.ensures c.args.task.0 c.args.lone.now c.release.new.self c.in-Early.now c.in-Early.at
    (c.stands.ensures c.args.board.now.known c.requires.lone.known) c.requires.place c.in-Early.ensures.call c.in-Early.ensures.exact

pub returns-in-Over-clause-told : goal.returns-in-Over-clause-told
returns-in-Over-clause-told g c = λ r list stands.
    one_is_left c.args.board.now.known c.run_laws.ensures c.args.task.0 c.args.lone.now
    (c.stands.ensures c.args.board.now.known c.requires.lone.known) c.requires.place c.in-Over.ensures.exact r stands.clock

use Rattle.prl_board.specs.declared.seats.Got.TheVariants as gots
use Rattle.prl_exec.proofs.Calls.{read_polled}
use Rattle.prl_exec.proofs.alone.read.Goals as goal

pub returns-in-Half-clause-told : goal.returns-in-Half-clause-told
returns-in-Half-clause-told g c =
    read_polled c.args.board.now.known c.run_laws.ensures c.args.task.0 c.args.lone.now c.read.new.self gots.Half
    (c.stands.ensures c.args.board.now.known c.requires.lone.known) c.requires.place c.in-Half.ensures.call c.in-Half.ensures.exact

pub returns-in-Value-clause-told : goal.returns-in-Value-clause-told
returns-in-Value-clause-told g c =
    read_polled c.args.board.now.known c.run_laws.ensures c.args.task.0 c.args.lone.now c.read.new.self (gots.Value c.in-Value.field-0)
    (c.stands.ensures c.args.board.now.known c.requires.lone.known) c.requires.place c.in-Value.ensures.call c.in-Value.ensures.exact

pub returns-in-NotYet-clause-told : goal.returns-in-NotYet-clause-told
returns-in-NotYet-clause-told g c =
    read_polled c.args.board.now.known c.run_laws.ensures c.args.task.0 c.args.lone.now c.read.new.self (gots.NotYet c.in-NotYet.cell c.in-NotYet.wanted c.in-NotYet.found)
    (c.stands.ensures c.args.board.now.known c.requires.lone.known) c.requires.place c.in-NotYet.ensures.call c.in-NotYet.ensures.exact

pub returns-in-Overrun-clause-told : goal.returns-in-Overrun-clause-told
returns-in-Overrun-clause-told g c =
    read_polled c.args.board.now.known c.run_laws.ensures c.args.task.0 c.args.lone.now c.read.new.self (gots.Overrun c.in-Overrun.cell c.in-Overrun.wanted c.in-Overrun.found)
    (c.stands.ensures c.args.board.now.known c.requires.lone.known) c.requires.place c.in-Overrun.ensures.call c.in-Overrun.ensures.exact

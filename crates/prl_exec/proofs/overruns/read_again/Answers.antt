use Rattle.prl_exec.proofs.Missing.{overrun_there, reading_may}
use Rattle.prl_exec.proofs.overruns.read_again.Goals as goal

pub read-requires-clause-place : goal.read-requires-clause-place
read-requires-clause-place g c = reading_may c.args.lone.now c.args.task.0 c.args.port c.requires.place

pub returns-in-Overrun-clause-met : goal.returns-in-Overrun-clause-met
returns-in-Overrun-clause-met g c =
    let k = c.args.board.now.known in
    overrun_there k c.args.lone.now c.read.new.self c.args.task c.args.port c.job.result c.in-Overrun.cell c.in-Overrun.wanted c.in-Overrun.found
    (c.stands.ensures k c.requires.lone.known) c.requires.place c.in-Overrun.ensures.call c.in-Overrun.ensures.exact c.job.ensures

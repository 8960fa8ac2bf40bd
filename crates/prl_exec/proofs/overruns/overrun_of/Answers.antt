use Rattle.prl_exec.proofs.Missing.{reading_placed}
use Rattle.prl_exec.proofs.overruns.overrun_of.Goals as goal

pub read_again-requires-clause-place : goal.read_again-requires-clause-place
read_again-requires-clause-place g c = reading_placed c.args.lone.now c.args.task.0 c.in-Reading.port c.in-Reading.field-1 c.requires.task c.in-Reading.ensures

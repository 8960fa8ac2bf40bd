use Rattle.std.proofs.Common.{subst}
use Rattle.prl_exec.specs.Runs.{IsRunFault}
use Rattle.prl_calls.specs.Stops.{given_of}
use Rattle.prl_executions.proofs.Preparing.{horizon_there, known_of, overrun_is}
use Rattle.prl_executions.proofs.running.outcome_of.Goals as goal

pub run_threads-requires-clause-horizon : goal.run_threads-requires-clause-horizon
run_threads-requires-clause-horizon g c κs outlives = horizon_there (given_of c.args.request.now) c.args.ready c.requires.ready

pub returns-in-Err-Overrun : goal.returns-in-Err-Overrun
returns-in-Err-Overrun g c =
    let fault = subst (IsRunFault (known_of c.args.ready c.args.gate)) c.in-Err-Overrun.field-0-is c.in-Err-Overrun.ensures.fault in
    rw c.in-Err-Overrun.field-0-is
    (overrun_is (given_of c.args.request.now) c.args.ready c.requires.ready c.args.gate c.in-Err-Overrun.stopped fault)

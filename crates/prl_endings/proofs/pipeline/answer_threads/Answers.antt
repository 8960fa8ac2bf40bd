use Rattle.prl_base.proofs.Standard.{◌++◌, sym, subst, err_from_is_err_and}
use Rattle.prl_arguments.specs.declared.arguments.Mode.{Mode}
use Rattle.prl_stages.specs.Stages.{front, ran, stages_after}
use Rattle.prl_calls.proofs.Asked.{asks_after, later_stages}
use Rattle.prl_endings.specs.Vocabulary.{AsksBy, IsAnswerOf, IsAnswerStop, HasFiles, files_of}
use Rattle.prl_executions.specs.Ready.{IsOutcome}
use Rattle.prl_calls.specs.Stops.{AsksFor, given_of, StopsIn}
use Rattle.prl_endings.proofs.Answered.{answer_stop, asked_by_files, asks_by_files, files_stop, outcome_answered}
use Rattle.prl_calls.proofs.Stops.{err_passed, ok_passed}
use Rattle.prl_endings.proofs.pipeline.answer_threads.Goals as goal

pub returns-in_err-request-clause-stop : goal.returns-in_err-request-clause-stop
returns-in_err-request-clause-stop g c =
    let p = err_from_is_err_and c.from_residual.result c.from_residual.ensures.1 in
    rw (p.1, p.2) (files_stop (g.F.Files.seen c.args.files.now) (g.F.Files.seen c.read_request.new.files) c.args.command.now c.in_err-request.field-0.0
    (subst HasFiles (sym c.requires.mode) tt) c.in_err-request.ensures.stop)

pub returns-clause-outcome : goal.returns-clause-outcome
returns-clause-outcome g c =
    let request = c.in_ok-request.request in
    let told = (g.F.Files.seen c.args.files.now).folder in
    let command = c.args.command.now in
    ok_passed (given_of request) (front ++ ran) (IsOutcome (given_of request) command.clock) (IsAnswerOf told command)
    (λ outcome is hold. outcome_answered told command c.requires.mode request c.in_ok-request.ensures.request outcome is hold)
    c.run_outcome.result c.run_outcome.ensures

pub returns-clause-stop : goal.returns-clause-stop
returns-clause-stop g c =
    let request = c.in_ok-request.request in
    let old = g.F.Files.seen c.args.files.now in
    let new = g.F.Files.seen c.read_request.new.files in
    let command = c.args.command.now in
    err_passed (given_of request) (front ++ ran) (IsOutcome (given_of request) command.clock) (IsAnswerStop old new command)
    (λ stop at. answer_stop old new command request stop (subst HasFiles (sym c.requires.mode) tt) c.in_ok-request.ensures.request c.in_ok-request.ensures.failed
    (subst (λ (m : Mode). StopsIn (given_of request) (stages_after m request.named) stop) (sym c.requires.mode) at)) c.run_outcome.result c.run_outcome.ensures

pub returns-in_err-request-clause-asks : goal.returns-in_err-request-clause-asks
returns-in_err-request-clause-asks g c =
    let command = c.args.command.now in
    let p = err_from_is_err_and c.from_residual.result c.from_residual.ensures.1 in
    rw (p.1, p.2) (asks_by_files command.mode (subst HasFiles (sym c.requires.mode) tt) (g.F.Files.seen c.args.files.now) (g.F.Files.seen c.read_request.new.files) command
    c.in_err-request.field-0.0 c.in_err-request.ensures.asks)

pub returns-clause-asked : goal.returns-clause-asked
returns-clause-asked g c =
    let request = c.in_ok-request.request in
    let old = g.F.Files.seen c.args.files.now in
    let new = g.F.Files.seen c.read_request.new.files in
    let command = c.args.command.now in
    ok_passed (given_of request) (front ++ ran) (IsOutcome (given_of request) command.clock) (λ _. AsksFor old new command (files_of command.mode))
    (λ outcome is hold. asked_by_files command.mode (subst HasFiles (sym c.requires.mode) tt) old new command c.in_ok-request.ensures.asked)
    c.run_outcome.result c.run_outcome.ensures

pub returns-clause-asks : goal.returns-clause-asks
returns-clause-asks g c =
    let request = c.in_ok-request.request in
    let old = g.F.Files.seen c.args.files.now in
    let new = g.F.Files.seen c.read_request.new.files in
    let command = c.args.command.now in
    err_passed (given_of request) (front ++ ran) (IsOutcome (given_of request) command.clock) (AsksBy command.mode old new command)
    (λ stop at. asks_by_files command.mode (subst HasFiles (sym c.requires.mode) tt) old new command stop
    (asks_after old new command (given_of request) (front ++ ran) tt stop at c.in_ok-request.ensures.asked)) c.run_outcome.result c.run_outcome.ensures

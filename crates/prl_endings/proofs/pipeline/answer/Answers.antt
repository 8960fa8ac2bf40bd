use Rattle.prl_base.proofs.Standard.{◌≡◌, Option, rules, err_from_is_err_and}
use Rattle.prl_stages.specs.Given.{Folder}
use Rattle.prl_stages.specs.Vocabulary.{stages_after, IsMeant}
use Rattle.prl_arguments.specs.declared.arguments.Mode.TheVariants as modes
use Rattle.prl_io.specs.Views.{FolderView}
use Rattle.prl_calls.proofs.Asked.{asks_after, later_stages}
use Rattle.prl_endings.specs.Answers.{AsksBy, IsAnswer, IsAnswerStop, files_of}
use Rattle.prl_calls.specs.Stops.{AsksFor, given_of}
use Rattle.prl_stages.specs.declared.stages.Stop.{Stop}
use Rattle.prl_calls.proofs.Stops.{err_passed, ok_map, ok_passed}
use Rattle.prl_endings.specs.code.Modes.{HasFiles}
use Rattle.prl_endings.proofs.Answered.{answered, answer_stop, asked_by_files, asks_by_files, err_map, files_stop, none_asked, none_asks}
use Rattle.prl_endings.proofs.pipeline.answer.Goals as goal

pub returns-in_err-request-clause-stop : goal.returns-in_err-request-clause-stop
returns-in_err-request-clause-stop g c =
    let has : HasFiles c.args.command.now.mode = search rules in
    let p = err_from_is_err_and c.from_residual.result c.from_residual.ensures.1 in
    rw (p.1, p.2) (files_stop (g.F.Files.seen c.args.files.now) (g.F.Files.seen c.read_request.new.files) c.args.command.now c.in_err-request.field-0.0 has c.in_err-request.ensures.stop)

pub returns-clause-text : goal.returns-clause-text
returns-clause-text g c =
    let request = c.in_ok-request.request in
    let told = (g.F.Files.seen c.args.files.now).folder in
    let command = c.args.command.now in
    let has : HasFiles command.mode = search rules in
    ok_passed (given_of request) (stages_after command.mode request.named) (λ made. IsMeant (given_of request) command made.0.items made.1)
    (λ made. IsAnswer told command made.0.items made.1)
    (λ made is hold. answered told command request has c.in_ok-request.ensures.request made.0.items made.1 is hold)
    c.requested.result c.requested.ensures

pub returns-clause-stop : goal.returns-clause-stop
returns-clause-stop g c =
    let request = c.in_ok-request.request in
    let old = g.F.Files.seen c.args.files.now in
    let new = g.F.Files.seen c.read_request.new.files in
    let command = c.args.command.now in
    let has : HasFiles command.mode = search rules in
    err_passed (given_of request) (stages_after command.mode request.named) (λ made. IsMeant (given_of request) command made.0.items made.1) (IsAnswerStop old new command)
    (λ stop at. answer_stop old new command request stop has c.in_ok-request.ensures.request c.in_ok-request.ensures.failed at)
    c.requested.result c.requested.ensures

pub returns-then-eq-clause-text : goal.returns-then-eq-clause-text
returns-then-eq-clause-text g c =
    let told = (g.F.Files.seen c.args.files.now).folder in
    ok_map c.generated_text.result (λ made. (known : Option Folder) → IsAnswer known c.args.command.now made.0.items made.1)
    (λ made. IsAnswer told c.args.command.now made.0.items made.1) (λ made is. is told) c.generated_text.ensures.text

pub returns-in_err-request-clause-asks : goal.returns-in_err-request-clause-asks
returns-in_err-request-clause-asks g c =
    let command = c.args.command.now in
    let has : HasFiles command.mode = search rules in
    let p = err_from_is_err_and c.from_residual.result c.from_residual.ensures.1 in
    rw (p.1, p.2) (asks_by_files command.mode has (g.F.Files.seen c.args.files.now) (g.F.Files.seen c.read_request.new.files) command c.in_err-request.field-0.0 c.in_err-request.ensures.asks)

pub returns-clause-asked : goal.returns-clause-asked
returns-clause-asked g c =
    let request = c.in_ok-request.request in
    let old = g.F.Files.seen c.args.files.now in
    let new = g.F.Files.seen c.read_request.new.files in
    let command = c.args.command.now in
    let has : HasFiles command.mode = search rules in
    ok_passed (given_of request) (stages_after command.mode request.named) (λ made. IsMeant (given_of request) command made.0.items made.1)
    (λ _. AsksFor old new command (files_of command.mode)) (λ made is hold. asked_by_files command.mode has old new command c.in_ok-request.ensures.asked)
    c.requested.result c.requested.ensures

pub returns-clause-asks : goal.returns-clause-asks
returns-clause-asks g c =
    let request = c.in_ok-request.request in
    let old = g.F.Files.seen c.args.files.now in
    let new = g.F.Files.seen c.read_request.new.files in
    let command = c.args.command.now in
    let has : HasFiles command.mode = search rules in
    let list = stages_after command.mode request.named in
    err_passed (given_of request) list (λ made. IsMeant (given_of request) command made.0.items made.1) (AsksBy command.mode old new command)
    (λ stop at. asks_by_files command.mode has old new command stop
    (asks_after old new command (given_of request) list (later_stages command.mode request.named) stop at c.in_ok-request.ensures.asked))
    c.requested.result c.requested.ensures

pub returns-then-eq-clause-asked : goal.returns-then-eq-clause-asked
returns-then-eq-clause-asked g c =
    let old = g.F.Files.seen c.args.files.now in
    let command = c.args.command.now in
    let is : command.mode ≡ modes.Generate = search rules in
    ok_map c.generated_text.result (λ made. (known : Option Folder) → IsAnswer known command made.0.items made.1)
    (λ _. AsksFor old old command (files_of command.mode)) (λ _ _. none_asked command.mode is old command) c.generated_text.ensures.text

pub returns-then-eq-clause-asks : goal.returns-then-eq-clause-asks
returns-then-eq-clause-asks g c =
    let old = g.F.Files.seen c.args.files.now in
    let command = c.args.command.now in
    let is : command.mode ≡ modes.Generate = search rules in
    err_map c.generated_text.result (λ (stop : Stop). (folder : FolderView) → IsAnswerStop folder folder command stop)
    (AsksBy command.mode old old command) (λ stop _. none_asks command.mode is old command stop) c.generated_text.ensures.stop

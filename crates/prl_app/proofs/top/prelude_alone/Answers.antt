use Rattle.prl_base.proofs.Standard.{map, ap, ◌∙◌, string_bytes}
use Rattle.prl_endings.specs.Statuses.{status_of}
use Rattle.prl_app.specs.Endings.{Outside}
use Rattle.prl_app.proofs.Exact.{answers_by}
use Rattle.prl_app.proofs.top.prelude_alone.Goals as goal

pub returns-in-Some-clause-answers : goal.returns-in-Some-clause-answers
returns-in-Some-clause-answers g c =
    let words = map string_bytes c.args.words.now in
    let err = g.E.Sink.seen c.args.err.now in
    let told = g.E.Sink.seen c.finish.new.err in
    let old : Outside = record { files = g.F.Files.seen c.args.files.now; out = g.S.Sink.seen c.args.out.now; err = err } in
    let new : Outside = record { files = g.F.Files.seen c.perform_alone.new.files; out = g.S.Sink.seen c.perform_alone.new.out; err = told } in
    answers_by c.stages_end_one_way.ensures words old new c.finish.result c.in-Some.command c.in-Some.ending c.finish.ensures.code c.finish.ensures.ran
    (c.in-Some.ensures.ends err told) c.in-Some.ensures.line c.finish.ensures.told c.in-Some.ensures.read c.in-Some.ensures.kept

pub returns-in-Some-clause-alone : goal.returns-in-Some-clause-alone
returns-in-Some-clause-alone g c = λ asks. c.finish.ensures.code ∙ ap status_of (c.in-Some.ensures.alone asks)

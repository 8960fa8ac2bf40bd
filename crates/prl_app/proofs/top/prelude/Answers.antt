use Rattle.prl_base.proofs.Standard.{map, subst, string_bytes}
use Rattle.prl_app.specs.Endings.{Answers, Outside}
use Rattle.prl_app.proofs.Exact.{answers_by}
use Rattle.prl_app.proofs.top.prelude.Goals as goal

pub returns-in-None : goal.returns-in-None
returns-in-None g c =
    let words = map string_bytes c.args.words.now in
    let err = g.E.Sink.seen c.prelude_alone.new.err in
    let told = g.E.Sink.seen c.finish.new.err in
    let mid : Outside = record { files = g.F.Files.seen c.prelude_alone.new.files; out = g.S.Sink.seen c.prelude_alone.new.out; err = err } in
    let new : Outside = record { files = g.F.Files.seen c.perform_threads-command.new.files; out = g.S.Sink.seen c.perform_threads-command.new.out; err = told } in
    record {
      answers =
          subst (λ (old : Outside). Answers words old new c.finish.result) c.in-None.ensures.untouched
          (answers_by c.stages_end_one_way.ensures words mid new c.finish.result c.perform_threads-command.result.0 c.perform_threads-command.result.1
          c.finish.ensures.code c.finish.ensures.ran (c.perform_threads-command.ensures.ends err told) c.perform_threads-command.ensures.line c.finish.ensures.told
          c.perform_threads-command.ensures.read c.perform_threads-command.ensures.kept);
    }

use Rattle.prl_base.proofs.Standard.{ℕ, List, map, refl, subst, string_bytes}
use Rattle.prl_endings.specs.Answers.{IsAnswerOf}
use Rattle.prl_app.specs.Vocabulary.{Outside, IsWrittenBy}
use Rattle.prl_app.proofs.Exact.{overrun_ends, stop_performs, written_ends, written_reads}
use Rattle.prl_app.proofs.top.perform_run.Goals as goal

pub returns-in-Ok-Ended-clause-ends : goal.returns-in-Ok-Ended-clause-ends
returns-in-Ok-Ended-clause-ends g c = λ err_old err_new.
    let words = map string_bytes c.args.words.now in
    let old : Outside = record { files = g.F.Files.seen c.args.files.now; out = g.S.Sink.seen c.args.out.now; err = err_old } in
    let new : Outside = record { files = g.F.Files.seen c.answer_threads.new.files; out = g.S.Sink.seen c.written.new.out; err = err_new } in
    let a = c.in-Ok-Ended.ensures in
    let of = subst (IsAnswerOf old.files.folder c.args.command.now) c.in-Ok-Ended.field-0-is a.outcome in
    written_ends words old new c.in-Ok-Ended.text.items c.in-Ok-Ended.ran c.written.result
    (record { command = c.args.command.now; asked = c.requires.asked; given = of.0; is_given = of.1; comes = of.2; meant = of.3 })
    (subst (λ (t : List ℕ). IsWrittenBy old.out new.out t c.in-Ok-Ended.ran c.written.result) c.deref.ensures.value c.written.ensures) a.failed

pub returns-in-Ok-Overrun-clause-ends : goal.returns-in-Ok-Overrun-clause-ends
returns-in-Ok-Overrun-clause-ends g c = λ err_old err_new.
    let words = map string_bytes c.args.words.now in
    let out = g.S.Sink.seen c.args.out.now in
    let old : Outside = record { files = g.F.Files.seen c.args.files.now; out = out; err = err_old } in
    let new : Outside = record { files = g.F.Files.seen c.answer_threads.new.files; out = out; err = err_new } in
    let a = c.in-Ok-Overrun.ensures in
    let of = subst (IsAnswerOf old.files.folder c.args.command.now) c.in-Ok-Overrun.field-0-is a.outcome in
    overrun_ends words old new c.args.command.now c.requires.asked c.requires.mode c.requires.several c.in-Ok-Overrun.plan c.in-Ok-Overrun.stopped of refl a.failed

pub returns-in-Err-clause-ends : goal.returns-in-Err-clause-ends
returns-in-Err-clause-ends g c =
    stop_performs (map string_bytes c.args.words.now) (g.F.Files.seen c.args.files.now) (g.F.Files.seen c.answer_threads.new.files) (g.S.Sink.seen c.args.out.now)
    c.args.command.now c.requires.asked c.in-Err.stop c.in-Err.ensures.stop

pub returns-in-Ok-Ended-clause-read : goal.returns-in-Ok-Ended-clause-read
returns-in-Ok-Ended-clause-read g c =
    let old = g.S.Sink.seen c.args.out.now in
    let new = g.S.Sink.seen c.written.new.out in
    written_reads c.args.command.now (g.F.Files.seen c.args.files.now) (g.F.Files.seen c.answer_threads.new.files) old new c.in-Ok-Ended.text.items c.in-Ok-Ended.ran c.written.result
    (subst (λ (t : List ℕ). IsWrittenBy old new t c.in-Ok-Ended.ran c.written.result) c.deref.ensures.value c.written.ensures) c.in-Ok-Ended.ensures.asked
